-- `messages::put_keep_alive` meets its contract: the test is the definition's.
use Rattle.layout.specs.Table.{row_of, bit_of}
use Rattle.layout.specs.Write.{word_of}
use Rattle.messages.proofs.Putting.{asked_record, not_asked}
use Rattle.messages.proofs.put_keep_alive.Goals as goal

pub returns-then-asked : goal.returns-then-asked
unfolding word_of bit_of row_of
returns-then-asked c = asked_record _ c.if-asked.true c.put_empty.ensures

pub returns : goal.returns
returns c = not_asked _ _ _ _ c.if-asked.false
