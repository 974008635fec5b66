-- `messages::put_empty` meets its contract: a header of size 0 is the record.
use Rattle.messages.proofs.Putting.{empty_record}
use Rattle.messages.proofs.put_empty.Goals as goal

pub returns : goal.returns
returns c = empty_record _ c.put_header.ensures
