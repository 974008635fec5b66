-- `supporting::put_list_if` meets its contract: the test is the definition's.
use Rattle.messages.proofs.Putting.{list_tried, asked_record, not_asked}
use Rattle.supporting.proofs.Judging.{asked_short}
use Rattle.supporting.proofs.put_list_if.Goals as goal

pub returns-then-asked : goal.returns-then-asked
returns-then-asked c = asked_record _ c.if-asked.true (list_tried _ c.args.cells.now (asked_short _ _ c.if-asked.true c.requires) c.put_list.ensures)

pub returns : goal.returns
returns c = not_asked _ _ _ _ c.if-asked.false
