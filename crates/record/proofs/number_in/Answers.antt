-- `record::number_in` meets its contract: the index is inside exactly where the definition tests it.
use Rattle.record.proofs.Entry.{number_inside, number_outside}
use Rattle.record.proofs.number_in.Goals as goal

pub returns-then-index-list : goal.returns-then-index-list
returns-then-index-list c = number_inside _ _ _ c.if-index-list.true c.number_at.ensures

pub returns : goal.returns
returns c = number_outside _ _ c.if-index-list.false
