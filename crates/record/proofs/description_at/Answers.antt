-- `record::description_at` meets its contract: the index is inside exactly where the definition tests it.
use Rattle.record.proofs.Entry.{pair_inside, pair_outside, pair_handed_on}
use Rattle.record.proofs.description_at.Goals as goal

pub returns-then-index-bytes : goal.returns-then-index-bytes
returns-then-index-bytes c = pair_handed_on _ _ _ _ (pair_inside _ _ _ _ c.if-index-bytes.true c.number_at.ensures c.number_at-then-index-bytes.ensures) c.of-bytes.ensures.holds

pub returns : goal.returns
returns c = pair_handed_on _ _ _ _ (pair_outside _ _ c.if-index-bytes.false) c.of-bytes.ensures.holds
