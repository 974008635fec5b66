use Rattle.walk.proofs.Looking.{slot_low, slot_high}
use Rattle.walk.proofs.slot_of.Goals as goal

pub returns-then-slot-lt-KINDS : goal.returns-then-slot-lt-KINDS
returns-then-slot-lt-KINDS c = slot_low _ c.if-slot-lt-KINDS.true

pub returns : goal.returns
returns c = slot_high _ c.if-slot-lt-KINDS.false
