-- `probe::lent::keep` ends: each turn leaves fewer cells.
use Rattle.std.proofs.Common.{◌-◌}
use Rattle.probe.proofs.lent.keep.Given as goal

abbrev pub decreases-loop-i : goal.decreases-loop-i
decreases-loop-i l = l.cells - l.i
