-- `probe::lent::are_kept` ends: each turn leaves fewer cells.
use Rattle.std.proofs.Common.{◌-◌}
use Rattle.probe.proofs.lent.are_kept.Given as goal

abbrev pub decreases-loop-i : goal.decreases-loop-i
decreases-loop-i l = l.cells - l.i
