-- `probe::lent::are_filled` ends: each turn leaves fewer cells.
use Rattle.std.proofs.Common.{◌-◌, length}
use Rattle.probe.proofs.lent.are_filled.Given as goal

abbrev pub decreases-loop-i : goal.decreases-loop-i
decreases-loop-i l = length l.table - l.i
