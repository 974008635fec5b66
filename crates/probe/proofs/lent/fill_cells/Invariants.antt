-- `probe::lent::fill_cells` ends: each turn leaves fewer cells.
use Rattle.std.proofs.Common.{◌-◌, length}
use Rattle.probe.proofs.lent.fill_cells.Given as goal

abbrev pub decreases-loop-i : goal.decreases-loop-i
decreases-loop-i l = length l.table - l.i
