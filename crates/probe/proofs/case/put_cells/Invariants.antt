-- `probe::case::put_cells` ends, and the index stays within the cells.
use Rattle.std.proofs.Common.{◌-◌, ◌≤◌, length}
use Rattle.probe.proofs.case.put_cells.Given as goal

abbrev pub invariant-loop-i : goal.invariant-loop-i
invariant-loop-i l = l.i ≤ length l.cells

abbrev pub decreases-loop-i : goal.decreases-loop-i
decreases-loop-i l = length l.cells - l.i
