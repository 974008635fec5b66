-- `deciding::finding_cells` meets its contract: the loop's invariant is that the cells copied are what was found, and the first three stay.
use Rattle.deciding.proofs.Copying.{Putting}
use Rattle.deciding.proofs.finding_cells.Given as goal

abbrev pub invariant-loop-i : goal.invariant-loop-i
invariant-loop-i l = Putting l.found-items l.initial.cells l.cells l.i
