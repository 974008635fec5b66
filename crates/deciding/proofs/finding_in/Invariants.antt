-- `deciding::finding_in` meets its contract: the loop's invariant is that what was copied are the cells behind the first three.
use Rattle.deciding.proofs.Copying.{Copying}
use Rattle.deciding.proofs.finding_in.Given as goal

abbrev pub invariant-loop-i : goal.invariant-loop-i
invariant-loop-i l = Copying l.found l.cells l.i
