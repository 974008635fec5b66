-- `messages::put_cells` meets its contract: the loop's invariant is that the first cells stand in the output.
use Prim.Native.Nat.{◌-◌}
use lib.ListN.{length}
use Rattle.messages.proofs.Putting.{Cells}
use Rattle.messages.proofs.put_cells.Given as goal

abbrev pub invariant-loop-i : goal.invariant-loop-i
invariant-loop-i l = Cells l.cells l.initial.out l.out l.i l.at

abbrev pub decreases-loop-i : goal.decreases-loop-i
decreases-loop-i l = length l.cells - l.i
