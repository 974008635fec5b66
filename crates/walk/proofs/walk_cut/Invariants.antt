-- `walk::walk_cut` meets its contract. The loop's invariant: the cells stand for the records met so far, and the walk from the place on, with
-- those that were noted, is the whole walk.
use Prim.Native.Nat.{◌-◌}
use lib.ListN.{length}
use Rattle.walk.proofs.Going.{Going}
use Rattle.walk.proofs.walk_cut.Given as goal

abbrev pub invariant-loop-at : goal.invariant-loop-at
invariant-loop-at l = Going (record { profile = l.profile; entries = l.rules }) l.cut l.at l.cells

abbrev pub decreases-loop-at : goal.decreases-loop-at
decreases-loop-at l = length l.cut - l.at
