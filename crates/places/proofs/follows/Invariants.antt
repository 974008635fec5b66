-- `places::follows` meets its contract: the records passed are of another kind.
use Prim.Native.Nat.{◌-◌}
use Rattle.places.proofs.Filling.{Seeking}
use Rattle.places.proofs.follows.Given as goal

abbrev pub invariant-loop-at : goal.invariant-loop-at
invariant-loop-at l = Seeking l.covered l.kind l.at l.here

abbrev pub decreases-loop-at : goal.decreases-loop-at
decreases-loop-at l = 65536 - l.here
