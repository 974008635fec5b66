-- `places::store` meets its contract: the cells written are those of the records passed.
use Prim.Native.Nat.{◌-◌}
use Rattle.places.proofs.Filling.{Passing}
use Rattle.places.proofs.store.Given as goal

abbrev pub invariant-loop-n : goal.invariant-loop-n
invariant-loop-n l = Passing l.covered l.kind l.count l.initial.table l.at l.n l.table

abbrev pub decreases-loop-n : goal.decreases-loop-n
decreases-loop-n l = 65536 - l.at
