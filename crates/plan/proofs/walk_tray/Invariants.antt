-- `plan::walk_tray` meets its contract: the loop's invariant is that the fields passed stand in front of those of the rest.
use Prim.Native.Nat.{◌-◌}
use Rattle.plan.proofs.Walking.{Going}
use Rattle.plan.proofs.walk_tray.Given as goal

abbrev pub invariant-loop-at : goal.invariant-loop-at
invariant-loop-at l = Going l.tag l.used l.tray l.at l.fields l.bytes

abbrev pub decreases-loop-at : goal.decreases-loop-at
decreases-loop-at l = l.used - l.at
