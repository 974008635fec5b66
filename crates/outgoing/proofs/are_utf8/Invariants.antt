-- `outgoing::are_utf8` meets its contract: the loop's invariant is that the bodies passed are UTF-8.
use Prim.Native.Nat.{◌-◌}
use Rattle.outgoing.proofs.Judging.{Checking}
use Rattle.outgoing.proofs.are_utf8.Given as goal

abbrev pub invariant-loop-at : goal.invariant-loop-at
invariant-loop-at l = Checking l.tray l.used l.at

abbrev pub decreases-loop-at : goal.decreases-loop-at
decreases-loop-at l = l.used - l.at
