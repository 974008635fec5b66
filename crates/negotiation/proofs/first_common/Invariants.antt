-- `negotiation::first_common` meets its contract: the loop's invariant is that the own list holds none of the numbers passed. The measure is
-- how many bytes are left.
use Prim.Native.Nat.{◌-◌}
use lib.ListN.{length}
use Rattle.negotiation.proofs.Searching.{Choosing}
use Rattle.negotiation.proofs.first_common.Given as goal

abbrev pub invariant-loop-at : goal.invariant-loop-at
invariant-loop-at l = Choosing l.list l.own l.at

abbrev pub decreases-loop-at : goal.decreases-loop-at
decreases-loop-at l = length l.list - l.at
