-- `negotiation::has` meets its contract: the loop's invariant is that the numbers passed are others. The measure is how many are left.
use Prim.Native.Nat.{◌-◌}
use lib.ListN.{length}
use Rattle.negotiation.proofs.Searching.{Seeking}
use Rattle.negotiation.proofs.has.Given as goal

abbrev pub invariant-loop-i : goal.invariant-loop-i
invariant-loop-i l = Seeking l.list l.n l.i

abbrev pub decreases-loop-i : goal.decreases-loop-i
decreases-loop-i l = length l.list - l.i
