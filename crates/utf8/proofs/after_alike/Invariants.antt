-- `utf8::after_alike` meets its contract. The loop's invariant: up to the place reached, which is inside, only what the check could not
-- refuse was passed over. A sequence of the class is passed whole. The measure is what is left of the length.
use Prim.Native.Nat.{◌-◌, ◌≤◌}
use lib.ListN.{length}
use Rattle.utf8.specs.Lead.{Passed}
use Rattle.utf8.proofs.after_alike.Given as goal

abbrev pub invariant-loop-i : goal.invariant-loop-i
invariant-loop-i l = Passed l.s l.at l.i × (l.i ≤ length l.s)

abbrev pub decreases-loop-i : goal.decreases-loop-i
decreases-loop-i l = length l.s - l.i
