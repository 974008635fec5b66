-- `walk::same_numbers` meets its contract: the loop compares number by number, and up to its index they are the same.
use Prim.Native.Nat.{◌-◌}
use lib.ListN.{length}
use Rattle.walk.proofs.Sameness.{Alike}
use Rattle.walk.proofs.same_numbers.Given as goal

abbrev pub invariant-loop-i : goal.invariant-loop-i
invariant-loop-i l = Alike l.numbers l.others l.i

abbrev pub decreases-loop-i : goal.decreases-loop-i
decreases-loop-i l = length l.numbers - l.i
