-- `listing::lines_fit` meets its contract. The loop's invariant: what the lines passed so far took of the room is their length. The measure
-- is what is left of the message.
use Prim.Native.Nat.{◌-◌}
use lib.ListN.{length}
use Rattle.listing.proofs.Passes.{Fitting}
use Rattle.listing.proofs.lines_fit.Given as goal

abbrev pub invariant-loop-x : goal.invariant-loop-x
invariant-loop-x l = Fitting l.cut l.place l.room l.at l.left

abbrev pub decreases-loop-x : goal.decreases-loop-x
decreases-loop-x l = length l.cut - l.at
