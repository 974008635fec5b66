-- `listing::put_lines` meets its contract. The loop's invariant: what is written so far, with the lines from here on, is all the lines.
-- The measure is what is left of the message.
use Prim.Native.Nat.{◌-◌}
use lib.ListN.{length}
use Rattle.listing.proofs.Passes.{Writing}
use Rattle.listing.proofs.put_lines.Given as goal

abbrev pub invariant-loop-x : goal.invariant-loop-x
invariant-loop-x l = Writing l.cut l.place l.initial.out l.out l.at l.to

abbrev pub decreases-loop-x : goal.decreases-loop-x
decreases-loop-x l = length l.cut - l.at
