-- `utf8::is_utf8_in` meets its contract. The loop's invariant: the answer from the place reached, which is inside, is the answer from the
-- first place. A turn passes the sequences alike that begin there, and the ASCII bytes after them. The measure is what is left of the length.
use mathlib.Core.Path.{◌≡◌}
use Prim.Native.Nat.{◌-◌, ◌≤◌}
use lib.ListN.{length, drop}
use Rattle.utf8.specs.Utf8.{well_formed}
use Rattle.utf8.proofs.is_utf8_in.Given as goal

abbrev pub invariant-loop-i : goal.invariant-loop-i
invariant-loop-i l = (well_formed (drop l.i l.s) ≡ well_formed (drop l.at l.s)) × (l.i ≤ length l.s)

abbrev pub decreases-loop-i : goal.decreases-loop-i
decreases-loop-i l = length l.s - l.i
