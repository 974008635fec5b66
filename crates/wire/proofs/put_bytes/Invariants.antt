-- `wire::put_bytes` meets its contract. The loop's invariant: the output is as it was, with the bytes passed at its front.
use mathlib.Core.Path.{◌≡◌}
use lib.ListN.{length, take}
use Rattle.wire.specs.Over.{over}
use Rattle.wire.proofs.put_bytes.Given as goal

abbrev pub invariant-loop-i : goal.invariant-loop-i
invariant-loop-i l = (length l.out ≡ length l.initial.out) × (l.out ≡ over (take l.i l.src) l.initial.out)
