-- `utf8::is_ascii` meets its contract. The loop's invariant: whether all of the bytes so far are ASCII.
use mathlib.Core.Path.{◌≡◌}
use lib.ListN.{take}
use Rattle.utf8.specs.Ascii.{is_ascii}
use Rattle.utf8.proofs.is_ascii.Given as goal

abbrev pub invariant-loop-b : goal.invariant-loop-b
invariant-loop-b l = l.all ≡ is_ascii (take l.b-index l.s)
