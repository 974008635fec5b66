-- What a number asks for and what lent cells hold is what the library's call was given.
-- Assumes nothing.
use mathlib.Core.Path.{◌≡◌}
use mathlib.Core.List.{List}
use Prim.Native.Nat.{ℕ}
use lib.ListN.{length}
use Rattle.layout.specs.Write.{fitted}
use Rattle.messages.specs.Messages.{message_of, support_records, support_checked}
use Rattle.messages.specs.declared.Asked.{Asked}
use Rattle.cells.specs.Cells.{counted, Gives, Writes}
use Rattle.writing.specs.Given.{Held, held_length, held_bytes}

module _ {lent after : List ℕ} {r : ℕ} where
  pub length_held : {h k : Held} (source : List ℕ) → h ≡ k → Gives (counted (held_length h source)) lent r after → Gives (counted (held_length k source)) lent r after
  length_held source e p = rw (← e) p

  pub record_held : {o o' : List ℕ} {h k : Held} (source : List ℕ) → h ≡ k → Writes (fitted (length o) (held_length h source)) (held_bytes h source) o lent r o' after
      → Writes (fitted (length o) (held_length k source)) (held_bytes k source) o lent r o' after
  record_held source e p = rw (← e) p

  pub support_asked : {o o' : List ℕ} (pairs protocols : List ℕ) {y z : Asked} → y ≡ z
      → Writes (fitted (length o) (support_checked y pairs protocols)) (message_of (support_records y pairs protocols)) o lent r o' after
      → Writes (fitted (length o) (support_checked z pairs protocols)) (message_of (support_records z pairs protocols)) o lent r o' after
  support_asked pairs protocols e p = rw (← e) p
