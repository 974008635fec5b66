-- The records that a walk meets, refused or not: 01, "The listing program": each record that reads whole, up to and with the end or the one
-- refused.
use Rattle.std.specs.Prelude.{ℕ, zero, suc, ◌+◌, List, [], ◌∷◌, Bool, cond, not, eqb}
use Rattle.record.specs.Record.{kind, critical, size}
use Rattle.layout.specs.Table.{is_unknown_shape}
use Rattle.layout.specs.declared.Shape.{Shape}
use Rattle.walk.specs.Walk.{Reader, Sighting, stops, goes, step, fault_in}

pub record Mark : Type 0 where
  pub place : ℕ
  pub kind : ℕ
  pub critical : Bool
  pub size : ℕ

-- the record at the front of s, which begins at `at`
abbrev pub mark_at : ℕ → List ℕ → Mark
mark_at at s = record { place = at; kind = kind s; critical = critical s; size = size s }

-- from s on, as in `walk`
unfoldable pub shown : Reader → List Sighting → ℕ → ℕ → List ℕ → List Mark
shown R st at k [] = []
shown R st at (suc k) (b ∷ s) = shown R st at k s
shown R st at zero (b ∷ s) =
    cond (eqb (fault_in R (b ∷ s)) 0)
    (mark_at at (b ∷ s) ∷ elim (step R st at (b ∷ s)) [ stops o ↦ [] | goes st' ↦ shown R st' (at + (4 + size (b ∷ s))) (3 + size (b ∷ s)) s ])
    []

-- ---- by kind

-- where a kind is counted, by what each kind's body holds: unknown ones together, under 11
unfoldable pub slot_of : (ℕ → Shape) → ℕ → ℕ
slot_of shape k = cond (not (is_unknown_shape (shape k))) k 11

-- a record as it is counted, and where its body lies
abbrev pub counted : (ℕ → Shape) → Mark → Sighting
counted shape x = record { of = slot_of shape x.kind; start = x.place + 4; len = x.size }
