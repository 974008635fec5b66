-- The lent table of 16-bit cells: 01, "From records to a request" and "Choosing and replying": two cells a record, start and length of its
-- body, in message order; the room is half the cells, rounded down; cells past the last do not change.
use Rattle.std.specs.Prelude.{ℕ, zero, suc, ◌+◌, ◌*◌, ◌/◌, ◌≤◌, ◌≡◌, List, [], ◌∷◌, ◌++◌, Bool, cond, ◌||◌, length, get_or, take, drop, ltb, eqb}
use Rattle.std.specs.Borrow.{Bor}
use Rattle.wire.specs.Bytes.{part_at, PartOf}
use Rattle.wire.specs.Over.{over}
use Rattle.nts.specs.Refusal.{nothing, Refused, told_refusal}
use Rattle.record.specs.Record.{kind, size}
use Rattle.walk.specs.Walk.{Sighting}
use Rattle.places.specs.declared.Filled.{Filled}
use Rattle.places.specs.declared.Filled.TheVariants as filled

abbrev pub cells : List Sighting → List ℕ
cells [] = []
cells (x ∷ d) = x.start ∷ x.len ∷ cells d

-- for how many records a table has room
abbrev pub room_of : List ℕ → ℕ
room_of table = length table / 2

-- the body at an index of a table, as part of the message; a cell that is not there counts as 0
unfoldable pub entry_in : List ℕ → List ℕ → ℕ → List ℕ
entry_in m table i = part_at m (get_or table (2 * i) 0) (get_or table (2 * i + 1) 0)

-- r refers to it in the message that m refers to
abbrev pub EntryOf : Bor (List ℕ) → List ℕ → ℕ → Bor (List ℕ) → Type 0
EntryOf m table i r = PartOf m (get_or table (2 * i) 0) (get_or table (2 * i + 1) 0) r

-- so many of them, from an index on
abbrev pub entries_from : List ℕ → List ℕ → ℕ → ℕ → List (List ℕ)
entries_from m table i zero = []
entries_from m table i (suc n) = entry_in m table i ∷ entries_from m table (i + 1) n

-- ---- the records of one kind among the whole records that bytes begin with

-- the record at the front of s, which begins at `at`, if it is of kind k
unfoldable pub sighted : ℕ → ℕ → List ℕ → List Sighting
sighted k at s = cond (eqb (kind s) k) (record { of = k; start = at + 4; len = size s } ∷ []) []

-- from s on, which begins at `at`, after j more bytes of the record begun
unfoldable pub places_from : ℕ → ℕ → ℕ → List ℕ → List Sighting
places_from k at j [] = []
places_from k at (suc j) (b ∷ s) = places_from k at j s
places_from k at zero (b ∷ s) =
    cond (ltb (length (b ∷ s)) (4 + size (b ∷ s)))
    []
    (sighted k at (b ∷ s) ++ places_from k (at + (4 + size (b ∷ s))) (3 + size (b ∷ s)) s)

unfoldable pub places_in : ℕ → List ℕ → List Sighting
places_in k s = places_from k 0 0 s

-- ---- the first of them put into a table

unfoldable pub first_places : ℕ → ℕ → List ℕ → List Sighting
first_places k count s = take count (places_in k s)

-- a table does not hold so many: they are more than it has room for, or the bytes more than a cell can count
unfoldable pub too_many : ℕ → List ℕ → ℕ → Bool
too_many count s room = ltb room count || ltb 65535 (length s)

-- all of them were stored, so many; the first so many, and more follow; or 7 at the place behind the bytes
pub data Filling : Type 0 where
  stored : ℕ → Filling
  first : ℕ → Filling
  refused_with : Refused → Filling

unfoldable pub filling_of : ℕ → ℕ → List ℕ → ℕ → Filling
filling_of k count s room =
    cond (too_many count s room)
    (refused_with (record { number = 7; beside = nothing; place = length s }))
    (cond (ltb count (length (places_in k s))) (first count) (stored (length (places_in k s))))

unfoldable pub table_with : ℕ → ℕ → List ℕ → List ℕ → List ℕ
table_with k count s table = cond (too_many count s (room_of table)) table (over (cells (first_places k count s)) table)

abbrev pub told_filled : Filled → Filling
told_filled (filled.Stored n) = stored n
told_filled (filled.First n) = first n
told_filled (filled.Refused r) = refused_with (told_refusal r)

-- n of them are stored, which are the first, and those behind them begin at or behind the place `at`
pub record Holds (k count : ℕ) (s table : List ℕ) (n at : ℕ) (table' : List ℕ) : Type 0 where
  pub inside : at ≤ length s
  pub many : n ≡ length (first_places k count s)
  pub rest : places_in k s ≡ first_places k count s ++ places_from k at 0 (drop at s)
  pub left : table' ≡ over (cells (first_places k count s)) table

pub record Fills (k count : ℕ) (s table : List ℕ) (r : Filled) (table' : List ℕ) : Type 0 where
  pub says : told_filled r ≡ filling_of k count s (room_of table)
  pub left : table' ≡ table_with k count s table
