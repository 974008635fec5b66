-- What is handed out as cells is what the library hands out as bytes.
-- Assumes nothing.
use mathlib.Core.Path.{◌≡◌, refl, ap, ◌∙◌}
use mathlib.Core.Bool.{Bool, true, false, cond}
use mathlib.Core.List.{List, [], ◌∷◌}
use Prim.Native.Nat.{ℕ, ◌+◌, ◌*◌}
use denote.Ref.{Bor}
use lib.ListN.{length, get_or}
use lib.Dec.{leb}
use borrow.Author.Tests.{leb-false}
use Rattle.wire.specs.Bytes.{part_at, start_at, PartOf}
use Rattle.wire.proofs.Bytes.{part_none, part_empty}
use Rattle.places.specs.Places.{entry_in, EntryOf}
use Rattle.handing.specs.Handed.{part_cells, entry_cells}

-- the start and length that the cells hand out are those of the bytes that `wire::part` hands out
pub part_handed : (m : List ℕ) (start len : ℕ)
    → part_at m (get_or (part_cells (length m) start len) 0 0) (get_or (part_cells (length m) start len) 1 0) ≡ part_at m start len
part_handed m start len = go (leb (start + len) (length m)) refl
  where
    go : (t : Bool) → leb (start + len) (length m) ≡ t
        → part_at m (get_or (cond t (start ∷ len ∷ []) (0 ∷ 0 ∷ [])) 0 0) (get_or (cond t (start ∷ len ∷ []) (0 ∷ 0 ∷ [])) 1 0) ≡ part_at m start len
    go true e = refl
    go false e = part_empty m ∙ (part_none m start len (leb-false (start + len) (length m) e)).0

-- .. and the start is how far behind the front of the message they lie
pub part_placed : {m r : Bor (List ℕ)} (start len : ℕ) → PartOf m start len r → r.ref_ptr.1 ≡ m.ref_ptr.1 + get_or (part_cells (length m.now) start len) 0 0
unfolding start_at
part_placed {m} start len p = p.offset ∙ ap (λ (n : ℕ). m.ref_ptr.1 + n) (go (leb (start + len) (length m.now)))
  where
    go : (t : Bool) → cond t start 0 ≡ get_or (cond t (start ∷ len ∷ []) (0 ∷ 0 ∷ [])) 0 0
    go true = refl
    go false = refl

-- the same of an entry and the bytes that `places::entry` hands out
pub entry_handed : (m table : List ℕ) (i : ℕ)
    → part_at m (get_or (entry_cells (length m) table i) 0 0) (get_or (entry_cells (length m) table i) 1 0) ≡ entry_in m table i
unfolding entry_in
entry_handed m table i = part_handed m (get_or table (2 * i) 0) (get_or table (2 * i + 1) 0)

pub entry_placed : {m r : Bor (List ℕ)} (table : List ℕ) (i : ℕ) → EntryOf m table i r → r.ref_ptr.1 ≡ m.ref_ptr.1 + get_or (entry_cells (length m.now) table i) 0 0
entry_placed table i p = part_placed (get_or table (2 * i) 0) (get_or table (2 * i + 1) 0) p
