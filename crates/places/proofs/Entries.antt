-- What is handed out of an accepted message: a part that was noted is the record's body, and the entries of a filled table are the bodies of
-- the records that it was filled with.
-- Assumes nothing.
use mathlib.Core.Path.{◌≡◌, refl, sym, ap, ◌∙◌}
use mathlib.Core.List.{List, [], ◌∷◌, ◌++◌, map, append_assoc}
use Prim.Native.Nat.{ℕ, ◌+◌, ◌*◌, ◌≤◌}
use native.Mathlib.Omega.{arith}
use borrow.Author.Tests.{le-leb}
use denote.Ref.{Bor}
use lib.ListN.{length, get_or, drop, length-append, length-drop}
use lib.Seq.{length-take-le, get_or_at, get_or-append-add}
use Rattle.wire.specs.Bytes.{part_at}
use Rattle.wire.specs.Over.{over}
use Rattle.walk.specs.Walk.{Sighting}
use Rattle.walk.specs.Judge.{body_in}
use Rattle.walk.proofs.Noted.{Inside}
use Rattle.places.specs.Places.{cells, entry_in, EntryOf, entries_from}

module _ (m : List ℕ) (x : Sighting) (h : x.start + x.len ≤ length m) where
  pub body_length : length (body_in m x) ≡ x.len
  body_length = length-take-le x.len (drop x.start m) (omega (arith, length-drop x.start m))

  pub part_body : part_at m x.start x.len ≡ body_in m x
  unfolding part_at
  part_body = rw (le-leb (x.start + x.len) (length m) h)

-- what `places::entry` refers to is the entry
pub entry_holds : {m r : Bor (List ℕ)} (table : List ℕ) (i : ℕ) → EntryOf m table i r → r.now ≡ entry_in m.now table i
unfolding entry_in
entry_holds table i p = p.holds

module _ (m rest : List ℕ) where
  entries_behind : (front : List ℕ) (i : ℕ) (d : List Sighting) → length front ≡ 2 * i → Inside (length m) d
      → entries_from m (front ++ (cells d ++ rest)) i (length d) ≡ map (body_in m) d
  unfolding entry_in
  entries_behind front i [] l h = refl
  entries_behind front i (x ∷ d) l h =
      let two = x.start ∷ x.len ∷ [] in
      let more = cells d ++ rest in
      let moved : front ++ (x.start ∷ x.len ∷ more) ≡ (front ++ two) ++ more = sym (append_assoc front two more) in
      let start : get_or (front ++ (x.start ∷ x.len ∷ more)) (2 * i) 0 ≡ x.start = get_or_at front x.start (x.len ∷ more) 0 (2 * i) l in
      let len : get_or (front ++ (x.start ∷ x.len ∷ more)) (2 * i + 1) 0 ≡ x.len =
      ap (λ (n : ℕ). get_or (front ++ (x.start ∷ x.len ∷ more)) (n + 1) 0) (sym l) ∙ get_or-append-add front (x.start ∷ x.len ∷ more) 1 0 in
      let entry : part_at m (get_or (front ++ (x.start ∷ x.len ∷ more)) (2 * i) 0) (get_or (front ++ (x.start ∷ x.len ∷ more)) (2 * i + 1) 0) ≡ body_in m x =
      rw (start, len) (part_body m x h.0) in
      let others : entries_from m (front ++ (x.start ∷ x.len ∷ more)) (i + 1) (length d) ≡ map (body_in m) d =
      rw moved (entries_behind (front ++ two) (i + 1) d (omega (arith, length-append front two)) h.1) in
      cc

pub entries_back : (m table : List ℕ) (d : List Sighting) → Inside (length m) d → entries_from m (over (cells d) table) 0 (length d) ≡ map (body_in m) d
unfolding over
entries_back m table d h = entries_behind m (drop (length (cells d)) table) [] 0 d refl h
