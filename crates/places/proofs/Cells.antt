-- The table's cells: how many there are, and one pair stored behind those before it.
-- Assumes nothing.
use mathlib.Core.Path.{◌≡◌, refl, sym, ap, ◌∙◌}
use mathlib.Core.List.{List, [], ◌∷◌, ◌++◌}
use Prim.Native.Nat.{ℕ, ◌+◌, ◌*◌, ◌≤◌}
use native.Mathlib.Omega.{arith}
use lib.ListN.{length, get_or, set, take, length-append}
use lib.Seq.{take_at, take_all, get_or-append-add}
use Rattle.wire.specs.Over.{over}
use Rattle.wire.proofs.Over.{over_more}
use Rattle.walk.specs.Walk.{Sighting}
use Rattle.places.specs.Places.{cells}

pub cells_length : (d : List Sighting) → length (cells d) ≡ 2 * length d
cells_length [] = refl
cells_length (x ∷ d) = omega (arith, cells_length d)

cells_more : (d : List Sighting) (x : Sighting) → cells (d ++ (x ∷ [])) ≡ cells d ++ (x.start ∷ x.len ∷ [])
cells_more [] x = refl
cells_more (y ∷ d) x = ap (λ (l : List ℕ). y.start ∷ y.len ∷ l) (cells_more d x)

behind : (a b : List ℕ) (i j : ℕ) → i ≡ length a + j → get_or (a ++ b) i 0 ≡ get_or b j 0
behind a b i j e = ap (λ (k : ℕ). get_or (a ++ b) k 0) e ∙ get_or-append-add a b j 0

-- a record's two cells, stored behind those of the records before it
pub pair_stored : (d : List Sighting) (x : Sighting) (o : List ℕ) → 2 * length d + 2 ≤ length o
    → set (set (over (cells d) o) (2 * length d) x.start) (2 * length d + 1) x.len ≡ over (cells (d ++ (x ∷ []))) o
pair_stored d x o h =
    let i = 2 * length d in
    let c = cells d in
    let two = x.start ∷ x.len ∷ [] in
    let n : length c ≡ i = cells_length d in
    let l : length (c ++ two) ≡ i + 2 = length-append c two ∙ omega (arith, n) in
    let front : take i (c ++ two) ≡ c = take_at c two i n in
    let a : get_or (c ++ two) i 0 ≡ x.start = behind c two i 0 (omega (arith, n)) in
    let b : get_or (c ++ two) (i + 1) 0 ≡ x.len = behind c two (i + 1) 1 (omega (arith, n)) in
    let one : set (over c o) i x.start ≡ over (take (i + 1) (c ++ two)) o = rw (front, a) at (over_more (c ++ two) o i (omega arith) (omega arith)) in
    let whole : take (i + 1 + 1) (c ++ two) ≡ c ++ two = take_all (i + 1 + 1) (c ++ two) (omega arith) in
    let both : set (over (take (i + 1) (c ++ two)) o) (i + 1) x.len ≡ over (c ++ two) o = rw (b, whole) at (over_more (c ++ two) o (i + 1) (omega arith) (omega arith)) in
    ap (λ (t : List ℕ). set t (i + 1) x.len) one ∙ both ∙ ap (λ (y : List ℕ). over y o) (sym (cells_more d x))
