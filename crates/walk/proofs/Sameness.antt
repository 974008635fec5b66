-- Two findings for which every number is the same are the same, and one is the same as itself; and the loop that compares their cells.
-- Assumes nothing.
use mathlib.Core.Path.{◌≡◌, refl, sym, ap, ◌∙◌}
use mathlib.Core.List.{List, [], ◌∷◌}
use mathlib.Core.Bool.{Bool, true, false, cond, ◌&&◌, true≢false}
use Prim.Native.Nat.{ℕ, suc, ◌+◌, ◌<◌, ◌≤◌}
use native.Mathlib.Omega.{arith}
use lib.ListN.{length, get_or, drop, drop_of_length-le}
use lib.Seq.{drop-cons}
use lib.Dec.{eqb}
use borrow.Author.Tests.{eqb-true, eq-eqb, ne_eqb}
use Rattle.nts.specs.Refusal.{Beside, nothing, code, protocol, algorithm, beside_number}
use Rattle.walk.specs.Found.{Way, way_refused, way_ended}
use Rattle.walk.specs.Finding.{Found, same_numbers, sort_in, same_beside, same_way, same_found}

-- ---- two tests

both_left : (a b : Bool) → (a && b) ≡ true → a ≡ true
both_left true b e = refl
both_left false b e = e

both_right : (a b : Bool) → (a && b) ≡ true → b ≡ true
both_right true b e = e
both_right false b e = absurd (true≢false (sym e))

-- ---- the same as itself

pub numbers_self : (c : List ℕ) → same_numbers c c ≡ true
unfolding same_numbers
numbers_self [] = refl
numbers_self (x ∷ c) = rw (eq-eqb x x refl) (numbers_self c)

beside_self : (b : Beside) → same_beside b b ≡ true
beside_self b = rw (eq-eqb (sort_in b) (sort_in b) refl, eq-eqb (beside_number b) (beside_number b) refl)

way_self : (w : Way) → same_way w w ≡ true
way_self (way_ended p) = eq-eqb p p refl
way_self (way_refused r) = rw (eq-eqb r.number r.number refl, beside_self r.beside, eq-eqb r.place r.place refl)

pub found_self : (f : Found) → same_found f f ≡ true
unfolding same_found
found_self f = rw (eq-eqb f.limit f.limit refl, way_self f.way, numbers_self f.cells)

-- ---- the same in every number

numbers_apart : (c d : List ℕ) → same_numbers c d ≡ true → c ≡ d
unfolding same_numbers
numbers_apart [] [] e = refl
numbers_apart [] (y ∷ d) e = absurd (true≢false (sym e))
numbers_apart (x ∷ c) [] e = absurd (true≢false (sym e))
numbers_apart (x ∷ c) (y ∷ d) e =
    let p : x ≡ y = eqb-true x y (both_left (eqb x y) (same_numbers c d) e) in
    let q : c ≡ d = numbers_apart c d (both_right (eqb x y) (same_numbers c d) e) in
    cc

-- what is beside a refusal, from its sort and its number
beside_from : ℕ → ℕ → Beside
beside_from s n = cond (eqb s 0) nothing (cond (eqb s 1) (code n) (cond (eqb s 2) (protocol n) (algorithm n)))

beside_back : (b : Beside) → beside_from (sort_in b) (beside_number b) ≡ b
unfolding beside_from
beside_back nothing = refl
beside_back (code n) = refl
beside_back (protocol n) = refl
beside_back (algorithm n) = refl

beside_apart : (a b : Beside) → same_beside a b ≡ true → a ≡ b
beside_apart a b e =
    let s : sort_in a ≡ sort_in b = eqb-true _ _ (both_left (eqb (sort_in a) (sort_in b)) (eqb (beside_number a) (beside_number b)) e) in
    let n : beside_number a ≡ beside_number b = eqb-true _ _ (both_right (eqb (sort_in a) (sort_in b)) (eqb (beside_number a) (beside_number b)) e) in
    sym (beside_back a) ∙ (λ i. beside_from (s i) (n i)) ∙ beside_back b

way_apart : (v w : Way) → same_way v w ≡ true → v ≡ w
way_apart (way_ended p) (way_ended q) e = ap way_ended (eqb-true p q e)
way_apart (way_ended p) (way_refused r) e = absurd (true≢false (sym e))
way_apart (way_refused r) (way_ended q) e = absurd (true≢false (sym e))
way_apart (way_refused r) (way_refused s) e =
    let told = both_left (eqb r.number s.number && same_beside r.beside s.beside) (eqb r.place s.place) e in
    let n : r.number ≡ s.number = eqb-true _ _ (both_left (eqb r.number s.number) (same_beside r.beside s.beside) told) in
    let b : r.beside ≡ s.beside = beside_apart _ _ (both_right (eqb r.number s.number) (same_beside r.beside s.beside) told) in
    let p : r.place ≡ s.place = eqb-true _ _ (both_right (eqb r.number s.number && same_beside r.beside s.beside) (eqb r.place s.place) e) in
    ap way_refused (λ i. record { number = n i; beside = b i; place = p i })

pub found_apart : (f g : Found) → same_found f g ≡ true → f ≡ g
unfolding same_found
found_apart f g e =
    let h = both_left (eqb f.limit g.limit && same_way f.way g.way) (same_numbers f.cells g.cells) e in
    let l : f.limit ≡ g.limit = eqb-true _ _ (both_left (eqb f.limit g.limit) (same_way f.way g.way) h) in
    let w : f.way ≡ g.way = way_apart _ _ (both_right (eqb f.limit g.limit) (same_way f.way g.way) h) in
    let c : f.cells ≡ g.cells = numbers_apart _ _ (both_right (eqb f.limit g.limit && same_way f.way g.way) (same_numbers f.cells g.cells) e) in
    λ i. record { limit = l i; cells = c i; way = w i }

-- two that are not the same
pub found_other : (f g : Found) → (f ≡ g → ⊥) → same_found f g ≡ false
found_other f g n = go (same_found f g) refl
  where
    go : (b : Bool) → same_found f g ≡ b → same_found f g ≡ false
    go true e = absurd (n (found_apart f g e))
    go false e = e

-- ---- the loop over two rows of numbers

-- rows of one length, and up to i they are the same
pub record Alike (c d : List ℕ) (i : ℕ) : Type 0 where
  pub rest : same_numbers c d ≡ same_numbers (drop i c) (drop i d)
  pub inside : i ≤ length c
  pub long : length c ≡ length d

pub alike_start : (c d : List ℕ) → length c ≡ length d → Alike c d 0
alike_start c d e = record { rest = refl; inside = omega arith; long = e }

-- rows of two lengths
pub lengths_not : (c d : List ℕ) → (length c ≡ length d → ⊥) → false ≡ same_numbers c d
lengths_not c d n = go (same_numbers c d) refl
  where
    go : (b : Bool) → same_numbers c d ≡ b → false ≡ b
    go true e = absurd (n (ap length (numbers_apart c d e)))
    go false e = refl

module _ (c d : List ℕ) (i : ℕ) (h : Alike c d i) where
  at_index : i < length c → same_numbers c d ≡ (eqb (get_or c i 0) (get_or d i 0) && same_numbers (drop (suc i) c) (drop (suc i) d))
  unfolding same_numbers
  at_index l = h.rest ∙ ap (λ (x : List ℕ). same_numbers x (drop i d)) (drop-cons c i 0 l) ∙ ap (λ (y : List ℕ). same_numbers (get_or c i 0 ∷ drop (suc i) c) y) (drop-cons d i 0 (omega (arith, h.long)))

  pub alike_not : i < length c → (get_or c i 0 ≡ get_or d i 0 → ⊥) → false ≡ same_numbers c d
  alike_not l n = sym (at_index l ∙ rw (ne_eqb (get_or c i 0) (get_or d i 0) n))

  pub alike_on : i < length c → get_or c i 0 ≡ get_or d i 0 → Alike c d (i + 1)
  alike_on l e =
      let more : i + 1 ≡ suc i = omega arith in
      record {
        rest = at_index l ∙ rw (eq-eqb (get_or c i 0) (get_or d i 0) e, more);
        inside = omega arith;
        long = h.long;
      }

  pub alike_end : length c ≤ i → true ≡ same_numbers c d
  unfolding same_numbers
  alike_end l = sym (h.rest ∙ rw (drop_of_length-le c {i = i} l, drop_of_length-le d {i = i} (omega (arith, h.long))))
