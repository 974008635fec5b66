-- What the table by kind says of unknown kinds and of those whose body is skipped, so that no other proof opens it for that: which numbers they are, and what their row holds.
-- Assumes nothing.
use mathlib.Core.Path.{◌≡◌, refl, sym, ap, ◌∙◌}
use mathlib.Core.Bool.{Bool, true, false, ◌||◌, beq}
use mathlib.Core.List.{List, [], ◌∷◌}
use Prim.{Unit}
use Prim.Native.Nat.{ℕ, ◌≤◌, ◌<◌}
use native.Mathlib.Omega.{arith}
use borrow.Author.Tests.{leb-true, leb-false, eqb-true, ne_eqb}
use lib.Dec.{leb, eqb}
use Rattle.utf8.proofs.Tests.{never, on}
use Rattle.utf8.proofs.Below.{below, beq→eq}
use Rattle.layout.specs.Table.{row, row_of, shape_of, bit_named, bit_of, is_unknown_shape, is_unknown, is_skipped_shape, is_skipped}
use Rattle.layout.specs.declared.Shape.TheVariants.{Unknown}
use Rattle.layout.specs.declared.Bit.TheVariants.{Given}
use Rattle.layout.specs.declared.Row.{Row}

-- from 15 on the row is the last one
far_row : (k : ℕ) → 15 ≤ k → row_of k ≡ row Unknown Given
unfolding row_of
far_row k h =
    let no : (c : ℕ) → c < 15 → eqb k c ≡ false = λ c i. ne_eqb k c (λ z. omega arith) in
    simp (no 0 (omega arith), no 1 (omega arith), no 2 (omega arith), no 3 (omega arith), no 4 (omega arith), no 5 (omega arith), no 6 (omega arith), no 7 (omega arith), no 8 (omega arith), no 9 (omega arith), no 10 (omega arith), no 12 (omega arith), no 13 (omega arith), no 14 (omega arith))

far : (k : ℕ) → 15 ≤ k → is_unknown k ≡ true
unfolding is_unknown shape_of
far k h = ap (λ (r : Row). is_unknown_shape r.body) (far_row k h)

-- ---- which kinds are unknown: 11, and 15 to 32,767. Below 15 by one test that is computed at each kind

pub unknown_numbers : (k : ℕ) → is_unknown k ≡ (eqb k 11 || leb 15 k)
unfolding is_unknown shape_of row_of
unknown_numbers k =
    on (leb 15 k)
    (λ t. far k (leb-true 15 k t) ∙ on (eqb k 11) (λ i. rw i) (λ i. rw (i, t)))
    (λ t. beq→eq (is_unknown k) (eqb k 11 || leb 15 k) (below 15 (λ i. beq (is_unknown i) (eqb i 11 || leb 15 i)) refl k (leb-false 15 k t)))

-- .. and which have a body that is skipped: end and keep-alive
pub skipped_numbers : (k : ℕ) → is_skipped k ≡ (eqb k 0 || eqb k 8)
unfolding is_skipped shape_of row_of
skipped_numbers k =
    on (leb 15 k)
    (λ t.
    let h : 15 ≤ k = leb-true 15 k t in
    ap (λ (r : Row). is_skipped_shape r.body) (far_row k h) ∙ rw (ne_eqb k 0 (λ z. omega arith), ne_eqb k 8 (λ z. omega arith)))
    (λ t. beq→eq (is_skipped k) (eqb k 0 || eqb k 8) (below 15 (λ i. beq (is_skipped i) (eqb i 0 || eqb i 8)) refl k (leb-false 15 k t)))

-- as the last arm of a `match` by kind knows it: none of the numbers before, the last one first
abbrev pub NoneOf : List ℕ → ℕ → Type 0
NoneOf [] k = Unit {0}
NoneOf (c ∷ l) k = NoneOf l k × (k ≡ c → ⊥)

is_in : List ℕ → ℕ → Bool
is_in [] k = false
is_in (c ∷ l) k = eqb k c || is_in l k

not_in : (l : List ℕ) (k : ℕ) → NoneOf l k → is_in l k ≡ false
unfolding is_in
not_in [] k n = refl
not_in (c ∷ l) k n = rw (ne_eqb k c n.1, not_in l k n.0)

-- the kinds that 01 names
abbrev pub named : List ℕ
named = 14 ∷ 13 ∷ 12 ∷ 10 ∷ 9 ∷ 8 ∷ 7 ∷ 6 ∷ 5 ∷ 4 ∷ 3 ∷ 2 ∷ 1 ∷ 0 ∷ []

pub unnamed : (k : ℕ) → NoneOf named k → is_unknown k ≡ true
unfolding is_unknown shape_of row_of is_in
unnamed k n =
    on (leb 15 k)
    (λ t. far k (leb-true 15 k t))
    (λ t. rw (not_in named k n) at (below 15 (λ i. is_in named i || is_unknown i) refl k (leb-false 15 k t)))

-- ---- what the table says of them

pub unknown_row : (k : ℕ) → is_unknown k ≡ true → row_of k ≡ row Unknown Given
unfolding row_of
unknown_row k e =
    on (eqb k 11)
    (λ t. rw (eqb-true k 11 t))
    (λ t. far_row k (leb-true 15 k (rw t at (sym (unknown_numbers k) ∙ e))))

pub unknown_shape : (k : ℕ) → is_unknown k ≡ true → shape_of k ≡ Unknown
unfolding shape_of
unknown_shape k e = ap (λ (r : Row). r.body) (unknown_row k e)

pub shape_unknown : (k : ℕ) → shape_of k ≡ Unknown → is_unknown k ≡ true
unfolding is_unknown
shape_unknown k e = ap is_unknown_shape e

-- the table names no bit of theirs
pub unknown_named : (k : ℕ) → is_unknown k ≡ true → bit_named k ≡ Given
unknown_named k e = ap (λ (r : Row). r.bit) (unknown_row k e)

-- so the one that is written is the one given
pub unknown_bit : (k : ℕ) (bit : Bool) → is_unknown k ≡ true → bit_of k bit ≡ bit
unfolding bit_of
unknown_bit k bit e = rw (unknown_named k e)

-- and of any other kind it is the table's, whatever is given
pub known_bit : (k : ℕ) (a b : Bool) → is_unknown k ≡ false → bit_of k a ≡ bit_of k b
unfolding is_unknown shape_of bit_of row_of
known_bit k a b e = go a b
  where
    low : k < 15
    low =
        on (leb 15 k)
        (λ t. never (sym e ∙ far k (leb-true 15 k t)))
        (λ t. leb-false 15 k t)

    either : bit_of k true ≡ bit_of k false
    either = beq→eq (bit_of k true) (bit_of k false) (rw e at (below 15 (λ i. is_unknown i || beq (bit_of i true) (bit_of i false)) refl k low))

    go : (a b : Bool) → bit_of k a ≡ bit_of k b
    go true true = refl
    go true false = either
    go false true = sym either
    go false false = refl
