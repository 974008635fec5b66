-- What the two profiles say of a kind, so that no other proof opens their table for that: which kinds each knows, and what is asked of those that it does not.
-- Assumes nothing.
use mathlib.Core.Path.{◌≡◌, refl, sym, ap, ◌∙◌}
use mathlib.Core.Bool.{Bool, true, false, cond, not, or-true, not-not}
use mathlib.Core.List.{List}
use Prim.Native.Nat.{ℕ, zero, suc, ◌≤◌, ◌<◌}
use native.Mathlib.Omega.{arith}
use borrow.Author.Tests.{leb-true, leb-false, ne_eqb}
use lib.Dec.{leb, eqb}
use Rattle.utf8.proofs.Tests.{never, on}
use Rattle.utf8.proofs.Below.{below}
use Rattle.layout.specs.Table.{row_of, shape_of, is_unknown_shape, is_unknown}
use Rattle.layout.specs.Profile.{Asks, plain, critical, asks_of, shape_in, knows, allows, taken_as}
use Rattle.layout.specs.declared.Shape.{Shape}
use Rattle.layout.specs.declared.Shape.TheVariants.{Skipped, Numbers, Number, Bytes, Name, Pairs, Halves, Unknown}
use Rattle.layout.specs.declared.Profile.{Profile}
use Rattle.layout.specs.declared.Profile.TheVariants.{Usual, Strict}
use Rattle.layout.proofs.Table.{unknown_numbers}

-- ---- which kinds are known

-- from 8 on the strict row is the last one
far_strict : (k : ℕ) → 8 ≤ k → asks_of Strict k ≡ plain Unknown
unfolding asks_of
far_strict k h =
    let no : (c : ℕ) → c < 8 → eqb k c ≡ false = λ c i. ne_eqb k c (λ z. omega arith) in
    simp (no 0 (omega arith), no 1 (omega arith), no 2 (omega arith), no 3 (omega arith), no 4 (omega arith), no 5 (omega arith), no 6 (omega arith), no 7 (omega arith))

pub strict_far : (k : ℕ) → 8 ≤ k → knows Strict k ≡ false
unfolding knows shape_in
strict_far k h = ap (λ (x : Asks). not (is_unknown_shape x.body)) (far_strict k h)

-- kinds 0 to 7
pub strict_near : (k : ℕ) → k < 8 → knows Strict k ≡ true
unfolding knows shape_in asks_of shape_of row_of
strict_near k h = below 8 (λ i. knows Strict i) refl k h

strict_below : (k : ℕ) → knows Strict k ≡ true → k < 8
strict_below k e = on (leb 8 k) (λ t. never (sym (strict_far k (leb-true 8 k t)) ∙ e)) (λ t. leb-false 8 k t)

-- those that 01 knows
pub usual_knows : (k : ℕ) → knows Usual k ≡ not (is_unknown k)
unfolding knows shape_in asks_of is_unknown
usual_knows k = refl

pub knows_below : (P : Profile) (k : ℕ) → knows P k ≡ true → k < 15
knows_below Usual k e =
    on (leb 15 k)
    (λ t.
    let u : is_unknown k ≡ true = unknown_numbers k ∙ rw (t, or-true) in
    never (sym (usual_knows k ∙ ap not u) ∙ e))
    (λ t. leb-false 15 k t)
knows_below Strict k e = let h = strict_below k e in omega arith

pub eleven_unknown : (P : Profile) → knows P 11 ≡ false
unfolding knows shape_in asks_of shape_of row_of
eleven_unknown Usual = refl
eleven_unknown Strict = refl

pub zero_known : (P : Profile) → knows P 0 ≡ true
unfolding knows shape_in asks_of shape_of row_of
zero_known Usual = refl
zero_known Strict = refl

-- a kind that is known is 01's
known_in_01 : (k : ℕ) → k < 8 → shape_in Strict k ≡ shape_of k
unfolding shape_in asks_of
known_in_01 zero h = refl
known_in_01 (suc zero) h = refl
known_in_01 (suc (suc zero)) h = refl
known_in_01 (suc (suc (suc zero))) h = refl
known_in_01 (suc (suc (suc (suc zero)))) h = refl
known_in_01 (suc (suc (suc (suc (suc zero))))) h = refl
known_in_01 (suc (suc (suc (suc (suc (suc zero)))))) h = refl
known_in_01 (suc (suc (suc (suc (suc (suc (suc zero))))))) h = refl
known_in_01 (suc (suc (suc (suc (suc (suc (suc (suc k)))))))) h = absurd (omega arith)

pub strict_shape : (k : ℕ) → knows Strict k ≡ true → shape_in Strict k ≡ shape_of k
strict_shape k e = known_in_01 k (strict_below k e)

-- .. and what the strict profile knows, 01 does
pub strict_usual : (k : ℕ) → knows Strict k ≡ true → knows Usual k ≡ true
unfolding knows shape_in asks_of
strict_usual k e = ap (λ (x : Shape). not (is_unknown_shape x)) (sym (strict_shape k e)) ∙ e

-- ---- what is asked of one that is not known

unknown_body : (x : Shape) → is_unknown_shape x ≡ true → x ≡ Unknown
unknown_body Skipped e = never e
unknown_body Numbers e = never e
unknown_body Number e = never e
unknown_body Bytes e = never e
unknown_body Name e = never e
unknown_body Pairs e = never e
unknown_body Halves e = never e
unknown_body Unknown e = refl

pub unknown_shape : (P : Profile) (k : ℕ) → knows P k ≡ false → shape_in P k ≡ Unknown
unfolding knows
unknown_shape P k e = unknown_body (shape_in P k) (sym (not-not (is_unknown_shape (shape_in P k))) ∙ ap not e)

usual_unknown : (k : ℕ) → knows Usual k ≡ false → shape_of k ≡ Unknown
unfolding shape_in asks_of
usual_unknown k e = unknown_shape Usual k e

-- nothing but its bytes
pub unknown_asks : (P : Profile) (k : ℕ) → knows P k ≡ false → asks_of P k ≡ plain Unknown
unfolding asks_of
unknown_asks Usual k e = ap plain (usual_unknown k e)
unknown_asks Strict k e = on (leb 8 k) (λ t. far_strict k (leb-true 8 k t)) (λ t. never (sym e ∙ strict_near k (leb-false 8 k t)))

pub plain_allows : (x : Shape) (bit : Bool) (b : List ℕ) → allows (plain x) bit b ≡ true
unfolding allows
plain_allows x bit b = refl

pub critical_allows : (x : Shape) (bit : Bool) (b : List ℕ) → bit ≡ allows (critical x) bit b
unfolding allows
critical_allows x true b = refl
critical_allows x false b = refl

pub unknown_allows : (P : Profile) (k : ℕ) (bit : Bool) (b : List ℕ) → knows P k ≡ false → allows (asks_of P k) bit b ≡ true
unknown_allows P k bit b e = ap (λ (x : Asks). allows x bit b) (unknown_asks P k e) ∙ plain_allows Unknown bit b

-- the usual profile asks nothing more of any
pub usual_allows : (k : ℕ) (bit : Bool) (b : List ℕ) → allows (asks_of Usual k) bit b ≡ true
unfolding asks_of
usual_allows k bit b = plain_allows (shape_of k) bit b

-- nor does the strict one of kinds but 0, 1, 2, 3 and 6
pub strict_allows : (k : ℕ) (bit : Bool) (b : List ℕ) → (k ≡ 0 → ⊥) → (k ≡ 1 → ⊥) → (k ≡ 2 → ⊥) → (k ≡ 3 → ⊥) → (k ≡ 6 → ⊥) → allows (asks_of Strict k) bit b ≡ true
unfolding asks_of
strict_allows k bit b n0 n1 n2 n3 n6 =
    rw (ne_eqb k 0 n0, ne_eqb k 1 n1, ne_eqb k 2 n2, ne_eqb k 3 n3, ne_eqb k 6 n6) (go (eqb k 4) (eqb k 5) (eqb k 7))
  where
    go : (x y z : Bool) → allows (cond x (plain (shape_of k)) (cond y (plain (shape_of k)) (cond z (plain (shape_of k)) (plain Unknown)))) bit b ≡ true
    go true y z = plain_allows (shape_of k) bit b
    go false true z = plain_allows (shape_of k) bit b
    go false false true = plain_allows (shape_of k) bit b
    go false false false = plain_allows Unknown bit b

-- ---- the kind as which a record is taken

pub taken_near : (k : ℕ) → k ≤ 7 → taken_as Strict k ≡ k
unfolding taken_as
taken_near k h = rw (strict_near k (omega arith))

pub taken_far : (k : ℕ) → 7 < k → taken_as Strict k ≡ 11
unfolding taken_as
taken_far k h = rw (strict_far k (omega arith))

pub taken_known : (P : Profile) (k : ℕ) → knows P k ≡ true → taken_as P k ≡ k
unfolding taken_as
taken_known Usual k e = refl
taken_known Strict k e = rw e

eleven_shape : shape_of 11 ≡ Unknown
unfolding shape_of row_of
eleven_shape = refl

pub usual_shape : (k : ℕ) → shape_of k ≡ shape_in Usual k
unfolding shape_in asks_of
usual_shape k = refl

-- its body
pub taken_shape : (P : Profile) (k : ℕ) → shape_of (taken_as P k) ≡ shape_in P k
unfolding taken_as
taken_shape Usual k = usual_shape k
taken_shape Strict k = go (knows Strict k) refl
  where
    go : (t : Bool) → knows Strict k ≡ t → shape_of (cond t k 11) ≡ shape_in Strict k
    go true e = sym (strict_shape k e)
    go false e = eleven_shape ∙ sym (unknown_shape Strict k e)

-- an error and a warning hold one number
pub told_shape : (P : Profile) → (shape_in P 2 ≡ Number) × (shape_in P 3 ≡ Number)
unfolding shape_in asks_of shape_of row_of
told_shape Usual = (refl, refl)
told_shape Strict = (refl, refl)

-- an end record's body is skipped
pub zero_shape : (P : Profile) → shape_in P 0 ≡ Skipped
unfolding shape_in asks_of shape_of row_of
zero_shape Usual = refl
zero_shape Strict = refl

-- nothing more is asked of a cookie, nor of a denied name
pub cookie_allows : (P : Profile) (bit : Bool) (b : List ℕ) → allows (asks_of P 5) bit b ≡ true
cookie_allows Usual bit b = usual_allows 5 bit b
cookie_allows Strict bit b = strict_allows 5 bit b (λ e. omega arith) (λ e. omega arith) (λ e. omega arith) (λ e. omega arith) (λ e. omega arith)

pub denied_allows : (P : Profile) (bit : Bool) (b : List ℕ) → allows (asks_of P 13) bit b ≡ true
denied_allows Usual bit b = usual_allows 13 bit b
denied_allows Strict bit b = strict_allows 13 bit b (λ e. omega arith) (λ e. omega arith) (λ e. omega arith) (λ e. omega arith) (λ e. omega arith)

-- which every profile knows
pub cookie_known : (P : Profile) → knows P 5 ≡ true
unfolding knows shape_in asks_of shape_of row_of
cookie_known Usual = refl
cookie_known Strict = refl
