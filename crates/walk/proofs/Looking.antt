-- What is asked of a record, against its bytes.
-- Assumes nothing.
use mathlib.Core.Path.{◌≡◌, refl, sym, ap, ◌∙◌, subst}
use mathlib.Core.List.{List}
use mathlib.Core.Bool.{Bool, true, false, not, cond, ◌||◌}
use Prim.Native.Nat.{ℕ, ◌+◌, ◌<◌, ◌≤◌}
use native.Mathlib.Omega.{arith}
use lib.ListN.{length, drop}
use lib.Seq.{drop-drop}
use lib.Dec.{leb, eqb}
use borrow.Author.Tests.{lt-leb, le-leb, leb-true, leb-false, eqb-true}
use Rattle.wire.specs.Bytes.{number_at, part_at}
use Rattle.wire.proofs.Bytes.{number_drop, number_take}
use Rattle.nts.specs.Refusal.{nothing, code, number_of, beside_of}
use Rattle.nts.specs.declared.NtsError.{NtsError}
use Rattle.layout.specs.Table.{shape_of, is_unknown_shape, is_unknown}
use Rattle.layout.specs.Profile.{asks_of, shape_in, knows, allows, taken_as}
use Rattle.layout.specs.declared.Profile.{Profile}
use Rattle.layout.specs.declared.Shape.{Shape}
use Rattle.layout.specs.declared.Shape.TheVariants.{Number}
use Rattle.layout.proofs.Table.{unknown_numbers}
use Rattle.layout.proofs.Profiles.{knows_below, eleven_unknown, unknown_allows, taken_known, taken_shape, told_shape}
use Rattle.record.specs.Record.{kind, critical, size, there}
use Rattle.record.proofs.Inverse.{WasWhole}
use Rattle.record.proofs.Whole.{number_length}
use Rattle.walk.specs.Walk.{refuses, fault_in}
use Rattle.walk.specs.Rules.{Rules, tell_act, reader_of}
use Rattle.walk.specs.Code.{error_of, Asked, asked, slot_in}
use Rattle.walk.specs.Shown.{slot_of}

-- ---- where a kind stands in the table

known_01 : (k : ℕ) → not (is_unknown_shape (shape_of k)) ≡ not (eqb k 11 || leb 15 k)
unfolding is_unknown
known_01 k = ap not (unknown_numbers k)

pub slot_low : (k : ℕ) → k < 15 → k ≡ slot_of shape_of k
unfolding slot_of
slot_low k h = rw (known_01 k, lt-leb 15 k h) (go (eqb k 11) refl)
  where
    go : (a : Bool) → eqb k 11 ≡ a → k ≡ cond (not (a || false)) k 11
    go true e = eqb-true k 11 e
    go false e = refl

pub slot_high : (k : ℕ) → 15 ≤ k → 11 ≡ slot_of shape_of k
unfolding slot_of
slot_high k h = rw (known_01 k, le-leb 15 k h) (go (eqb k 11))
  where
    go : (a : Bool) → 11 ≡ cond (not (a || true)) k 11
    go true = refl
    go false = refl

pub slot_within : (j k : ℕ) → j ≡ slot_of shape_of k → j < 15
slot_within j k e = go (leb 15 k) refl
  where
    go : (b : Bool) → leb 15 k ≡ b → j < 15
    go true h = subst (λ (i : ℕ). i < 15) (slot_high k (leb-true 15 k h) ∙ sym e) (omega arith)
    go false h = subst (λ (i : ℕ). i < 15) (slot_low k (leb-false 15 k h) ∙ sym e) (leb-false 15 k h)

-- in a profile
pub slot_known : (rules : Rules) (k : ℕ) (b : Bool) → knows rules.profile k ≡ b → slot_in rules k ≡ cond b k 11
unfolding slot_of knows
slot_known rules k b e = ap (λ (t : Bool). cond t k 11) e

slot_by : (P : Profile) (k : ℕ) (b : Bool) → knows P k ≡ b → slot_of shape_of (taken_as P k) ≡ cond b (taken_as P k) 11
unfolding slot_of knows
slot_by P k b e = ap (λ (x : Shape). cond (not (is_unknown_shape x)) (taken_as P k) 11) (taken_shape P k) ∙ ap (λ (t : Bool). cond t (taken_as P k) 11) e

slot_taken : (P : Profile) (k : ℕ) → slot_of shape_of (taken_as P k) ≡ slot_of (shape_in P) k
unfolding slot_of knows
slot_taken P k = go (knows P k) refl
  where
    go : (b : Bool) → knows P k ≡ b → slot_of shape_of (taken_as P k) ≡ slot_of (shape_in P) k
    go true e = slot_by P k true e ∙ taken_known P k e ∙ sym (ap (λ (t : Bool). cond t k 11) e)
    go false e = slot_by P k false e ∙ sym (ap (λ (t : Bool). cond t k 11) e)

-- as the code finds it: the place of the kind as which the record is taken
pub slot_is : (P : Profile) (j t k : ℕ) → j ≡ slot_of shape_of t → t ≡ taken_as P k → j ≡ slot_of (shape_in P) k
slot_is P j t k e f = e ∙ ap (slot_of shape_of) f ∙ slot_taken P k

slot_small : (rules : Rules) (k : ℕ) → slot_in rules k < 15
slot_small rules k = go (knows rules.profile k) refl
  where
    go : (b : Bool) → knows rules.profile k ≡ b → slot_in rules k < 15
    go true e = subst (λ (j : ℕ). j < 15) (sym (slot_known rules k true e)) (knows_below rules.profile k e)
    go false e = subst (λ (j : ℕ). j < 15) (sym (slot_known rules k false e)) (omega arith)

pub slot_below : (rules : Rules) (j k : ℕ) → j ≡ slot_in rules k → j < 15
slot_below rules j k e = subst (λ (i : ℕ). i < 15) (sym e) (slot_small rules k)

-- ---- a look, and what the bytes say

pub record Asks (rules : Rules) (x : Asked) (t : List ℕ) : Type 0 where
  pub slot : x.slot ≡ slot_in rules (kind t)
  pub bit : x.critical ≡ critical t
  pub tells : knows rules.profile (kind t) ≡ true → tell_act (kind t) (there t) ≡ refuses (number_of x.told) (beside_of x.told)
  pub allows : x.allowed ≡ allows (asks_of rules.profile (kind t)) (critical t) (there t)

module _ (rules : Rules) (s : List ℕ) (at : ℕ) where
  abbrev t : List ℕ
  t = drop at s

  -- the number in a body of one
  body_number : fault_in (reader_of rules) t ≡ 0 → shape_in rules.profile (kind t) ≡ Number → number_at (there t) 0 ≡ number_at s (at + 4)
  unfolding there
  body_number z h =
      let n = number_length (shape_in rules.profile) t z h in
      number_take (drop 4 t) (size t) 0 (omega arith) ∙ number_drop t 4 0 ∙ number_drop s at 4

  told_there : fault_in (reader_of rules) t ≡ 0 → tell_act (kind t) (there t) ≡ refuses (number_of (error_of (kind t) (number_at s (at + 4)))) (beside_of (error_of (kind t) (number_at s (at + 4))))
  unfolding tell_act error_of
  told_there z = go (eqb (kind t) 2) (eqb (kind t) 3) refl refl
    where
      err : Bool → Bool → NtsError
      err a b = cond a (NtsError.Error (record { 0 = number_at s (at + 4) })) (cond b (NtsError.UnknownWarning (record { 0 = number_at s (at + 4) })) NtsError.Invalid)

      go : (a b : Bool) → eqb (kind t) 2 ≡ a → eqb (kind t) 3 ≡ b
          → cond a (refuses 11 (code (number_at (there t) 0))) (cond b (refuses 12 (code (number_at (there t) 0))) (refuses 4 nothing)) ≡ refuses (number_of (err a b)) (beside_of (err a b))
      go true b p q = ap (λ (n : ℕ). refuses 11 (code n)) (body_number z (ap (shape_in rules.profile) (eqb-true (kind t) 2 p) ∙ (told_shape rules.profile).0))
      go false true p q = ap (λ (n : ℕ). refuses 12 (code n)) (body_number z (ap (shape_in rules.profile) (eqb-true (kind t) 3 q) ∙ (told_shape rules.profile).1))
      go false false p q = refl

  -- its body, as a part of the message
  body_part : (n : ℕ) → n ≡ size t → at + 4 + n ≤ length s → part_at s (at + 4) n ≡ there t
  unfolding part_at there
  body_part n e h = rw (le-leb (at + 4 + n) (length s) h, drop-drop 4 at s, e)

  allowed_there : (k j n : ℕ) (bit : Bool) → WasWhole (shape_in rules.profile) t k bit n → at + 4 + n ≤ length s → j ≡ slot_in rules k
      → allows (asks_of rules.profile j) bit (part_at s (at + 4) n) ≡ allows (asks_of rules.profile (kind t)) (critical t) (there t)
  allowed_there k j n bit w h e = go (knows rules.profile (kind t)) refl
    where
      go : (b : Bool) → knows rules.profile (kind t) ≡ b → allows (asks_of rules.profile j) bit (part_at s (at + 4) n) ≡ allows (asks_of rules.profile (kind t)) (critical t) (there t)
      go true q =
          let f : j ≡ kind t = e ∙ ap (slot_in rules) w.is ∙ slot_known rules (kind t) true q in
          λ i. allows (asks_of rules.profile (f i)) (w.marked i) (body_part n w.sized h i)
      go false q =
          let f : j ≡ 11 = e ∙ ap (slot_in rules) w.is ∙ slot_known rules (kind t) false q in
          ap (λ (i : ℕ). allows (asks_of rules.profile i) bit (part_at s (at + 4) n)) f
          ∙ unknown_allows rules.profile 11 bit (part_at s (at + 4) n) (eleven_unknown rules.profile)
          ∙ sym (unknown_allows rules.profile (kind t) (critical t) (there t) q)

  pub asks : (k j n : ℕ) (bit : Bool) → WasWhole (shape_in rules.profile) t k bit n → at + 4 + n ≤ length s → j ≡ slot_in rules k → Asks rules (asked rules.profile s j bit (at + 4) n) t
  asks k j n bit w h e =
      let i : j ≡ slot_in rules (kind t) = e ∙ ap (slot_in rules) w.is in
      record {
        slot = i;
        bit = w.marked;
        tells = λ q. let f : j ≡ kind t = i ∙ slot_known rules (kind t) true q in told_there w.faultless ∙ ap (λ (m : ℕ). refuses (number_of (error_of m (number_at s (at + 4)))) (beside_of (error_of m (number_at s (at + 4))))) (sym f);
        allows = allowed_there k j n bit w h e;
      }
