-- The records that the cells tell of a kind, and those that were noted: as many, and the first the same. So a decision that asks for no more
-- is the same over both.
-- Assumes nothing.
use mathlib.Core.Path.{◌≡◌, refl, sym, ap, ◌∙◌}
use mathlib.Core.List.{List, [], ◌∷◌}
use mathlib.Core.Bool.{Bool, true, false, cond}
use Prim.Native.Nat.{ℕ, zero, suc, ◌+◌, ◌≤◌}
use native.Mathlib.Omega.{arith}
use lib.ListN.{length}
use lib.Dec.{eqb}
use borrow.Author.Tests.{eqb-true, eq-eqb, ne_eqb}
use Rattle.walk.specs.Walk.{Sighting}
use Rattle.walk.specs.Judge.{of_kind, some, with_first}
use Rattle.walk.specs.Found.{seen_of, entry_in, copies, first_in, told_in}
use Rattle.walk.specs.declared.Seen.{Seen}
use Rattle.walk.proofs.Noted.{Inside}
use Rattle.walk.proofs.Verdicts.{some_length}

-- ---- what the cells tell

module _ (c : List ℕ) (k : ℕ) where
  pub told_length : length (told_in c k) ≡ (entry_in c k).count
  unfolding told_in
  told_length = go (entry_in c k).count
    where
      go : (n : ℕ) → length (copies n (first_in c k)) ≡ n
      go zero = refl
      go (suc n) = ap suc (go n)

  -- by whether any was met
  pub told_first : {A : Type 0} (z : A) (f : Sighting → A) → with_first (told_in c k) z f ≡ cond (eqb (entry_in c k).count 0) z (f (first_in c k))
  unfolding told_in
  told_first z f = go (entry_in c k).count
    where
      go : (n : ℕ) → with_first (copies n (first_in c k)) z f ≡ cond (eqb n 0) z (f (first_in c k))
      go zero = refl
      go (suc n) = rw (ne_eqb (suc n) 0 (λ q. omega arith))

  pub told_some : some (told_in c k) ≡ cond (eqb (entry_in c k).count 0) false true
  unfolding told_in
  told_some = go (entry_in c k).count
    where
      go : (n : ℕ) → some (copies n (first_in c k)) ≡ cond (eqb n 0) false true
      go zero = refl
      go (suc n) = rw (ne_eqb (suc n) 0 (λ q. omega arith))

  module _ (x : Seen) (e : x ≡ entry_in c k) where
    pub there_none : x.count ≡ 0 → false ≡ some (told_in c k)
    there_none z = sym (told_some ∙ rw (eq-eqb (entry_in c k).count 0 (sym (ap (λ (v : Seen). v.count) e) ∙ z)))

    pub there_some : (x.count ≡ 0 → ⊥) → true ≡ some (told_in c k)
    there_some z = sym (told_some ∙ rw (ne_eqb (entry_in c k).count 0 (λ q. z (ap (λ (v : Seen). v.count) e ∙ q))))

-- ---- two lists that are alike

pub record Like (a b : List Sighting) : Type 1 where
  pub long : length a ≡ length b
  pub first : {A : Type 0} (z : A) (f : Sighting → A) → with_first a z f ≡ with_first b z f

pub like_some : (a b : List Sighting) → Like a b → some a ≡ some b
like_some a b l = some_length a b l.long

-- what is said of a choice by the first, over either
pub like_first : {A T : Type 0} (F : A → T) (a b : List Sighting) → Like a b → (z z' : A) (f f' : Sighting → A) → F z ≡ F z' → ((x : Sighting) → F (f x) ≡ F (f' x)) → F (with_first a z f) ≡ F (with_first b z' f')
like_first F a b l z z' f f' p q = ap F (l.first z f) ∙ go b
  where
    go : (y : List Sighting) → F (with_first y z f) ≡ F (with_first y z' f')
    go [] = p
    go (x ∷ y) = q x

-- .. and of a choice by a test
pub like_if : {A T : Type 0} (F : A → T) (t t' : Bool) → t ≡ t' → (v v' w w' : A) → F v ≡ F v' → F w ≡ F w' → F (cond t v w) ≡ F (cond t' v' w')
like_if F t t' e v v' w w' p q = ap (λ (x : Bool). F (cond x v w)) e ∙ go t'
  where
    go : (x : Bool) → F (cond x v w) ≡ F (cond x v' w')
    go true = p
    go false = q

-- ---- the cells of a kind, and the records that they stand for

kind_first : (k : ℕ) (st : List Sighting) (x : Sighting) (l : List Sighting) → of_kind k st ≡ x ∷ l → x.of ≡ k
kind_first k [] x l e = cc
kind_first k (y ∷ st) x l e = go (eqb y.of k) refl e (kind_first k st x l)
  where
    go : (b : Bool) → eqb y.of k ≡ b → cond b (y ∷ of_kind k st) (of_kind k st) ≡ x ∷ l → (of_kind k st ≡ x ∷ l → x.of ≡ k) → x.of ≡ k
    go true t q ih = let same : y ≡ x = cc in ap (λ (s : Sighting). s.of) (sym same) ∙ eqb-true y.of k t
    go false t q ih = ih q

pub entry_like : (c : List ℕ) (k : ℕ) (st : List Sighting) → entry_in c k ≡ seen_of (of_kind k st) → Like (told_in c k) (of_kind k st)
entry_like c k st e = go (of_kind k st) refl e
  where
    go : (l : List Sighting) → of_kind k st ≡ l → entry_in c k ≡ seen_of l → Like (told_in c k) l
    go [] q s = record {
      long = told_length c k ∙ ap (λ (v : Seen). v.count) s;
      first = λ z f. told_first c k z f ∙ ap (λ (v : Seen). cond (eqb v.count 0) z (f (record { of = k; start = v.start; len = v.len }))) s;
    }
    go (x ∷ l) q s =
        let o : x.of ≡ k = kind_first k st x l q in
        record {
          long = told_length c k ∙ ap (λ (v : Seen). v.count) s;
          first = λ z f.
              told_first c k z f
              ∙ ap (λ (v : Seen). cond (eqb v.count 0) z (f (record { of = k; start = v.start; len = v.len }))) s
              ∙ rw (ne_eqb (suc (length l)) 0 (λ n. omega arith))
              (ap (λ (j : ℕ). f (record { of = j; start = x.start; len = x.len })) (sym o));
        }

pub entry_inside : (c : List ℕ) (k : ℕ) (N : ℕ) (l : List Sighting) → entry_in c k ≡ seen_of l → Inside N l → (entry_in c k).start + (entry_in c k).len ≤ N
entry_inside c k N l e i = go l e i
  where
    go : (y : List Sighting) → entry_in c k ≡ seen_of y → Inside N y → (entry_in c k).start + (entry_in c k).len ≤ N
    go [] q h = omega (arith, ap (λ (v : Seen). v.start) q, ap (λ (v : Seen). v.len) q)
    go (x ∷ y) q h = omega (arith, ap (λ (v : Seen). v.start) q, ap (λ (v : Seen). v.len) q, h.0)
