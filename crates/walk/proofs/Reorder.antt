-- Records in another order, and one record more that is passed over: what a walk passes it still passes, and of each kind the same bodies are
-- noted.
-- Assumes nothing.
use mathlib.Core.Path.{◌≡◌, refl, sym, ◌∙◌, ap, subst}
use mathlib.Core.List.Permᴰ
use mathlib.Core.List.{List, [], ◌∷◌, ◌++◌, append_assoc, Permᴰ}
use mathlib.Core.Bool.{Bool, true, false, ◌&&◌, ◌||◌, cond, true≢false, and-true, and-false}
use Prim.Native.Nat.{ℕ, suc, ◌≤◌}
use native.Mathlib.Omega.{arith}
use lib.ListN.{length, length-append}
use lib.Dec.{eqb}
use borrow.Author.Tests.{eqb-true, eq-eqb}
use Rattle.record.specs.Record.{kind, there}
use Rattle.walk.specs.Walk.{Act, passes, Reader, fault_in, act_in}
use Rattle.walk.specs.Message.{Each, flat}
use Rattle.walk.proofs.Passing.{is_calm, is_notes, or_turn, noted, Fine, picked, mark, Passed}

-- ---- tests

-- p: a record is noted, o: its kind may stand once, h: one was noted; q: another is noted
narrow : (p o h q : Bool) → (p && (o && (q || h))) ≡ false → (p && (o && h)) ≡ false
narrow true true h true f = absurd (true≢false f)
narrow true true h false f = f
narrow true false h q f = refl
narrow false o h q f = refl

widen : (p o h q : Bool) → (p && (o && h)) ≡ false → (q && (o && (p || h))) ≡ false → (p && (o && (q || h))) ≡ false
widen true o h true f g = g
widen true o h false f g = f
widen false o h q f g = refl

-- ---- lists in another order

length_perm : {A : Type 0} {l m : List A} → Permᴰ l m → length l ≡ length m
length_perm Permᴰ.nil = refl
length_perm (Permᴰ.cons e d) = ap suc (length_perm d)
length_perm (Permᴰ.swap e₁ e₂) = refl
length_perm (Permᴰ.trans d₁ d₂) = length_perm d₁ ∙ length_perm d₂

-- at most one element has no other order
perm_one : {A : Type 0} {l m : List A} → Permᴰ l m → length l ≤ 1 → l ≡ m
perm_one Permᴰ.nil h = refl
perm_one (Permᴰ.cons e d) h = cc (perm_one d (omega arith))
perm_one (Permᴰ.swap e₁ e₂) h = absurd (omega arith)
perm_one (Permᴰ.trans d₁ d₂) h = perm_one d₁ h ∙ perm_one d₂ (omega (arith, length_perm d₁))

-- ---- the walk passes them in any order

module _ (R : Reader) where
  passed_swap : (seen : ℕ → Bool) (a b : List ℕ) (l : List (List ℕ)) → Passed R seen (a ∷ b ∷ l) → Passed R seen (b ∷ a ∷ l)
  passed_swap seen a b l h = (
    record {
      faultless = y.faultless;
      calm = y.calm;
      alone = narrow (noted R b) (R.once (kind b)) (seen (kind b)) (picked R (kind b) a) y.alone;
    },
    (
      record { faultless = x.faultless; calm = x.calm; alone = go (eqb (kind b) (kind a)) refl },
      subst (λ (s : ℕ → Bool). Passed R s l) (λ j k. or_turn (picked R k b) (picked R k a) (seen k) j) h.1.1,
    ),
  )
    where
      x : Fine R seen a
      x = h.0

      y : Fine R (mark R seen a) b
      y = h.1.0

      go : (t : Bool) → eqb (kind b) (kind a) ≡ t → (noted R a && (R.once (kind a) && ((noted R b && t) || seen (kind a)))) ≡ false
      go true q =
          let same = rw (eqb-true (kind b) (kind a) q, eq-eqb (kind a) (kind a) refl, and-true) at y.alone in
          rw and-true (widen (noted R a) (R.once (kind a)) (seen (kind a)) (noted R b) x.alone same)
      go false q = rw and-false x.alone

  pub passed_perm : {l m : List (List ℕ)} (seen : ℕ → Bool) → Permᴰ l m → Passed R seen l → Passed R seen m
  passed_perm seen Permᴰ.nil h = h
  passed_perm seen (Permᴰ.cons {a = a} {l₂ = l₂} e d) h =
      subst (λ (x : List ℕ). Passed R seen (x ∷ l₂)) e (h.0, passed_perm (mark R seen a) d h.1)
  passed_perm seen (Permᴰ.swap {a = a} {b = b} {l = l} e₁ e₂) h = rw (← e₁, ← e₂) (passed_swap seen a b l h)
  passed_perm seen (Permᴰ.trans d₁ d₂) h = passed_perm seen d₂ (passed_perm seen d₁ h)

  -- ---- the bodies noted of a kind, in record order

  abbrev pub bodies_of : ℕ → List (List ℕ) → List (List ℕ)
  bodies_of k [] = []
  bodies_of k (c ∷ cs) = cond (picked R k c) (there c ∷ bodies_of k cs) (bodies_of k cs)

  bodies_perm : {l m : List (List ℕ)} (k : ℕ) → Permᴰ l m → Permᴰ (bodies_of k l) (bodies_of k m)
  bodies_perm k Permᴰ.nil = Permᴰ.nil
  bodies_perm k (Permᴰ.cons {a = a} {l₁ = l₁} {l₂ = l₂} e d) = rw (← e) (go (picked R k a) (bodies_perm k d))
    where
      go : (t : Bool) → Permᴰ (bodies_of k l₁) (bodies_of k l₂)
          → Permᴰ (cond t (there a ∷ bodies_of k l₁) (bodies_of k l₁)) (cond t (there a ∷ bodies_of k l₂) (bodies_of k l₂))
      go true p = Permᴰ.cons refl p
      go false p = p
  bodies_perm k (Permᴰ.swap {a = a} {b = b} {l = l} e₁ e₂) = rw (← e₁, ← e₂) (go (picked R k a) (picked R k b) (bodies_of k l))
    where
      go : (t u : Bool) (r : List (List ℕ))
          → Permᴰ (cond t (there a ∷ cond u (there b ∷ r) r) (cond u (there b ∷ r) r))
          (cond u (there b ∷ cond t (there a ∷ r) r) (cond t (there a ∷ r) r))
      go true true r = Permᴰ.swap refl refl
      go true false r = Permᴰ.refl (there a ∷ r)
      go false true r = Permᴰ.refl (there b ∷ r)
      go false false r = Permᴰ.refl r
  bodies_perm k (Permᴰ.trans d₁ d₂) = Permᴰ.trans (bodies_perm k d₁) (bodies_perm k d₂)

  -- of a kind that may stand once there is at most one, and none where one was noted before
  at_most : (k : ℕ) (seen : ℕ → Bool) (cs : List (List ℕ)) → R.once k ≡ true → Passed R seen cs
      → length (bodies_of k cs) ≤ cond (seen k) 0 1
  at_most k seen [] o h = omega arith
  at_most k seen (c ∷ cs) o h = go (noted R c) (eqb (kind c) k) (seen k) refl refl refl (at_most k (mark R seen c) cs o h.1)
    where
      go : (p q s : Bool) → noted R c ≡ p → eqb (kind c) k ≡ q → seen k ≡ s → length (bodies_of k cs) ≤ cond ((p && q) || s) 0 1
          → length (cond (p && q) (there c ∷ bodies_of k cs) (bodies_of k cs)) ≤ cond s 0 1
      go true true true x y z i = absurd (true≢false (rw (x, eqb-true (kind c) k y, o, z) at h.0.alone))
      go true true false x y z i = omega arith
      go true false s x y z i = i
      go false q s x y z i = i

  pub count_perm : {l m : List (List ℕ)} (k : ℕ) → Permᴰ l m → length (bodies_of k l) ≡ length (bodies_of k m)
  count_perm k d = length_perm (bodies_perm k d)

  pub once_perm : {l m : List (List ℕ)} (k : ℕ) (seen : ℕ → Bool) → R.once k ≡ true → Permᴰ l m → Passed R seen l
      → bodies_of k l ≡ bodies_of k m
  once_perm {l} k seen o d h = perm_one (bodies_perm k d) (go (seen k) (at_most k seen l o h))
    where
      go : (t : Bool) → length (bodies_of k l) ≤ cond t 0 1 → length (bodies_of k l) ≤ 1
      go true i = omega arith
      go false i = i

  -- ---- one record more, that is passed over

  module _ (u : List ℕ) (over : act_in R u ≡ passes) where
    pub passed_insert : (seen : ℕ → Bool) (xs ys : List (List ℕ)) → fault_in R u ≡ 0 → Passed R seen (xs ++ ys)
        → Passed R seen (xs ++ (u ∷ ys))
    passed_insert seen [] ys f h = (
      record { faultless = f; calm = ap is_calm over; alone = rw over },
      subst (λ (a : Act). Passed R (λ k. (is_notes a && eqb (kind u) k) || seen k) ys) (sym over) h,
    )
    passed_insert seen (x ∷ xs) ys f h = (h.0, passed_insert (mark R seen x) xs ys f h.1)

    pub bodies_insert : (k : ℕ) (xs ys : List (List ℕ)) → bodies_of k (xs ++ (u ∷ ys)) ≡ bodies_of k (xs ++ ys)
    bodies_insert k [] ys = rw over
    bodies_insert k (x ∷ xs) ys = rw (bodies_insert k xs ys)

  pub passed_front : (seen : ℕ → Bool) (xs ys : List (List ℕ)) → Passed R seen (xs ++ ys) → Passed R seen xs
  passed_front seen [] ys h = tt
  passed_front seen (x ∷ xs) ys h = (h.0, passed_front (mark R seen x) xs ys h.1)

-- ---- what holds of each record, and how long they are together

module _ (P : List ℕ → Type 0) where
  pub each_perm : {l m : List (List ℕ)} → Permᴰ l m → Each P l → Each P m
  each_perm Permᴰ.nil h = h
  each_perm (Permᴰ.cons e d) h = (subst P e h.0, each_perm d h.1)
  each_perm (Permᴰ.swap e₁ e₂) h = (subst P e₂ h.1.0, (subst P e₁ h.0, h.1.1))
  each_perm (Permᴰ.trans d₁ d₂) h = each_perm d₂ (each_perm d₁ h)

  pub each_insert : (u : List ℕ) (xs ys : List (List ℕ)) → P u → Each P (xs ++ ys) → Each P (xs ++ (u ∷ ys))
  each_insert u [] ys p h = (p, h)
  each_insert u (x ∷ xs) ys p h = (h.0, each_insert u xs ys p h.1)

  pub each_front : (xs ys : List (List ℕ)) → Each P (xs ++ ys) → Each P xs
  each_front [] ys h = tt
  each_front (x ∷ xs) ys h = (h.0, each_front xs ys h.1)

pub flat_perm : {l m : List (List ℕ)} → Permᴰ l m → length (flat l) ≡ length (flat m)
flat_perm Permᴰ.nil = refl
flat_perm (Permᴰ.cons e d) = rw (← e) (simp length-append (omega (arith, flat_perm d)))
flat_perm (Permᴰ.swap e₁ e₂) = rw (← e₁, ← e₂) (simp length-append (omega arith))
flat_perm (Permᴰ.trans d₁ d₂) = flat_perm d₁ ∙ flat_perm d₂

pub flat_append : (xs ys : List (List ℕ)) → flat (xs ++ ys) ≡ flat xs ++ flat ys
flat_append [] ys = refl
flat_append (x ∷ xs) ys = rw (flat_append xs ys, append_assoc)
