-- Messages that are made of records whose kinds and bodies are known: such a message is read as the decision over those bodies says.
-- Assumes nothing.
use mathlib.Core.Path.{◌≡◌, refl, ◌∙◌, ap}
use mathlib.Core.List.{List, [], ◌∷◌, ◌++◌, map}
use mathlib.Core.Bool.{Bool, true, false, ◌&&◌, ◌||◌, cond}
use Prim.Native.Nat.{ℕ, ◌+◌, ◌≤◌}
use native.Mathlib.Omega.{arith}
use lib.ListN.{length}
use lib.Dec.{eqb}
use borrow.Author.Tests.{eq-eqb}
use Rattle.nts.specs.Refusal.{Beside}
use Rattle.record.specs.Record.{kind, there}
use Rattle.walk.specs.Walk.{notes, Reader, fault_in, act_in, has}
use Rattle.walk.specs.Judge.{no, yes, Under, Judge, refused, read_as}
use Rattle.walk.specs.Message.{Whole, Each, flat, message, Shows}
use Rattle.walk.proofs.Chunks.{each_map}
use Rattle.walk.proofs.Passing.{is_calm, calm_goes, seen_in, noted, mark, Passed, Inner, Last}
use Rattle.walk.proofs.Reorder.{bodies_of}
use Rattle.walk.proofs.Laws.{Lawful, shown, Silent, good_shows, decided_no}

-- ---- what holds of each record

pub each_append : (P : List ℕ → Type 0) (xs ys : List (List ℕ)) → Each P xs → Each P ys → Each P (xs ++ ys)
each_append P [] ys h g = g
each_append P (x ∷ xs) ys h g = (h.0, each_append P xs ys h.1 g)

pub each_all : {P : List ℕ → Type 0} → ((c : List ℕ) → P c) → (cs : List (List ℕ)) → Each P cs
each_all f [] = tt
each_all f (c ∷ cs) = (f c, each_all f cs)

module _ (R : Reader) where
  -- a whole record without fault that neither ends a message nor is refused by itself
  pub record Calm (c : List ℕ) : Type 0 where
    pub whole : Whole c
    pub faultless : fault_in R c ≡ 0
    pub calm : is_calm (act_in R c) ≡ true

  pub calm_inner : (cs : List (List ℕ)) → Each Calm cs → Each (Inner R) cs
  calm_inner = each_map (λ c h. (h.whole, calm_goes (act_in R c) h.calm))

  -- ---- the walk passes them, if of a kind that may stand once there is at most one, and none where one was noted before

  pub calm_passed : (seen : ℕ → Bool) (cs : List (List ℕ)) → Each Calm cs
      → ((k : ℕ) → R.once k ≡ true → length (bodies_of R k cs) ≤ cond (seen k) 0 1) → Passed R seen cs
  calm_passed seen [] h o = tt
  calm_passed seen (c ∷ cs) h o = (
    record {
      faultless = h.0.faultless;
      calm = h.0.calm;
      alone = alone (noted R c) (R.once (kind c)) (seen (kind c)) refl refl refl;
    },
    calm_passed (mark R seen c) cs h.1 (λ k e. later k (noted R c) (eqb (kind c) k) (seen k) (o k e)),
  )
    where
      alone : (p q s : Bool) → noted R c ≡ p → R.once (kind c) ≡ q → seen (kind c) ≡ s → (p && (q && s)) ≡ false
      alone true true true x y z = absurd (omega (arith, rw (x, eq-eqb (kind c) (kind c) refl, z) at (o (kind c) y)))
      alone true true false x y z = refl
      alone true false s x y z = refl
      alone false q s x y z = refl

      later : (k : ℕ) (p q s : Bool) → length (cond (p && q) (there c ∷ bodies_of R k cs) (bodies_of R k cs)) ≤ cond s 0 1
          → length (bodies_of R k cs) ≤ cond ((p && q) || s) 0 1
      later k true true true i = omega arith
      later k true true false i = omega arith
      later k true false s i = i
      later k false q s i = i

  -- ---- records that are calm, of which these bodies are noted, by kind

  pub record Noted (cs : List (List ℕ)) (l : ℕ → List (List ℕ)) : Type 0 where
    pub each : Each Calm cs
    pub bodies : (k : ℕ) → bodies_of R k cs ≡ l k

  -- a record of the kind j with the body b, which is noted
  pub record Notes (j : ℕ) (b c : List ℕ) : Type 0 where
    pub whole : Whole c
    pub kinded : kind c ≡ j
    pub body : there c ≡ b
    pub faultless : fault_in R c ≡ 0
    pub act : act_in R c ≡ notes

  -- records of one kind, one for each body
  pub noted_map : (j : ℕ) (f : List ℕ → List ℕ) (l : List (List ℕ)) → Each (λ b. Notes j b (f b)) l
      → Noted (map f l) (λ k. cond (eqb j k) l [])
  noted_map j f [] h = record { each = tt; bodies = λ k. none (eqb j k) }
    where
      none : (t : Bool) → ◌≡◌ {A = List (List ℕ)} [] (cond t [] [])
      none true = refl
      none false = refl
  noted_map j f (b ∷ l) h =
      let i = noted_map j f l h.1 in
      record {
        each = (record { whole = h.0.whole; faultless = h.0.faultless; calm = ap is_calm h.0.act }, i.each);
        bodies = λ k. rw (h.0.act, h.0.kinded, h.0.body, i.bodies k) (more (eqb j k));
      }
    where
      more : (t : Bool) → cond t (b ∷ cond t l []) (cond t l []) ≡ cond t (b ∷ l) []
      more true = refl
      more false = refl

  bodies_append : (k : ℕ) (xs ys : List (List ℕ)) → bodies_of R k (xs ++ ys) ≡ bodies_of R k xs ++ bodies_of R k ys
  bodies_append k [] ys = refl
  bodies_append k (x ∷ xs) ys = rw (bodies_append k xs ys) (go (noted R x && eqb (kind x) k))
    where
      go : (t : Bool) → cond t (there x ∷ (bodies_of R k xs ++ bodies_of R k ys)) (bodies_of R k xs ++ bodies_of R k ys)
          ≡ cond t (there x ∷ bodies_of R k xs) (bodies_of R k xs) ++ bodies_of R k ys
      go true = refl
      go false = refl

  -- and then others
  pub noted_append : {xs ys : List (List ℕ)} {l m : ℕ → List (List ℕ)} → Noted xs l → Noted ys m → Noted (xs ++ ys) (λ k. l k ++ m k)
  noted_append {xs} {ys} {l} {m} p q = record {
    each = each_append Calm xs ys p.each q.each;
    bodies = λ k. bodies_append k xs ys ∙ cc (p.bodies k, q.bodies k);
  }

-- ---- a message of them

module _ (R : Reader) (D : Judge) (L : Lawful R D) (u : Under) (cs : List (List ℕ)) (e t : List ℕ) (l : ℕ → List (List ℕ)) (h : Noted R cs l)
    (once : (k : ℕ) → R.once k ≡ true → length (l k) ≤ 1) (last : Last R e) (fits : length (flat cs) + length e ≤ u.limit) (silent : Silent R D L u cs e t) where
  passed : Passed R (seen_in []) cs
  unfolding has
  passed = calm_passed R (seen_in []) cs h.each (λ k o. rw (h.bodies k) (once k o))

  same : D.decide u (λ (b : List ℕ). b) (λ k. bodies_of R k cs) ≡ D.decide u (λ (b : List ℕ). b) l
  same = ap (D.decide u (λ (b : List ℕ). b)) (λ j k. h.bodies k j)

  -- accepted where the decision over the bodies is, and so shown
  pub noted_shows : (x : D.Q (List ℕ)) → D.decide u (λ (b : List ℕ). b) l ≡ yes x → Shows R D (message cs e t) u x
  unfolding shown
  noted_shows x y = good_shows R D L u e x cs t (record {
    inner = calm_inner R cs h.each;
    last = last;
    passed = passed;
    fits = fits;
    shows = same ∙ y;
  }) silent

  -- refused where it is, at the end record's place
  pub noted_refused : (k : ℕ) (b : Beside) → D.decide u (λ (b : List ℕ). b) l ≡ no k b
      → read_as R D (message cs e t) u ≡ refused (record { number = k; beside = b; place = length (flat cs) })
  unfolding shown
  noted_refused k b y = decided_no R D L u cs e t (calm_inner R cs h.each) last k b passed fits silent (same ∙ y)
