-- Verdicts of any judge: the same over bodies and over what stands for them, and what holds of every one that accepts.
-- Assumes nothing.
use mathlib.Core.Path.{◌≡◌, refl, subst}
use mathlib.Core.List.{List, [], ◌∷◌, map}
use mathlib.Core.Bool.{Bool, true, false, cond}
use Prim.Native.Nat.{ℕ, ◌+◌, ◌≤◌}
use native.Mathlib.Omega.{arith}
use lib.ListN.{length, take, length-take}
use Rattle.walk.specs.Walk.{Reader, Sighting, Outcome, stopped, ended, walked}
use Rattle.walk.specs.Judge.{Verdict, no, yes, Under, Judge, of_kind, some, with_first, body_in, accepted, placed, finish, read_as}
use Rattle.walk.proofs.Behind.{walked_ended}
use Rattle.walk.proofs.Laws.{map_verdict}
use Rattle.walk.proofs.Noted.{Inside, walk_inside}

-- ---- a test that passed, and one that did not

pub taken : {A : Type 0} (b : Bool) (x y : A) → b ≡ true → x ≡ cond b x y
taken b x y e = rw e

pub left : {A : Type 0} (b : Bool) (x y : A) → b ≡ false → y ≡ cond b x y
left b x y e = rw e

-- ---- whether a record of a kind is there

pub some_length : {A : Type 0} (l l' : List A) → length l ≡ length l' → some l ≡ some l'
some_length [] [] h = refl
some_length [] (x ∷ l') h = absurd (omega arith)
some_length (x ∷ l) [] h = absurd (omega arith)
some_length (x ∷ l) (y ∷ l') h = refl

pub some_map : {A : Type 0} (f : A → List ℕ) (l : List A) → some (map f l) ≡ some l
some_map f [] = refl
some_map f (x ∷ l) = refl

-- ---- a verdict over bodies, and the same over what stands for them

module _ (D : Judge) {A : Type 0} (f : A → List ℕ) where
  pub if_map : (t : Bool) (v w : Verdict D.Q A) (v' w' : Verdict D.Q (List ℕ)) → map_verdict D f v ≡ v' → map_verdict D f w ≡ w'
      → map_verdict D f (cond t v w) ≡ cond t v' w'
  if_map true v w v' w' p q = p
  if_map false v w v' w' p q = q

  pub first_map : (l : List A) (z : Verdict D.Q A) (g : A → Verdict D.Q A) (z' : Verdict D.Q (List ℕ)) (g' : List ℕ → Verdict D.Q (List ℕ))
      → map_verdict D f z ≡ z' → ((x : A) → map_verdict D f (g x) ≡ g' (f x)) → map_verdict D f (with_first l z g) ≡ with_first (map f l) z' g'
  first_map [] z g z' g' e h = e
  first_map (x ∷ l) z g z' g' e h = h x

-- ---- what holds of every verdict that accepts

module _ (D : Judge) (P : D.Q Sighting → Type 0) where
  abbrev pub Held : Verdict D.Q Sighting → Type 0
  Held (no n b) = Unit {0}
  Held (yes q) = P q

  pub held_if : (t : Bool) (v w : Verdict D.Q Sighting) → (t ≡ true → Held v) → (t ≡ false → Held w) → Held (cond t v w)
  held_if true v w p q = p refl
  held_if false v w p q = q refl

  pub held_first : (N : ℕ) (l : List Sighting) (v : Verdict D.Q Sighting) (f : Sighting → Verdict D.Q Sighting) → Inside N l → Held v
      → ((x : Sighting) → x.start + x.len ≤ N → Held (f x)) → Held (with_first l v f)
  held_first N [] v f i p q = p
  held_first N (x ∷ l) v f i p q = q x i.0

  held_placed : (at : ℕ) (v : Verdict D.Q Sighting) (q : D.Q Sighting) → Held v → placed at v ≡ accepted q → P q
  held_placed at (no n b) q h e = let z : ◌≡◌ {A = ℕ} 0 1 = cc in absurd (omega arith)
  held_placed at (yes x) q h e = let same : x ≡ q = cc in subst P same h

  -- a message that is accepted was decided over records whose bodies lie inside it
  pub accepted_held : (R : Reader) (m : List ℕ) (u : Under) (q : D.Q Sighting)
      → ((st : List Sighting) → Inside (length m) st → Held (D.decide u (body_in m) (λ k. of_kind k st))) → read_as R D m u ≡ accepted q → P q
  unfolding read_as finish
  accepted_held R m u q i h = go (walked R (take u.limit m)) refl h
    where
      go : (o : Outcome) → walked R (take u.limit m) ≡ o → finish D u m o ≡ accepted q → P q
      go (stopped r) w e = let z : ◌≡◌ {A = ℕ} 0 1 = cc in absurd (omega arith)
      go (ended at next st) w e =
          held_placed at (D.decide u (body_in m) (λ k. of_kind k st)) q
          (i st (walk_inside R [] 0 0 (take u.limit m) (length m) at next st (simp length-take (omega arith)) tt (walked_ended R (take u.limit m) at next st w))) e
