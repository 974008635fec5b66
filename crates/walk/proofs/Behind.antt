-- What follows the end record: a walk that came to it ends there unless nothing may follow and a byte does; and one that was refused stays so.
-- Assumes nothing.
use mathlib.Core.Path.{◌≡◌, refl, sym, ap, ◌∙◌}
use mathlib.Core.List.{List, []}
use mathlib.Core.Bool.{Bool, true, false, cond, ◌&&◌}
use Prim.Native.Nat.{ℕ, ◌≤◌}
use native.Mathlib.Omega.{arith}
use lib.ListN.{length}
use lib.Dec.{ltb}
use borrow.Author.Tests.{le-ltb}
use Rattle.nts.specs.Refusal.{nothing, Refused}
use Rattle.walk.specs.Walk.{Reader, Sighting, Outcome, stopped, ended, walk, behind, walked}

module _ (R : Reader) (s : List ℕ) where
  -- a byte follows the place after the end record, where none may
  abbrev pub follows : ℕ → Bool
  follows next = R.final && ltb next (length s)

  behind_ended : (o : Outcome) (at next : ℕ) (st : List Sighting) → behind R s o ≡ ended at next st → (o ≡ ended at next st) × (follows next ≡ false)
  unfolding behind
  behind_ended (stopped r) at next st e = let z : ◌≡◌ {A = ℕ} 0 1 = cc in absurd (omega arith)
  behind_ended (ended a n x) at next st e = go (follows n) refl e
    where
      go : (b : Bool) → follows n ≡ b → cond b (stopped (record { number = 18; beside = nothing; place = n })) (ended a n x) ≡ ended at next st → (ended a n x ≡ ended at next st) × (follows next ≡ false)
      go true q h = let z : ◌≡◌ {A = ℕ} 0 1 = cc in absurd (omega arith)
      go false q h = let same : n ≡ next = cc in (h, ap follows (sym same) ∙ q)

  -- where the whole message ends, its walk does
  pub walked_ended : (at next : ℕ) (st : List Sighting) → walked R s ≡ ended at next st → walk R [] 0 0 s ≡ ended at next st
  unfolding walked
  walked_ended at next st e = (behind_ended (walk R [] 0 0 s) at next st e).0

  pub walked_alone : (at next : ℕ) (st : List Sighting) → walked R s ≡ ended at next st → follows next ≡ false
  unfolding walked
  walked_alone at next st e = (behind_ended (walk R [] 0 0 s) at next st e).1

  -- .. and back, where no byte follows
  pub ended_walked : (at next : ℕ) (st : List Sighting) → walk R [] 0 0 s ≡ ended at next st → follows next ≡ false → walked R s ≡ ended at next st
  unfolding walked behind
  ended_walked at next st e q = ap (behind R s) e ∙ rw q

  -- one that does is told at its place
  pub ended_followed : (at next : ℕ) (st : List Sighting) → walk R [] 0 0 s ≡ ended at next st → follows next ≡ true → walked R s ≡ stopped (record { number = 18; beside = nothing; place = next })
  unfolding walked behind
  ended_followed at next st e q = ap (behind R s) e ∙ rw q

  pub stopped_walked : (r : Refused) → walk R [] 0 0 s ≡ stopped r → walked R s ≡ stopped r
  unfolding walked behind
  stopped_walked r e = ap (behind R s) e

  pub none_follows : (next : ℕ) → length s ≤ next → follows next ≡ false
  none_follows next h = rw (le-ltb next (length s) h) (go R.final)
    where
      go : (b : Bool) → (b && false) ≡ false
      go true = refl
      go false = refl
