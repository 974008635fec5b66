-- A kind of which a reader notes no record: none of it is noted by a walk.
-- Assumes nothing.
use mathlib.Core.Path.{◌≡◌, refl, sym, ap, ◌∙◌}
use mathlib.Core.List.{List, [], ◌∷◌, append-nil}
use mathlib.Core.Bool.{Bool, true, false}
use mathlib.Core.Logic.{⊎_elim}
use Prim.Native.Nat.{ℕ, zero, suc, ◌+◌}
use native.Mathlib.Omega.{arith}
use lib.Dec.{eqb}
use borrow.Author.Tests.{eqb-true}
use Rattle.record.specs.Record.{kind, critical, size, there}
use Rattle.walk.specs.Walk.{Act, ends, passes, notes, refuses, Reader, Sighting, Outcome, ended, Step, stops, goes, meet, judge, step, act_in, walk}
use Rattle.walk.specs.Judge.{of_kind}
use Rattle.walk.proofs.Noted.{Went, step_went, step_ended, kind_append}

module _ (R : Reader) (k : ℕ) (never : (bit : Bool) (b : List ℕ) → R.act k bit b ≡ notes → ⊥) where
  step_unnoted : (st st₁ : List Sighting) (at : ℕ) (t : List ℕ) → step R st at t ≡ goes st₁ → of_kind k st₁ ≡ of_kind k st
  unfolding step judge meet act_in
  step_unnoted st st₁ at t y = go (eqb (kind t) k) refl
    where
      w : Went R st st₁ at t
      w = step_went R st st₁ at t y

      by_act : kind t ≡ k → (a : Act) → act_in R t ≡ a → meet R st at (kind t) (size t) a ≡ goes st₁ → st₁ ≡ st
      by_act e ends q x = let z : ◌≡◌ {A = ℕ} 0 1 = cc in absurd (omega arith)
      by_act e passes q x = cc
      by_act e notes q x = absurd (never (critical t) (there t) (ap (λ (j : ℕ). R.act j (critical t) (there t)) (sym e) ∙ q))
      by_act e (refuses n b) q x = let z : ◌≡◌ {A = ℕ} 0 1 = cc in absurd (omega arith)

      not_here : eqb (kind t) k ≡ false → of_kind k w.more ≡ []
      not_here e = ⊎_elim (λ o. ap (of_kind k) o) (λ o. ap (of_kind k) o ∙ rw e) w.only

      go : (b : Bool) → eqb (kind t) k ≡ b → of_kind k st₁ ≡ of_kind k st
      go true e =
          let x : judge R st at t 0 ≡ goes st₁ = rw w.faultless at y in
          ap (of_kind k) (by_act (eqb-true (kind t) k e) (act_in R t) refl x)
      go false e = ap (of_kind k) w.grown ∙ kind_append k st w.more ∙ rw (not_here e) (append-nil (of_kind k st))

  pub walk_unnoted : (st : List Sighting) (at j : ℕ) (s : List ℕ) (p next : ℕ) (st' : List Sighting) → walk R st at j s ≡ ended p next st' → of_kind k st' ≡ of_kind k st
  unfolding walk
  walk_unnoted st at j [] p next st' e = let o : ◌≡◌ {A = ℕ} 0 1 = cc in absurd (omega arith)
  walk_unnoted st at (suc j) (b ∷ s) p next st' e = walk_unnoted st at j s p next st' e
  walk_unnoted st at zero (b ∷ s) p next st' e =
      go (step R st at (b ∷ s)) refl e (λ st₁ g. walk_unnoted st₁ (at + (4 + size (b ∷ s))) (3 + size (b ∷ s)) s p next st' g)
    where
      go : (y : Step) → step R st at (b ∷ s) ≡ y
          → ◌≡◌ {A = Outcome} (elim y as (λ (x : Step). Outcome) [ stops o ↦ o | goes st₁ ↦ walk R st₁ (at + (4 + size (b ∷ s))) (3 + size (b ∷ s)) s ]) (ended p next st')
          → ((st₁ : List Sighting) → walk R st₁ (at + (4 + size (b ∷ s))) (3 + size (b ∷ s)) s ≡ ended p next st' → of_kind k st' ≡ of_kind k st₁) → of_kind k st' ≡ of_kind k st
      go (stops o) y q ih = ap (of_kind k) (step_ended R st st' at p next (b ∷ s) (y ∙ ap stops q)).1
      go (goes st₁) y q ih = ih st₁ q ∙ step_unnoted st st₁ at (b ∷ s) y
