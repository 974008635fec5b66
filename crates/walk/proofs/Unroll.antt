-- The walk unrolled, and what it meets: one record, and the same from the place after it.
-- Assumes nothing.
use mathlib.Core.Path.{◌≡◌, refl, sym, ◌∙◌, ap}
use mathlib.Core.List.{List, [], ◌∷◌}
use mathlib.Core.Bool.{cond}
use Prim.Native.Nat.{ℕ, zero, suc, ◌+◌}
use native.Mathlib.Omega.{arith}
use lib.ListN.{drop}
use lib.Dec.{eqb}
use Rattle.nts.specs.Refusal.{nothing}
use Rattle.record.specs.Record.{size, fault_by}
use Rattle.walk.specs.Walk.{Reader, fault_in, Sighting, Outcome, stopped, Step, stops, goes, judge, step, walk}
use Rattle.walk.specs.Shown.{Mark, mark_at, shown}

-- where a step leads
abbrev pub after : Step → (List Sighting → Outcome) → Outcome
after (stops o) f = o
after (goes st) f = f st

walk_drop : (R : Reader) (st : List Sighting) (at k : ℕ) (s : List ℕ) → walk R st at k s ≡ walk R st at 0 (drop k s)
unfolding walk
walk_drop R st at zero [] = refl
walk_drop R st at (suc k) [] = refl
walk_drop R st at zero (b ∷ s) = refl
walk_drop R st at (suc k) (b ∷ s) = walk_drop R st at k s

step_none : (R : Reader) (st : List Sighting) (at : ℕ) → step R st at [] ≡ stops (stopped (record { number = 1; beside = nothing; place = at }))
unfolding step fault_by judge
step_none R st at = refl

four : (n : ℕ) → 4 + n ≡ suc (3 + n)
four n = omega arith

pub unroll : (R : Reader) (st : List Sighting) (at : ℕ) (s : List ℕ) → walk R st at 0 s ≡ after (step R st at s) (λ st'. walk R st' (at + (4 + size s)) 0 (drop (4 + size s) s))
unfolding walk
unroll R st at [] = rw (step_none R st at)
unroll R st at (b ∷ s) = go (step R st at (b ∷ s))
  where
    go : (x : Step) → ◌≡◌ {A = Outcome} (elim x as (λ (y : Step). Outcome) [ stops o ↦ o | goes st' ↦ walk R st' (at + (4 + size (b ∷ s))) (3 + size (b ∷ s)) s ]) (after x (λ st'. walk R st' (at + (4 + size (b ∷ s))) 0 (drop (4 + size (b ∷ s)) (b ∷ s))))
    go (stops o) = refl
    go (goes st') = walk_drop R st' (at + (4 + size (b ∷ s))) (3 + size (b ∷ s)) s ∙ ap (λ (k : ℕ). walk R st' (at + (4 + size (b ∷ s))) 0 (drop k (b ∷ s))) (sym (four (size (b ∷ s))))

-- ---- what it meets

abbrev pub onward : Step → (List Sighting → List Mark) → List Mark
onward (stops o) f = []
onward (goes st) f = f st

shown_drop : (R : Reader) (st : List Sighting) (at k : ℕ) (s : List ℕ) → shown R st at k s ≡ shown R st at 0 (drop k s)
unfolding shown
shown_drop R st at zero [] = refl
shown_drop R st at (suc k) [] = refl
shown_drop R st at zero (b ∷ s) = refl
shown_drop R st at (suc k) (b ∷ s) = shown_drop R st at k s

pub unroll_shown : (R : Reader) (st : List Sighting) (at : ℕ) (s : List ℕ)
    → shown R st at 0 s ≡ cond (eqb (fault_in R s) 0) (mark_at at s ∷ onward (step R st at s) (λ st'. shown R st' (at + (4 + size s)) 0 (drop (4 + size s) s))) []
unfolding shown fault_by
unroll_shown R st at [] = refl
unroll_shown R st at (b ∷ s) = ap (λ (l : List Mark). cond (eqb (fault_in R (b ∷ s)) 0) (mark_at at (b ∷ s) ∷ l) []) (go (step R st at (b ∷ s)))
  where
    go : (x : Step) → ◌≡◌ {A = List Mark} (elim x as (λ (y : Step). List Mark) [ stops o ↦ [] | goes st' ↦ shown R st' (at + (4 + size (b ∷ s))) (3 + size (b ∷ s)) s ]) (onward x (λ st'. shown R st' (at + (4 + size (b ∷ s))) 0 (drop (4 + size (b ∷ s)) (b ∷ s))))
    go (stops o) = refl
    go (goes st') = shown_drop R st' (at + (4 + size (b ∷ s))) (3 + size (b ∷ s)) s ∙ ap (λ (k : ℕ). shown R st' (at + (4 + size (b ∷ s))) 0 (drop k (b ∷ s))) (sym (four (size (b ∷ s))))
