-- What a walk meets from a place on, by a look at the record there and by where the walk stops: the record that stops it is the last.
-- Assumes nothing.
use mathlib.Core.Path.{◌≡◌, refl, sym, ap, subst, ◌∙◌}
use mathlib.Core.List.{List, [], ◌∷◌, ◌++◌}
use mathlib.Core.Bool.{Bool, true, false, cond, ◌&&◌}
use Prim.Native.Nat.{ℕ, zero, suc, ◌+◌, ◌≤◌}
use native.Mathlib.Omega.{arith}
use lib.Dec.{eqb}
use lib.ListN.{length, drop, length-append, length-drop}
use lib.Seq.{drop-drop}
use borrow.Author.Tests.{eqb-true, eq-eqb, ne_eqb}
use Rattle.nts.specs.Refusal.{nothing, Refused}
use Rattle.record.specs.Record.{kind, size, whole, broken, look_from, look_at}
use Rattle.record.proofs.Inverse.{whole_was, broken_was}
use Rattle.record.proofs.Read.{look_inside}
use Rattle.walk.specs.Walk.{Act, ends, passes, notes, refuses, Reader, Sighting, Outcome, stopped, Step, stops, goes, has, meet, judge, step, fault_in, act_in, walk}
use Rattle.walk.specs.Shown.{Mark, mark_at, shown}
use Rattle.walk.specs.Found.{place_of}
use Rattle.walk.proofs.Faultless.{faultless_whole}
use Rattle.walk.proofs.Noted.{sighting_of, step_went}
use Rattle.walk.proofs.Unroll.{after, unroll, onward, unroll_shown}

-- ---- where a walk stops

-- a step that stops does so at its record
pub step_place : (R : Reader) (st : List Sighting) (at : ℕ) (t : List ℕ) (o : Outcome) → step R st at t ≡ stops o → place_of o ≡ at
unfolding step judge meet
step_place R st at t o e = by_fault (fault_in R t) e
  where
    out : (p : Outcome) → stops p ≡ stops o → place_of o ≡ place_of p
    out p q = let same : p ≡ o = cc in ap place_of (sym same)

    noted : (b : Bool) → cond b (stops (stopped (record { number = 4; beside = nothing; place = at }))) (goes (st ++ (sighting_of at t ∷ []))) ≡ stops o → place_of o ≡ at
    noted true q = out _ q
    noted false q = let z : ◌≡◌ {A = ℕ} 0 1 = cc in absurd (omega arith)

    by_act : (a : Act) → meet R st at (kind t) (size t) a ≡ stops o → place_of o ≡ at
    by_act ends q = out _ q
    by_act passes q = let z : ◌≡◌ {A = ℕ} 0 1 = cc in absurd (omega arith)
    by_act notes q = noted (R.once (kind t) && has (kind t) st) q
    by_act (refuses n b) q = out _ q

    by_fault : (f : ℕ) → judge R st at t f ≡ stops o → place_of o ≡ at
    by_fault zero q = by_act (act_in R t) q
    by_fault (suc f) q = out _ q

-- a walk stops inside its message, and not before the place from which it goes
pub place_between : (R : Reader) (st : List Sighting) (at k : ℕ) (s : List ℕ) (N : ℕ) → at ≤ N → at + length s ≤ N + k
    → (at ≤ place_of (walk R st at k s)) × (place_of (walk R st at k s) ≤ N)
unfolding walk
place_between R st at k [] N i l = (omega arith, omega arith)
place_between R st at (suc k) (b ∷ s) N i l = place_between R st at k s N i (omega arith)
place_between R st at zero (b ∷ s) N i l = go (step R st at (b ∷ s)) refl (λ st' n h. place_between R st' (at + (4 + size (b ∷ s))) (3 + size (b ∷ s)) s N n h)
  where
    go : (y : Step) → step R st at (b ∷ s) ≡ y
        → ((st' : List Sighting) → at + (4 + size (b ∷ s)) ≤ N → at + (4 + size (b ∷ s)) + length s ≤ N + (3 + size (b ∷ s)) → (at + (4 + size (b ∷ s)) ≤ place_of (walk R st' (at + (4 + size (b ∷ s))) (3 + size (b ∷ s)) s)) × (place_of (walk R st' (at + (4 + size (b ∷ s))) (3 + size (b ∷ s)) s) ≤ N))
        → (at ≤ place_of (elim y as (λ (x : Step). Outcome) [ stops o ↦ o | goes st₁ ↦ walk R st₁ (at + (4 + size (b ∷ s))) (3 + size (b ∷ s)) s ])) × (place_of (elim y as (λ (x : Step). Outcome) [ stops o ↦ o | goes st₁ ↦ walk R st₁ (at + (4 + size (b ∷ s))) (3 + size (b ∷ s)) s ]) ≤ N)
    go (stops o) e ih = let p = step_place R st at (b ∷ s) o e in (omega arith, omega arith)
    go (goes st') e ih =
        let f = faultless_whole R (b ∷ s) (step_went R st st' at (b ∷ s) e).faultless in
        let h = ih st' (omega arith) (omega arith) in
        (omega (arith, h.0), h.1)

-- ---- what it meets

module _ (R : Reader) (s : List ℕ) where
  -- a record that does not read is not met
  pub meets_none : (st : List Sighting) (at : ℕ) (r : Refused) → broken r ≡ look_at R.shape s at → shown R st at 0 (drop at s) ≡ []
  unfolding look_at
  meets_none st at r e = unroll_shown R st at (drop at s) ∙ rw (ne_eqb (fault_in R (drop at s)) 0 (broken_was R.shape at (drop at s) r e).0)

  module _ (st : List Sighting) (at k : ℕ) (bit : Bool) (n : ℕ) (e : whole k bit n ≡ look_at R.shape s at) where
    abbrev t : List ℕ
    t = drop at s

    abbrev mark : Mark
    mark = record { place = at; kind = k; critical = bit; size = n }

    next : at + (4 + size t) ≡ at + 4 + n
    unfolding look_at
    next = let w = whole_was R.shape at t k bit n e in omega (arith, w.sized)

    met : shown R st at 0 t ≡ mark ∷ onward (step R st at t) (λ st'. shown R st' (at + 4 + n) 0 (drop (at + 4 + n) s))
    unfolding look_at
    met =
        let w = whole_was R.shape at t k bit n e in
        unroll_shown R st at t ∙ rw (w.faultless, drop-drop (4 + size t) at s, next, w.is, w.marked, w.sized)

    walked : walk R st at 0 t ≡ after (step R st at t) (λ st'. walk R st' (at + 4 + n) 0 (drop (at + 4 + n) s))
    walked = unroll R st at t ∙ rw (drop-drop (4 + size t) at s, next)

    -- at the place where the walk stops, it is the last
    pub meets_last : at ≡ place_of (walk R st at 0 t) → shown R st at 0 t ≡ mark ∷ []
    meets_last p = met ∙ go (step R st at t) (p ∙ ap place_of walked)
      where
        go : (y : Step) → at ≡ place_of (after y (λ st'. walk R st' (at + 4 + n) 0 (drop (at + 4 + n) s))) → mark ∷ onward y (λ st'. shown R st' (at + 4 + n) 0 (drop (at + 4 + n) s)) ≡ mark ∷ []
        go (stops o) q = refl
        go (goes st') q =
            let i = look_inside R.shape s at k bit n e in
            let b = place_between R st' (at + 4 + n) 0 (drop (at + 4 + n) s) (length s) i (omega (arith, length-drop (at + 4 + n) s)) in
            absurd (omega (arith, b.0))

    -- before it, others follow
    pub record Onward : Type 0 where
      pub state : List Sighting
      pub meets : shown R st at 0 t ≡ mark ∷ shown R state (at + 4 + n) 0 (drop (at + 4 + n) s)
      pub walks : walk R st at 0 t ≡ walk R state (at + 4 + n) 0 (drop (at + 4 + n) s)

    pub meets_more : (at ≡ place_of (walk R st at 0 t) → ⊥) → Onward
    meets_more p = go (step R st at t) refl
      where
        go : (y : Step) → step R st at t ≡ y → Onward
        go (stops o) q = absurd (p (sym (step_place R st at t o q) ∙ sym (ap place_of (walked ∙ ap (λ (x : Step). after x (λ st'. walk R st' (at + 4 + n) 0 (drop (at + 4 + n) s))) q))))
        go (goes st') q = record {
          state = st';
          meets = met ∙ ap (λ (x : Step). mark ∷ onward x (λ st'. shown R st' (at + 4 + n) 0 (drop (at + 4 + n) s))) q;
          walks = walked ∙ ap (λ (x : Step). after x (λ st'. walk R st' (at + 4 + n) 0 (drop (at + 4 + n) s))) q;
        }

  -- ---- each record that is met reads whole at its place

  -- a list with an element in it has a first one
  some_met : (l₁ l₂ : List Mark) (x : Mark) → [] ≡ l₁ ++ (x ∷ l₂) → ⊥
  some_met l₁ l₂ x q = let n : 0 ≡ length (l₁ ++ (x ∷ l₂)) = ap length q in omega (arith, length-append l₁ (x ∷ l₂))

  first_met : (y x : Mark) (l l₂ : List Mark) → y ∷ l ≡ [] ++ (x ∷ l₂) → y ≡ x
  first_met y x l l₂ q = cc

  later_met : (y z x : Mark) (l l₁ l₂ : List Mark) → y ∷ l ≡ z ∷ l₁ ++ (x ∷ l₂) → l ≡ l₁ ++ (x ∷ l₂)
  later_met y z x l l₁ l₂ q = cc

  abbrev Looked : Mark → Type 0
  Looked x = look_at R.shape s x.place ≡ whole x.kind x.critical x.size

  looked_here : (at : ℕ) (t : List ℕ) → t ≡ drop at s → fault_in R t ≡ 0 → Looked (mark_at at t)
  unfolding look_at look_from
  looked_here at t e z = ap (look_from R.shape at) (sym e) ∙ rw (eq-eqb (fault_in R t) 0 z)

  met_looked : (st : List Sighting) (at k : ℕ) (u : List ℕ) → drop k u ≡ drop at s → (l₁ l₂ : List Mark) (x : Mark) → shown R st at k u ≡ l₁ ++ (x ∷ l₂) → Looked x
  unfolding shown
  met_looked st at k [] e l₁ l₂ x q = absurd (some_met l₁ l₂ x q)
  met_looked st at (suc k) (b ∷ u) e l₁ l₂ x q = met_looked st at k u e l₁ l₂ x q
  met_looked st at zero (b ∷ u) e l₁ l₂ x q =
      by_fault (eqb (fault_in R (b ∷ u)) 0) refl l₁ q (λ st' l₃ h. met_looked st' (at + (4 + size (b ∷ u))) (3 + size (b ∷ u)) u onwards l₃ l₂ x h)
    where
      onwards : drop (3 + size (b ∷ u)) u ≡ drop (at + (4 + size (b ∷ u))) s
      onwards =
          let n : suc (3 + size (b ∷ u)) ≡ 4 + size (b ∷ u) = omega arith in
          ap (λ (i : ℕ). drop i (b ∷ u)) n ∙ ap (drop (4 + size (b ∷ u))) e ∙ drop-drop (4 + size (b ∷ u)) at s

      rest : Step → List Mark
      rest y = elim y as (λ (y' : Step). List Mark) [ stops o ↦ [] | goes st₁ ↦ shown R st₁ (at + (4 + size (b ∷ u))) (3 + size (b ∷ u)) u ]

      by_step : (y : Step) (l₃ : List Mark) → rest y ≡ l₃ ++ (x ∷ l₂)
          → ((st' : List Sighting) (l₄ : List Mark) → shown R st' (at + (4 + size (b ∷ u))) (3 + size (b ∷ u)) u ≡ l₄ ++ (x ∷ l₂) → Looked x) → Looked x
      by_step (stops o) l₃ h ih = absurd (some_met l₃ l₂ x h)
      by_step (goes st') l₃ h ih = ih st' l₃ h

      by_first : (l₃ : List Mark) → fault_in R (b ∷ u) ≡ 0 → mark_at at (b ∷ u) ∷ rest (step R st at (b ∷ u)) ≡ l₃ ++ (x ∷ l₂)
          → ((st' : List Sighting) (l₄ : List Mark) → shown R st' (at + (4 + size (b ∷ u))) (3 + size (b ∷ u)) u ≡ l₄ ++ (x ∷ l₂) → Looked x) → Looked x
      by_first [] z h ih = subst (λ (y : Mark). Looked y) (first_met (mark_at at (b ∷ u)) x (rest (step R st at (b ∷ u))) l₂ h) (looked_here at (b ∷ u) e z)
      by_first (y ∷ l₃) z h ih = by_step (step R st at (b ∷ u)) l₃ (later_met (mark_at at (b ∷ u)) y x (rest (step R st at (b ∷ u))) l₃ l₂ h) ih

      by_fault : (t : Bool) → eqb (fault_in R (b ∷ u)) 0 ≡ t → (l₃ : List Mark) → cond t (mark_at at (b ∷ u) ∷ rest (step R st at (b ∷ u))) [] ≡ l₃ ++ (x ∷ l₂)
          → ((st' : List Sighting) (l₄ : List Mark) → shown R st' (at + (4 + size (b ∷ u))) (3 + size (b ∷ u)) u ≡ l₄ ++ (x ∷ l₂) → Looked x) → Looked x
      by_fault true z l₃ h ih = by_first l₃ (eqb-true (fault_in R (b ∷ u)) 0 z) h ih
      by_fault false z l₃ h ih = absurd (some_met l₃ l₂ x h)

  pub meets_looked : (l₁ l₂ : List Mark) (x : Mark) → shown R [] 0 0 s ≡ l₁ ++ (x ∷ l₂) → look_at R.shape s x.place ≡ whole x.kind x.critical x.size
  meets_looked l₁ l₂ x q = met_looked [] 0 0 s refl l₁ l₂ x q
