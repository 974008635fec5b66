-- What a walk that ends has noted: it only grows, and each body lies inside the message.
-- Assumes nothing.
use mathlib.Core.Path.{◌≡◌, refl, sym, ap, ◌∙◌}
use mathlib.Core.List.{List, [], ◌∷◌, ◌++◌, append_assoc, append-nil}
use mathlib.Core.Bool.{Bool, true, false, cond, ◌&&◌, ◌||◌}
use Prim.Native.Nat.{ℕ, zero, suc, ◌+◌, ◌≤◌}
use native.Mathlib.Omega.{arith}
use lib.ListN.{length, length-append}
use mathlib.Core.Logic.{◌⊎◌, inl, inr}
use lib.Dec.{eqb}
use Rattle.nts.specs.Refusal.{nothing}
use Rattle.record.specs.Record.{kind, size}
use Rattle.walk.specs.Walk.{Act, ends, passes, notes, refuses, Reader, Sighting, Outcome, stopped, ended, Step, stops, goes, has, meet, judge, step, fault_in, act_in, walk}
use Rattle.walk.specs.Judge.{of_kind, some}
use Rattle.walk.proofs.Faultless.{faultless_whole}

-- a record at a place, as it is noted
abbrev pub sighting_of : ℕ → List ℕ → Sighting
sighting_of at t = record { of = kind t; start = at + 4; len = size t }

-- ---- one step

-- a step that goes on found no fault, and notes the record or nothing
pub record Went (R : Reader) (st st' : List Sighting) (at : ℕ) (t : List ℕ) : Type 0 where
  pub faultless : fault_in R t ≡ 0
  pub more : List Sighting
  pub grown : st' ≡ st ++ more
  pub only : (more ≡ []) ⊎ (more ≡ sighting_of at t ∷ [])

pub step_went : (R : Reader) (st st' : List Sighting) (at : ℕ) (t : List ℕ) → step R st at t ≡ goes st' → Went R st st' at t
unfolding step judge meet
step_went R st st' at t e = by_fault (fault_in R t) refl e
  where
    noted : (b : Bool) → fault_in R t ≡ 0 → cond b (stops (stopped (record { number = 4; beside = nothing; place = at }))) (goes (st ++ (sighting_of at t ∷ []))) ≡ goes st' → Went R st st' at t
    noted true z q = let o : ◌≡◌ {A = ℕ} 0 1 = cc in absurd (omega arith)
    noted false z q = record { faultless = z; more = sighting_of at t ∷ []; grown = cc; only = inr refl }

    by_act : (a : Act) → fault_in R t ≡ 0 → meet R st at (kind t) (size t) a ≡ goes st' → Went R st st' at t
    by_act ends z q = let o : ◌≡◌ {A = ℕ} 0 1 = cc in absurd (omega arith)
    by_act passes z q = record { faultless = z; more = []; grown = cc (append-nil st); only = inl refl }
    by_act notes z q = noted (R.once (kind t) && has (kind t) st) z q
    by_act (refuses n b) z q = let o : ◌≡◌ {A = ℕ} 0 1 = cc in absurd (omega arith)

    by_fault : (f : ℕ) → fault_in R t ≡ f → judge R st at t f ≡ goes st' → Went R st st' at t
    by_fault zero z q = by_act (act_in R t) z q
    by_fault (suc f) z q = let o : ◌≡◌ {A = ℕ} 0 1 = cc in absurd (omega arith)

-- a step that ends the walk is at a record that ends it, leaves what was noted, and its own place
pub step_ended : (R : Reader) (st st' : List Sighting) (at p next : ℕ) (t : List ℕ) → step R st at t ≡ stops (ended p next st')
    → (p ≡ at) × (st' ≡ st) × (act_in R t ≡ ends)
unfolding step judge meet
step_ended R st st' at p next t e = by_fault (fault_in R t) e
  where
    noted : (b : Bool) → cond b (stops (stopped (record { number = 4; beside = nothing; place = at }))) (goes (st ++ (sighting_of at t ∷ []))) ≡ stops (ended p next st') → (p ≡ at) × (st' ≡ st) × (act_in R t ≡ ends)
    noted true q = let o : ◌≡◌ {A = ℕ} 0 1 = cc in absurd (omega arith)
    noted false q = let o : ◌≡◌ {A = ℕ} 0 1 = cc in absurd (omega arith)

    by_act : (a : Act) → act_in R t ≡ a → meet R st at (kind t) (size t) a ≡ stops (ended p next st') → (p ≡ at) × (st' ≡ st) × (act_in R t ≡ ends)
    by_act ends i q = (cc, cc, i)
    by_act passes i q = let o : ◌≡◌ {A = ℕ} 0 1 = cc in absurd (omega arith)
    by_act notes i q = noted (R.once (kind t) && has (kind t) st) q
    by_act (refuses n b) i q = let o : ◌≡◌ {A = ℕ} 0 1 = cc in absurd (omega arith)

    by_fault : (f : ℕ) → judge R st at t f ≡ stops (ended p next st') → (p ≡ at) × (st' ≡ st) × (act_in R t ≡ ends)
    by_fault zero q = by_act (act_in R t) refl q
    by_fault (suc f) q = let o : ◌≡◌ {A = ℕ} 0 1 = cc in absurd (omega arith)

-- ---- the whole walk

-- each body ends by N
abbrev pub Inside : ℕ → List Sighting → Type 0
Inside N [] = Unit {0}
Inside N (x ∷ l) = (x.start + x.len ≤ N) × Inside N l

inside_more : (N : ℕ) (l : List Sighting) (x : Sighting) → Inside N l → x.start + x.len ≤ N → Inside N (l ++ (x ∷ []))
inside_more N [] x h i = (i, tt)
inside_more N (y ∷ l) x h i = (h.0, inside_more N l x h.1 i)

inside_went : (N : ℕ) (R : Reader) (st st' : List Sighting) (at : ℕ) (t : List ℕ) → Inside N st → at + (4 + size t) ≤ N → Went R st st' at t → Inside N st'
inside_went N R st st' at t h i w = rw w.grown (go w.more w.only)
  where
    go : (m : List Sighting) → (m ≡ []) ⊎ (m ≡ sighting_of at t ∷ []) → Inside N (st ++ m)
    go m (inl e) = rw (e, append-nil) h
    go m (inr e) = rw e (inside_more N st (sighting_of at t) h (omega arith))

pub walk_inside : (R : Reader) (st : List Sighting) (at k : ℕ) (s : List ℕ) (N p next : ℕ) (st' : List Sighting) → at + length s ≤ N + k → Inside N st
    → walk R st at k s ≡ ended p next st' → Inside N st'
unfolding walk
walk_inside R st at k [] N p next st' l h e = let o : ◌≡◌ {A = ℕ} 0 1 = cc in absurd (omega arith)
walk_inside R st at (suc k) (b ∷ s) N p next st' l h e = walk_inside R st at k s N p next st' (omega arith) h e
walk_inside R st at zero (b ∷ s) N p next st' l h e = go (step R st at (b ∷ s)) refl e (λ st₁ g i. walk_inside R st₁ (at + (4 + size (b ∷ s))) (3 + size (b ∷ s)) s N p next st' (omega arith) i g)
  where
    go : (y : Step) → step R st at (b ∷ s) ≡ y → ◌≡◌ {A = Outcome} (elim y as (λ (x : Step). Outcome) [ stops o ↦ o | goes st₁ ↦ walk R st₁ (at + (4 + size (b ∷ s))) (3 + size (b ∷ s)) s ]) (ended p next st')
        → ((st₁ : List Sighting) → walk R st₁ (at + (4 + size (b ∷ s))) (3 + size (b ∷ s)) s ≡ ended p next st' → Inside N st₁ → Inside N st') → Inside N st'
    go (stops o) y q ih = rw (step_ended R st st' at p next (b ∷ s) (cc)).1 h
    go (goes st₁) y q ih =
        let w = step_went R st st₁ at (b ∷ s) y in
        let f = faultless_whole R (b ∷ s) w.faultless in
        ih st₁ q (inside_went N R st st₁ at (b ∷ s) h (omega arith) w)

-- what is noted at a place is noted at the end
pub walk_grows : (R : Reader) (st : List Sighting) (at k : ℕ) (s : List ℕ) (p next : ℕ) (st' : List Sighting) → walk R st at k s ≡ ended p next st' → (more : List Sighting) × (st' ≡ st ++ more)
unfolding walk
walk_grows R st at k [] p next st' e = let o : ◌≡◌ {A = ℕ} 0 1 = cc in absurd (omega arith)
walk_grows R st at (suc k) (b ∷ s) p next st' e = walk_grows R st at k s p next st' e
walk_grows R st at zero (b ∷ s) p next st' e = go (step R st at (b ∷ s)) refl e (λ st₁ g. walk_grows R st₁ (at + (4 + size (b ∷ s))) (3 + size (b ∷ s)) s p next st' g)
  where
    go : (y : Step) → step R st at (b ∷ s) ≡ y → ◌≡◌ {A = Outcome} (elim y as (λ (x : Step). Outcome) [ stops o ↦ o | goes st₁ ↦ walk R st₁ (at + (4 + size (b ∷ s))) (3 + size (b ∷ s)) s ]) (ended p next st')
        → ((st₁ : List Sighting) → walk R st₁ (at + (4 + size (b ∷ s))) (3 + size (b ∷ s)) s ≡ ended p next st' → (more : List Sighting) × (st' ≡ st₁ ++ more)) → (more : List Sighting) × (st' ≡ st ++ more)
    go (stops o) y q ih = ([], (step_ended R st st' at p next (b ∷ s) (cc)).1 ∙ sym (append-nil st))
    go (goes st₁) y q ih =
        let w = step_went R st st₁ at (b ∷ s) y in
        let m = ih st₁ q in
        (w.more ++ m.0, m.1 ∙ ap (λ (l : List Sighting). l ++ m.0) w.grown ∙ append_assoc st w.more m.0)

-- each record noted takes a byte at least
went_few : (R : Reader) (st st' : List Sighting) (at : ℕ) (t : List ℕ) → Went R st st' at t → length st' ≤ length st + 1
went_few R st st' at t w = omega (arith, ap length w.grown ∙ length-append st w.more, go w.more w.only)
  where
    go : (m : List Sighting) → (m ≡ []) ⊎ (m ≡ sighting_of at t ∷ []) → length m ≤ 1
    go m (inl e) = rw e (omega arith)
    go m (inr e) = rw e (omega arith)

pub walk_few : (R : Reader) (st : List Sighting) (at k : ℕ) (s : List ℕ) (p next : ℕ) (st' : List Sighting) → walk R st at k s ≡ ended p next st' → length st' + at ≤ length st + p
unfolding walk
walk_few R st at k [] p next st' e = let o : ◌≡◌ {A = ℕ} 0 1 = cc in absurd (omega arith)
walk_few R st at (suc k) (b ∷ s) p next st' e = walk_few R st at k s p next st' e
walk_few R st at zero (b ∷ s) p next st' e = go (step R st at (b ∷ s)) refl e (λ st₁ g. walk_few R st₁ (at + (4 + size (b ∷ s))) (3 + size (b ∷ s)) s p next st' g)
  where
    go : (y : Step) → step R st at (b ∷ s) ≡ y → ◌≡◌ {A = Outcome} (elim y as (λ (x : Step). Outcome) [ stops o ↦ o | goes st₁ ↦ walk R st₁ (at + (4 + size (b ∷ s))) (3 + size (b ∷ s)) s ]) (ended p next st')
        → ((st₁ : List Sighting) → walk R st₁ (at + (4 + size (b ∷ s))) (3 + size (b ∷ s)) s ≡ ended p next st' → length st' + (at + (4 + size (b ∷ s))) ≤ length st₁ + p) → length st' + at ≤ length st + p
    go (stops o) y q ih = let h = step_ended R st st' at p next (b ∷ s) (cc) in omega (arith, h.0, ap length h.1)
    go (goes st₁) y q ih = omega (arith, ih st₁ q, went_few R st st₁ at (b ∷ s) (step_went R st st₁ at (b ∷ s) y))

-- ---- by kind

pub kind_append : (k : ℕ) (a b : List Sighting) → of_kind k (a ++ b) ≡ of_kind k a ++ of_kind k b
kind_append k [] b = refl
kind_append k (x ∷ a) b = go (eqb x.of k) (kind_append k a b)
  where
    go : (t : Bool) → of_kind k (a ++ b) ≡ of_kind k a ++ of_kind k b → cond t (x ∷ of_kind k (a ++ b)) (of_kind k (a ++ b)) ≡ cond t (x ∷ of_kind k a) (of_kind k a) ++ of_kind k b
    go true h = ap (λ (l : List Sighting). x ∷ l) h
    go false h = h

pub kind_inside : (N k : ℕ) (l : List Sighting) → Inside N l → Inside N (of_kind k l)
kind_inside N k [] h = tt
kind_inside N k (x ∷ l) h = go (eqb x.of k) (kind_inside N k l h.1)
  where
    go : (t : Bool) → Inside N (of_kind k l) → Inside N (cond t (x ∷ of_kind k l) (of_kind k l))
    go true i = (h.0, i)
    go false i = i

-- ---- one record more

abbrev pub sighting : ℕ → ℕ → ℕ → Sighting
sighting k at n = record { of = k; start = at + 4; len = n }

pub kind_more : (j : ℕ) (st : List Sighting) (x : Sighting) → of_kind j (st ++ (x ∷ [])) ≡ of_kind j st ++ cond (eqb x.of j) (x ∷ []) []
kind_more j st x = kind_append j st (x ∷ [])

pub has_some : (k : ℕ) (st : List Sighting) → has k st ≡ some (of_kind k st)
unfolding has
has_some k [] = refl
has_some k (x ∷ st) = go (eqb x.of k) (has_some k st)
  where
    go : (b : Bool) → has k st ≡ some (of_kind k st) → (b || has k st) ≡ some (cond b (x ∷ of_kind k st) (of_kind k st))
    go true h = refl
    go false h = h
