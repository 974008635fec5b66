-- What a walk that ended has noted of a kind that its table notes is what it met of that kind.
-- Assumes nothing.
use mathlib.Core.Path.{◌≡◌, refl, sym, ap, ◌∙◌, subst}
use mathlib.Core.List.{List, [], ◌∷◌, ◌++◌, map, append_assoc, append-nil}
use mathlib.Core.Bool.{Bool, true, false, cond}
use Prim.Native.Nat.{ℕ, zero, suc, ◌+◌}
use native.Mathlib.Omega.{arith}
use lib.Dec.{eqb}
use borrow.Author.Tests.{eqb-true, eqb-false}
use Rattle.record.specs.Record.{kind, critical, size, fault_by}
use Rattle.walk.specs.Walk.{Reader, Sighting, Outcome, stopped, ended, Step, stops, goes, has, step, fault_in, walk}
use Rattle.walk.specs.Rules.{Rules, entry_of, reader_of}
use Rattle.walk.specs.Shown.{Mark, mark_at, shown, counted}
use Rattle.walk.specs.Code.{slot_in, asked, verdict_of}
use Rattle.walk.specs.declared.Verdict.{Verdict}
use Rattle.walk.specs.declared.Verdict.TheVariants.{On, End, Stop}
use Rattle.walk.proofs.Looking.{asks}
use Rattle.walk.proofs.Meeting.{step_of, more_of, step_is, step_fault, end_unnoted}
use Rattle.walk.proofs.Standing.{Kept, kept_more}
use Rattle.walk.proofs.Faultless.{faultless_whole}
use Rattle.walk.proofs.Marks.{bit_count}

module _ (rules : Rules) where
  abbrev R : Reader
  R = reader_of rules

  module _ (st sh : List Sighting) (at : ℕ) (t : List ℕ) (h : Kept rules st sh) where
    -- a record that reads, and what is noted with it
    abbrev Read : List Sighting → Type 0
    Read st' = (fault_in R t ≡ 0) × Kept rules st' (sh ++ (counted (reader_of rules).shape (mark_at at t) ∷ []))

    -- .. where a step goes on or ends with it
    abbrev Leads : Step → Type 0
    Leads (stops (stopped r)) = Unit {0}
    Leads (stops (ended p next st')) = Read st'
    Leads (goes st') = Read st'

    pub step_kept : Leads (step R st at t)
    unfolding fault_by
    step_kept = go (eqb (fault_in (reader_of rules) t) 0) refl
      where
        go : (b : Bool) → eqb (fault_in (reader_of rules) t) 0 ≡ b → Leads (step R st at t)
        go true e =
            let z = eqb-true (fault_in (reader_of rules) t) 0 e in
            let x = asked rules.profile t (slot_in rules (kind t)) (critical t) 4 (size t) in
            let l = asks rules t 0 (kind t) (slot_in rules (kind t)) (size t) (critical t) (record { faultless = z; is = refl; marked = refl; sized = refl }) (omega (arith, faultless_whole R t z)) refl in
            let before : ℕ = cond (has (kind t) st) 1 0 in
            subst Leads (sym (step_is rules at t z x l st before (λ kn nt. bit_count (has (kind t) st)))) (by z (verdict_of (entry_of rules x.slot) x before (size t)) (λ q. end_unnoted rules at before t x l q))
          where
            by : fault_in (reader_of rules) t ≡ 0 → (v : Verdict) → (v ≡ End → more_of rules at (kind t) (size t) ≡ []) → Leads (step_of at (size t) st (more_of rules at (kind t) (size t)) v)
            by z On n = (z, kept_more rules st sh at t h)
            by z End n = (z, subst (λ (l : List Sighting). Kept rules l (sh ++ (counted (reader_of rules).shape (mark_at at t) ∷ []))) (ap (λ (l : List Sighting). st ++ l) (n refl) ∙ append-nil st) (kept_more rules st sh at t h))
            by z (Stop err) n = tt
        go false e = subst Leads (sym (step_fault rules st at t (eqb-false (fault_in (reader_of rules) t) 0 e))) tt

  pub walk_kept : (st sh : List Sighting) (at k : ℕ) (s : List ℕ) (p next : ℕ) (st' : List Sighting) → Kept rules st sh → walk R st at k s ≡ ended p next st'
      → Kept rules st' (sh ++ map (counted (reader_of rules).shape) (shown R st at k s))
  unfolding walk shown
  walk_kept st sh at k [] p next st' h e = let o : ◌≡◌ {A = ℕ} 0 1 = cc in absurd (omega arith)
  walk_kept st sh at (suc k) (b ∷ s) p next st' h e = walk_kept st sh at k s p next st' h e
  walk_kept st sh at zero (b ∷ s) p next st' h e =
      go (step R st at (b ∷ s)) (step_kept st sh at (b ∷ s) h) e
      (λ st₁ g i. walk_kept st₁ (sh ++ (counted (reader_of rules).shape (mark_at at (b ∷ s)) ∷ [])) (at + (4 + size (b ∷ s))) (3 + size (b ∷ s)) s p next st' i g)
    where
      behind : List Sighting → List Mark
      behind st₁ = shown R st₁ (at + (4 + size (b ∷ s))) (3 + size (b ∷ s)) s

      met : Step → List Mark
      met y = cond (eqb (fault_in R (b ∷ s)) 0) (mark_at at (b ∷ s) ∷ elim y as (λ (x : Step). List Mark) [ stops o ↦ [] | goes st₁ ↦ behind st₁ ]) []

      go : (y : Step) → Leads st sh at (b ∷ s) h y → ◌≡◌ {A = Outcome} (elim y as (λ (x : Step). Outcome) [ stops o ↦ o | goes st₁ ↦ walk R st₁ (at + (4 + size (b ∷ s))) (3 + size (b ∷ s)) s ]) (ended p next st')
          → ((st₁ : List Sighting) → walk R st₁ (at + (4 + size (b ∷ s))) (3 + size (b ∷ s)) s ≡ ended p next st' → Kept rules st₁ (sh ++ (counted (reader_of rules).shape (mark_at at (b ∷ s)) ∷ [])) → Kept rules st' ((sh ++ (counted (reader_of rules).shape (mark_at at (b ∷ s)) ∷ [])) ++ map (counted (reader_of rules).shape) (behind st₁)))
          → Kept rules st' (sh ++ map (counted (reader_of rules).shape) (met y))
      go (stops (stopped r)) l q ih = let o : ◌≡◌ {A = ℕ} 0 1 = cc in absurd (omega arith)
      go (stops (ended p₁ n₁ st₁)) l q ih = let same : st₁ ≡ st' = cc in rw l.0 (subst (λ (x : List Sighting). Kept rules x (sh ++ (counted (reader_of rules).shape (mark_at at (b ∷ s)) ∷ []))) same l.1)
      go (goes st₁) l q ih = rw l.0 (subst (Kept rules st') (append_assoc sh (counted (reader_of rules).shape (mark_at at (b ∷ s)) ∷ []) (map (counted (reader_of rules).shape) (behind st₁))) (ih st₁ q l.1))
