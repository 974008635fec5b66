-- One record met: what the code makes of it is the walk's own step, for every table.
-- Assumes nothing.
use mathlib.Core.Path.{◌≡◌, refl, sym, ap, ◌∙◌}
use mathlib.Core.List.{List, [], ◌∷◌, ◌++◌, append-nil}
use mathlib.Core.Bool.{Bool, true, false, cond, ◌&&◌, true≢false}
use Prim.Native.Nat.{ℕ, zero, suc, ◌+◌, ◌≤◌}
use native.Mathlib.Omega.{arith}
use lib.ListN.{length}
use lib.Dec.{ltb, eqb}
use borrow.Author.Tests.{eqb-true, eqb-false, ne_eqb, lt-ltb}
use Rattle.nts.specs.Refusal.{nothing, number_of, beside_of}
use Rattle.nts.specs.declared.NtsError.{NtsError}
use Rattle.layout.specs.Profile.{asks_of, shape_in, knows, allows}
use Rattle.record.specs.Record.{kind, critical, size, there, fault_by}
use Rattle.walk.specs.Walk.{passes, notes, refuses, Sighting, stopped, ended, Step, stops, goes, has, meet, judge, step, fault_in, act_in}
use Rattle.record.proofs.Whole.{there_length}
use Rattle.walk.proofs.Noted.{sighting}
use Rattle.walk.specs.Table.{meaning}
use Rattle.walk.specs.Rules.{Rules, entry_of, tell_act, rule_act, is_noted, act_at, once_at, reader_of}
use Rattle.walk.specs.Code.{Asked, at_most, ruled_of, meant_of, verdict_of}
use Rattle.layout.specs.declared.Profile.{Profile}
use Rattle.layout.proofs.Profiles.{eleven_unknown}
use Rattle.walk.proofs.Looking.{slot_known, Asks}
use Rattle.walk.specs.declared.Verdict.{Verdict}
use Rattle.walk.specs.declared.Verdict.TheVariants.{On, End, Stop}

-- ---- the step

-- where a verdict leads: `more` is what is noted of a record that is passed
abbrev pub step_of : ℕ → ℕ → List Sighting → List Sighting → Verdict → Step
step_of at n st more On = goes (st ++ more)
step_of at n st more End = stops (ended at (at + (4 + n)) st)
step_of at n st more (Stop e) = stops (stopped (record { number = number_of e; beside = beside_of e; place = at }))

-- what a table notes of a record that is passed
unfoldable pub more_of : Rules → ℕ → ℕ → ℕ → List Sighting
more_of rules at k n = cond (knows rules.profile k && is_noted (entry_of rules k)) (sighting k at n ∷ []) []

once_step : (b : Bool) (at n : ℕ) (st more : List Sighting) → cond b (stops (stopped (record { number = 4; beside = nothing; place = at }))) (goes (st ++ more)) ≡ step_of at n st more (cond b (Stop NtsError.Invalid) On)
once_step true at n st more = refl
once_step false at n st more = refl

module _ (rules : Rules) (st : List Sighting) (at k n before : ℕ) (b : List ℕ) (told : NtsError) (kn : knows rules.profile k ≡ true)
    (tells : entry_of rules k ≡ 5 → tell_act k b ≡ refuses (number_of told) (beside_of told)) (whole : length b ≡ n)
    (same : is_noted (entry_of rules k) ≡ true → has k st ≡ ltb 0 before) where
  by_rule : (r : ℕ) → entry_of rules k ≡ r → meet (reader_of rules) st at k n (rule_act r k b) ≡ step_of at n st (more_of rules at k n) (ruled_of r before n told)
  unfolding meet rule_act ruled_of is_noted once_at more_of at_most
  by_rule zero e = refl
  by_rule (suc zero) e = rw (kn, e, append-nil st)
  by_rule (suc (suc zero)) e = rw (kn, e)
  by_rule (suc (suc (suc zero))) e = rw (kn, e, same (ap is_noted e)) (once_step (ltb 0 before) at n st (sighting k at n ∷ []))
  by_rule (suc (suc (suc (suc zero)))) e = rw (whole) (go (ltb 2 n))
    where
      long : (w : Bool) → stops (stopped (record { number = 4; beside = nothing; place = at })) ≡ step_of at n st (more_of rules at k n) (cond w (Stop NtsError.Invalid) (Stop NtsError.Invalid))
      long true = refl
      long false = refl

      fits : (w : Bool) → eqb before 0 ≡ w → cond (ltb 0 before) (stops (stopped (record { number = 4; beside = nothing; place = at }))) (goes (st ++ (sighting k at n ∷ []))) ≡ step_of at n st (sighting k at n ∷ []) (cond w On (Stop NtsError.Invalid))
      fits true z = rw (eqb-true before 0 z)
      fits false z = let h = eqb-false before 0 z in rw (lt-ltb 0 before (omega arith))

      go : (w : Bool) → meet (reader_of rules) st at k n (cond w (refuses 4 nothing) notes) ≡ step_of at n st (more_of rules at k n) (cond (eqb before 0) (cond w (Stop NtsError.Invalid) On) (Stop NtsError.Invalid))
      go true = long (eqb before 0)
      go false = rw (kn, e, same (ap is_noted e)) (fits (eqb before 0) refl)
  by_rule (suc (suc (suc (suc (suc zero))))) e = rw (tells e)
  by_rule (suc (suc (suc (suc (suc (suc r)))))) e =
      let no : (j : ℕ) → j ≤ 5 → eqb (suc (suc (suc (suc (suc (suc r)))))) j ≡ false = λ j h. ne_eqb _ j (λ q. omega arith) in
      simp (no 0 (omega arith), no 1 (omega arith), no 2 (omega arith), no 3 (omega arith), no 4 (omega arith), no 5 (omega arith))

pub not_eleven : (P : Profile) (k : ℕ) → knows P k ≡ true → eqb k 11 ≡ false
not_eleven P k h = ne_eqb k 11 (λ e. true≢false (sym h ∙ ap (knows P) e ∙ eleven_unknown P))

-- what the profile does not allow ..
verdict_barred : (r : ℕ) (x : Asked) (before n : ℕ) → x.allowed ≡ false → verdict_of r x before n ≡ Stop NtsError.NotAllowed
unfolding verdict_of
verdict_barred r x before n e = rw e

-- .. a known kind that it allows, and an unknown one
verdict_known : (r : ℕ) (x : Asked) (k before n : ℕ) → x.allowed ≡ true → x.slot ≡ k → eqb k 11 ≡ false → verdict_of r x before n ≡ ruled_of r before n x.told
unfolding verdict_of meant_of
verdict_known r x k before n a e h = rw (a, e, h)

verdict_unknown : (r : ℕ) (x : Asked) (bit : Bool) (before n : ℕ) → x.allowed ≡ true → x.slot ≡ 11 → x.critical ≡ bit → verdict_of r x before n ≡ cond bit (Stop NtsError.UnrecognizedCriticalRecord) On
unfolding verdict_of meant_of
verdict_unknown r x bit before n a e h = rw (a, e, h)

module _ (rules : Rules) (at : ℕ) (t : List ℕ) (z : fault_in (reader_of rules) t ≡ 0) (x : Asked) (l : Asks rules x t) where
  abbrev allowed : Bool
  allowed = allows (asks_of rules.profile (kind t)) (critical t) (there t)

  step_by : (st : List Sighting) → step (reader_of rules) st at t ≡ meet (reader_of rules) st at (kind t) (size t) (act_at rules (kind t) (critical t) (there t))
  unfolding step judge act_in
  step_by st = rw z

  -- the walk's step, by what the code decides
  pub step_is : (st : List Sighting) (before : ℕ) → (knows rules.profile (kind t) ≡ true → is_noted (entry_of rules (kind t)) ≡ true → has (kind t) st ≡ ltb 0 before)
      → step (reader_of rules) st at t ≡ step_of at (size t) st (more_of rules at (kind t) (size t)) (verdict_of (entry_of rules x.slot) x before (size t))
  unfolding act_at more_of meet
  step_is st before same = step_by st ∙ by_allowed allowed refl
    where
      unknown_step : (b : Bool) → meet (reader_of rules) st at (kind t) (size t) (cond b (refuses 3 nothing) passes) ≡ step_of at (size t) st [] (cond b (Stop NtsError.UnrecognizedCriticalRecord) On)
      unknown_step true = refl
      unknown_step false = rw (append-nil st)

      go : x.allowed ≡ true → (kn : Bool) → knows rules.profile (kind t) ≡ kn
          → meet (reader_of rules) st at (kind t) (size t) (meaning kn (critical t) (rule_act (entry_of rules (kind t)) (kind t) (there t)))
          ≡ step_of at (size t) st (more_of rules at (kind t) (size t)) (verdict_of (entry_of rules x.slot) x before (size t))
      go a true h =
          let i : x.slot ≡ kind t = l.slot ∙ slot_known rules (kind t) true h in
          by_rule rules st at (kind t) (size t) before (there t) x.told h (λ r. l.tells h) (there_length (shape_in rules.profile) t z) (same h) (entry_of rules (kind t)) refl
          ∙ ap (step_of at (size t) st (more_of rules at (kind t) (size t)))
          (sym (verdict_known (entry_of rules x.slot) x (kind t) before (size t) a i (not_eleven rules.profile (kind t) h) ∙ ap (λ (j : ℕ). ruled_of (entry_of rules j) before (size t) x.told) i))
      go a false h =
          rw (h) (unknown_step (critical t))
          ∙ ap (step_of at (size t) st (more_of rules at (kind t) (size t)))
          (sym (verdict_unknown (entry_of rules x.slot) x (critical t) before (size t) a (l.slot ∙ slot_known rules (kind t) false h) l.bit))

      by_allowed : (w : Bool) → allowed ≡ w
          → meet (reader_of rules) st at (kind t) (size t) (cond w (meaning (knows rules.profile (kind t)) (critical t) (rule_act (entry_of rules (kind t)) (kind t) (there t))) (refuses 18 nothing))
          ≡ step_of at (size t) st (more_of rules at (kind t) (size t)) (verdict_of (entry_of rules x.slot) x before (size t))
      by_allowed true w = go (l.allows ∙ w) (knows rules.profile (kind t)) refl
      by_allowed false w = sym (ap (step_of at (size t) st (more_of rules at (kind t) (size t))) (verdict_barred (entry_of rules x.slot) x before (size t) (l.allows ∙ w)))

-- a record that does not read stops it
pub step_fault : (rules : Rules) (st : List Sighting) (at : ℕ) (t : List ℕ) → (fault_in (reader_of rules) t ≡ 0 → ⊥) → step (reader_of rules) st at t ≡ stops (stopped (record { number = fault_in (reader_of rules) t; beside = nothing; place = at }))
unfolding step judge fault_by
step_fault rules st at t n = go (fault_in (reader_of rules) t) refl
  where
    go : (f : ℕ) → fault_in (reader_of rules) t ≡ f → judge (reader_of rules) st at t f ≡ stops (stopped (record { number = f; beside = nothing; place = at }))
    go zero e = absurd (n e)
    go (suc f) e = refl

-- a record that ends the walk is of a kind that is not noted
at_most_on : (n limit : ℕ) → (at_most n limit ≡ End → ⊥)
unfolding at_most
at_most_on n limit = go (ltb limit n)
  where
    go : (b : Bool) → cond b (Stop NtsError.Invalid) On ≡ End → ⊥
    go true q = let z : ◌≡◌ {A = ℕ} 0 1 = cc in omega arith
    go false q = let z : ◌≡◌ {A = ℕ} 0 1 = cc in omega arith

ruled_end : (r before n : ℕ) (told : NtsError) → ruled_of r before n told ≡ End → is_noted r ≡ false
unfolding ruled_of is_noted
ruled_end zero before n told q = refl
ruled_end (suc zero) before n told q = refl
ruled_end (suc (suc zero)) before n told q = let z : ◌≡◌ {A = ℕ} 0 1 = cc in absurd (omega arith)
ruled_end (suc (suc (suc zero))) before n told q = absurd (at_most_on before 0 q)
ruled_end (suc (suc (suc (suc zero)))) before n told q = absurd (go (eqb before 0) q)
  where
    go : (b : Bool) → cond b (at_most n 2) (Stop NtsError.Invalid) ≡ End → ⊥
    go true p = at_most_on n 2 p
    go false p = let z : ◌≡◌ {A = ℕ} 0 1 = cc in omega arith
ruled_end (suc (suc (suc (suc (suc r))))) before n told q =
    let other : (j : ℕ) → j ≤ 4 → eqb (suc (suc (suc (suc (suc r))))) j ≡ false = λ j h. ne_eqb _ j (λ p. omega arith) in
    simp (other 2 (omega arith), other 3 (omega arith), other 4 (omega arith))

pub end_unnoted : (rules : Rules) (at before : ℕ) (t : List ℕ) (x : Asked) → Asks rules x t → verdict_of (entry_of rules x.slot) x before (size t) ≡ End → more_of rules at (kind t) (size t) ≡ []
unfolding more_of
end_unnoted rules at before t x l q = go x.allowed refl (knows rules.profile (kind t)) refl
  where
    go : (a : Bool) → x.allowed ≡ a → (kn : Bool) → knows rules.profile (kind t) ≡ kn → cond (kn && is_noted (entry_of rules (kind t))) (sighting (kind t) at (size t) ∷ []) [] ≡ []
    go true a true h =
        let i : x.slot ≡ kind t = l.slot ∙ slot_known rules (kind t) true h in
        let v = verdict_known (entry_of rules x.slot) x (kind t) before (size t) a i (not_eleven rules.profile (kind t) h) ∙ ap (λ (j : ℕ). ruled_of (entry_of rules j) before (size t) x.told) i in
        rw (ruled_end (entry_of rules (kind t)) before (size t) x.told (sym v ∙ q))
    go false a true h =
        let e : Stop NtsError.NotAllowed ≡ End = sym (verdict_barred (entry_of rules x.slot) x before (size t) a) ∙ q in
        let o : ◌≡◌ {A = ℕ} 0 1 = cc in absurd (omega arith)
    go a b false h = refl
