-- A walk asks of the records before the one that it is at only which of the kinds that its table notes were met: so the kinds met, kept as one
-- number, are enough to go on from.
-- Assumes nothing.
use mathlib.Core.Path.{◌≡◌, refl, sym, ap, ◌∙◌, subst}
use mathlib.Core.List.{List, [], ◌∷◌, ◌++◌}
use mathlib.Core.Bool.{Bool, true, false, cond, ◌||◌, or-false, or_comm, or_assoc}
use Prim.Native.Nat.{ℕ, ◌+◌}
use lib.ListN.{drop}
use native.Mathlib.Omega.{arith}
use lib.Dec.{ltb, eqb}
use borrow.Author.Tests.{lt-ltb, eqb-true, eqb-false}
use Rattle.nts.specs.Refusal.{told_refusal}
use Rattle.nts.specs.declared.Refusal.{Refusal}
use Rattle.layout.specs.Profile.{shape_in, knows}
use Rattle.record.specs.Record.{kind, critical, size, whole, look_at}
use Rattle.record.specs.Told.{told_looked}
use Rattle.record.specs.declared.Looked.{Looked}
use Rattle.record.specs.declared.Looked.TheVariants as looked
use Rattle.record.proofs.Inverse.{whole_was, broken_was}
use Rattle.record.proofs.Read.{look_inside}
use Rattle.walk.proofs.Faultless.{faultless_whole}
use Rattle.walk.specs.Walk.{Reader, Sighting, Outcome, Step, stops, goes, has, fault_in, step}
use Rattle.walk.specs.Judge.{some}
use Rattle.walk.specs.Rules.{Rules, entry_of, is_noted, reader_of}
use Rattle.walk.specs.Shown.{mark_at, slot_of, counted}
use Rattle.walk.specs.Code.{slot_in, Asked, asked, verdict_of}
use Rattle.walk.specs.Met.{is_met, with_met, met_below, Passing, halts, on, passing, is_ended, ends}
use Rattle.walk.specs.declared.Verdict.{Verdict}
use Rattle.walk.specs.declared.Verdict.TheVariants.{On, End, Stop}
use Rattle.layout.proofs.Profiles.{knows_below}
use Rattle.walk.proofs.Noted.{has_some}
use Rattle.walk.proofs.Looking.{slot_known, Asks, asks}
use Rattle.walk.proofs.Meeting.{step_of, more_of, step_is, step_fault}
use Rattle.walk.proofs.Standing.{Kept, kept_start, kept_more}
use Rattle.walk.proofs.Bits.{met_with, none_met, has_below}

-- ---- what the mask says of what was noted

-- of each kind that the table notes, a record was noted just where its bit is set
unfoldable pub Marks : Rules → ℕ → List Sighting → Type 0
Marks rules met st = (k : ℕ) → knows rules.profile k ≡ true → is_noted (entry_of rules k) ≡ true → has k st ≡ is_met met k

pub marks_start : (rules : Rules) → Marks rules 0 []
unfolding Marks has
marks_start rules k kn nt = sym (none_met k)

marks_below : (rules : Rules) (met : ℕ) → Marks rules met (met_below met 15)
unfolding Marks
marks_below rules met k kn nt = has_below met k 15 ∙ rw (lt-ltb k 15 (knows_below rules.profile k kn))

has_append : (k : ℕ) (a b : List Sighting) → has k (a ++ b) ≡ (has k a || has k b)
unfolding has
has_append k [] b = refl
has_append k (x ∷ a) b = ap (λ (t : Bool). eqb x.of k || t) (has_append k a b) ∙ sym (or_assoc (eqb x.of k) (has k a) (has k b))

-- one record more
marks_more : (rules : Rules) (met at : ℕ) (t : List ℕ) (st : List Sighting) → Marks rules met st
    → Marks rules (with_met met (slot_in rules (kind t))) (st ++ more_of rules at (kind t) (size t))
unfolding Marks has Kept
marks_more rules met at t st m k kn nt =
    let more : has k (more_of rules at (kind t) (size t)) ≡ eqb (slot_in rules (kind t)) k =
    has_some k (more_of rules at (kind t) (size t)) ∙ ap some (kept_more rules [] [] at t (kept_start rules) k kn nt) ∙ sym (has_some k (counted (reader_of rules).shape (mark_at at t) ∷ [])) ∙ or-false _ in
    has_append k st (more_of rules at (kind t) (size t))
    ∙ ap (λ (b : Bool). has k st || b) more
    ∙ ap (λ (b : Bool). b || eqb (slot_in rules (kind t)) k) (m k kn nt)
    ∙ or_comm (is_met met k) (eqb (slot_in rules (kind t)) k)
    ∙ sym (met_with met (slot_in rules (kind t)) k)

-- ---- where a step leads, by the kinds met

abbrev on_by : ℕ → Step → Passing
on_by met (stops o) = halts
on_by met (goes st) = on met

passing_by : (R : Reader) (met : ℕ) (t : List ℕ) → passing R met t ≡ on_by (with_met met (slot_of R.shape (kind t))) (step R (met_below met 15) 0 t)
unfolding passing
passing_by R met t = go (step R (met_below met 15) 0 t)
  where
    go : (x : Step) → ◌≡◌ {A = Passing} (elim x as (λ (y : Step). Passing) [ stops o ↦ halts | goes st ↦ on (with_met met (slot_of R.shape (kind t))) ]) (on_by (with_met met (slot_of R.shape (kind t))) x)
    go (stops o) = refl
    go (goes st) = refl

-- ---- a record that reads

-- where a verdict leads
abbrev pub passed_by : ℕ → ℕ → Verdict → Passing
passed_by met j On = on (with_met met j)
passed_by met j End = halts
passed_by met j (Stop e) = halts

-- whether it ends the message
abbrev pub ended_by : Verdict → Bool
ended_by On = false
ended_by End = true
ended_by (Stop e) = false

pub bit_count : (b : Bool) → b ≡ ltb 0 (cond b 1 0)
bit_count true = refl
bit_count false = refl

module _ (rules : Rules) (met : ℕ) (t : List ℕ) (z : fault_in (reader_of rules) t ≡ 0) (x : Asked) (l : Asks rules x t) where
  abbrev verdict : Verdict
  verdict = verdict_of (entry_of rules x.slot) x (cond (is_met met x.slot) 1 0) (size t)

  step_marks : (st : List Sighting) (at : ℕ) → Marks rules met st → step (reader_of rules) st at t ≡ step_of at (size t) st (more_of rules at (kind t) (size t)) verdict
  unfolding Marks
  step_marks st at m =
      step_is rules at t z x l st (cond (is_met met x.slot) 1 0)
      (λ kn nt. m (kind t) kn nt ∙ bit_count (is_met met (kind t)) ∙ ap (λ (j : ℕ). ltb 0 (cond (is_met met j) 1 0)) (sym (l.slot ∙ slot_known rules (kind t) true kn)))

  passing_read : passed_by met x.slot verdict ≡ passing (reader_of rules) met t
  passing_read =
      ap (λ (j : ℕ). passed_by met j verdict) l.slot
      ∙ go verdict
      ∙ ap (on_by (with_met met (slot_in rules (kind t)))) (sym (step_marks (met_below met 15) 0 (marks_below rules met)))
      ∙ sym (passing_by (reader_of rules) met t)
    where
      go : (v : Verdict) → passed_by met (slot_in rules (kind t)) v ≡ on_by (with_met met (slot_in rules (kind t))) (step_of 0 (size t) (met_below met 15) (more_of rules 0 (kind t) (size t)) v)
      go On = refl
      go End = refl
      go (Stop e) = refl

-- ---- one that does not

passing_fault : (rules : Rules) (met : ℕ) (t : List ℕ) → (fault_in (reader_of rules) t ≡ 0 → ⊥) → halts ≡ passing (reader_of rules) met t
passing_fault rules met t n = sym (passing_by (reader_of rules) met t ∙ ap (on_by (with_met met (slot_in rules (kind t)))) (step_fault rules (met_below met 15) 0 t n))

-- ---- by a look

module _ (rules : Rules) (s : List ℕ) (at met : ℕ) where
  pub passing_broken : (x : Looked) (r : Refusal) → told_looked x ≡ look_at (shape_in rules.profile) s at → x ≡ looked.Refused r → halts ≡ passing (reader_of rules) met (drop at s)
  unfolding look_at
  passing_broken x r l e = passing_fault rules met (drop at s) (broken_was (shape_in rules.profile) at (drop at s) (told_refusal r) (ap told_looked (sym e) ∙ l)).0

  -- of a kind that stands at j; b says whether one was met before
  pub passing_whole : (k n j b : ℕ) (bit : Bool) (v : Verdict) → whole k bit n ≡ look_at (shape_in rules.profile) s at → j ≡ slot_in rules k → b ≡ cond (is_met met j) 1 0
      → v ≡ verdict_of (entry_of rules j) (asked rules.profile s j bit (at + 4) n) b n → passed_by met j v ≡ passing (reader_of rules) met (drop at s)
  unfolding look_at
  passing_whole k n j b bit v e i q h =
      let w = whole_was (shape_in rules.profile) at (drop at s) k bit n e in
      let l = asks rules s at k j n bit w (look_inside (shape_in rules.profile) s at k bit n e) i in
      rw (h, q) (ap (λ (m : ℕ). passed_by met j (verdict_of (entry_of rules j) (asked rules.profile s j bit (at + 4) n) (cond (is_met met j) 1 0) m)) w.sized ∙ passing_read rules met (drop at s) w.faultless (asked rules.profile s j bit (at + 4) n) l)

  -- whether it ends the message
  pub ends_broken : (x : Looked) (r : Refusal) → told_looked x ≡ look_at (shape_in rules.profile) s at → x ≡ looked.Refused r → false ≡ ends (reader_of rules) (drop at s)
  unfolding look_at ends
  ends_broken x r l e = sym (ap is_ended (step_fault rules [] 0 (drop at s) (broken_was (shape_in rules.profile) at (drop at s) (told_refusal r) (ap told_looked (sym e) ∙ l)).0))

  pub ends_whole : (k n j : ℕ) (bit : Bool) (v : Verdict) → whole k bit n ≡ look_at (shape_in rules.profile) s at → j ≡ slot_in rules k
      → v ≡ verdict_of (entry_of rules j) (asked rules.profile s j bit (at + 4) n) 0 n → ended_by v ≡ ends (reader_of rules) (drop at s)
  unfolding look_at ends has
  ends_whole k n j bit v e i h =
      let w = whole_was (shape_in rules.profile) at (drop at s) k bit n e in
      let x = asked rules.profile s j bit (at + 4) n in
      let l = asks rules s at k j n bit w (look_inside (shape_in rules.profile) s at k bit n e) i in
      go v ∙ ap is_ended (ap (step_of 0 (size (drop at s)) [] (more_of rules 0 (kind (drop at s)) (size (drop at s)))) (h ∙ ap (λ (m : ℕ). verdict_of (entry_of rules j) x 0 m) w.sized) ∙ sym (step_is rules 0 (drop at s) w.faultless x l [] 0 (λ kn nt. refl)))
    where
      go : (v : Verdict) → ended_by v ≡ is_ended (step_of 0 (size (drop at s)) [] (more_of rules 0 (kind (drop at s)) (size (drop at s))) v)
      go On = refl
      go End = refl
      go (Stop err) = refl

-- ---- the mask is enough: what the walk does by all that was noted, it does by the kinds met

-- what a step says of going on by the mask
abbrev Agrees : Rules → ℕ → List ℕ → Step → Type 0
Agrees rules met s (stops o) = passing (reader_of rules) met s ≡ halts
Agrees rules met s (goes st) = (passing (reader_of rules) met s ≡ on (with_met met (slot_in rules (kind s)))) × Marks rules (with_met met (slot_in rules (kind s))) st

module _ (rules : Rules) (met : ℕ) (st : List Sighting) (m : Marks rules met st) (at : ℕ) (s : List ℕ) where
  agrees : Agrees rules met s (step (reader_of rules) st at s)
  agrees = go (eqb (fault_in (reader_of rules) s) 0) refl
    where
      go : (b : Bool) → eqb (fault_in (reader_of rules) s) 0 ≡ b → Agrees rules met s (step (reader_of rules) st at s)
      go true e =
          let z = eqb-true (fault_in (reader_of rules) s) 0 e in
          let x = asked rules.profile s (slot_in rules (kind s)) (critical s) 4 (size s) in
          let l = asks rules s 0 (kind s) (slot_in rules (kind s)) (size s) (critical s) (record { faultless = z; is = refl; marked = refl; sized = refl }) (omega (arith, faultless_whole (reader_of rules) s z)) refl in
          subst (Agrees rules met s) (sym (step_marks rules met s z x l st at m)) (by (verdict rules met s z x l) (passing_read rules met s z x l))
        where
          by : (v : Verdict) → passed_by met (slot_in rules (kind s)) v ≡ passing (reader_of rules) met s → Agrees rules met s (step_of at (size s) st (more_of rules at (kind s) (size s)) v)
          by On p = (sym p, marks_more rules met at s st m)
          by End p = sym p
          by (Stop err) p = sym p
      go false e =
          let n = eqb-false (fault_in (reader_of rules) s) 0 e in
          subst (Agrees rules met s) (sym (step_fault rules st at s n)) (sym (passing_fault rules met s n))

  pub passing_stops : (o : Outcome) → step (reader_of rules) st at s ≡ stops o → passing (reader_of rules) met s ≡ halts
  passing_stops o e = subst (Agrees rules met s) e agrees

  pub passing_goes : (st' : List Sighting) → step (reader_of rules) st at s ≡ goes st'
      → (passing (reader_of rules) met s ≡ on (with_met met (slot_in rules (kind s)))) × Marks rules (with_met met (slot_in rules (kind s))) st'
  passing_goes st' e = subst (Agrees rules met s) e agrees
