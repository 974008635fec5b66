-- A table is a reader where it is so at each kind below 15, and none beyond is noted once: those are unknown.
-- Assumes nothing.
use mathlib.Core.Path.{◌≡◌, refl, sym, ap}
use mathlib.Core.List.{List, [], ◌∷◌}
use mathlib.Core.Bool.{Bool, true, false, cond, ◌||◌}
use mathlib.Core.Logic.{⊎_elim}
use Prim.Native.Nat.{ℕ, zero, suc, ◌<◌, ◌≤◌}
use native.Mathlib.Nat.{not-suc-le-zero, le_of_suc-le-suc, eq-or-lt_of_le}
use lib.Dec.{ltb}
use native.Mathlib.Omega.{arith}
use borrow.Author.Tests.{ltb-true, ltb-false}
use lib.Dec.{eqb}
use lib.ListN.{length, get_or}
use Rattle.layout.specs.Profile.{asks_of, is_final, shape_in, knows, allows}
use Rattle.layout.specs.declared.Profile.{Profile}
use Rattle.layout.proofs.Profiles.{knows_below}
use Rattle.walk.specs.Walk.{Act, ends, refuses}
use Rattle.walk.specs.Table.{meaning, act_by, table_reader}
use Rattle.walk.specs.Rules.{Rules, rule_act, act_at, once_at, reader_of}
use Rattle.nts.specs.Refusal.{nothing}
use Rattle.walk.proofs.Meeting.{not_eleven}

-- what holds of each kind below n
unfoldable pub Every : ℕ → (ℕ → Type 0) → Type 0
Every zero P = Unit {0}
Every (suc n) P = P n × Every n P

each : (n : ℕ) (P : ℕ → Type 0) → Every n P → (k : ℕ) → k < n → P k
unfolding Every
each zero P a k h = absurd (not-suc-le-zero h)
each (suc n) P a k h = ⊎_elim (λ e. rw e a.0) (λ l. each n P a.1 k l) (eq-or-lt_of_le (le_of_suc-le-suc h))

-- past its end a list has none
past_end : (l : List ℕ) (k : ℕ) → length l ≤ k → get_or l k 0 ≡ 0
past_end [] k h = refl
past_end (x ∷ l) zero h = absurd (omega arith)
past_end (x ∷ l) (suc k) h = past_end l k (omega arith)

-- in every profile
module _ (entries : List ℕ) (act : ℕ → List ℕ → Act) (once : ℕ → Bool) (all : length entries ≡ 15)
    (acts : Every 15 (λ k. eqb k 11 ≡ false → (b : List ℕ) → rule_act (get_or entries k 0) k b ≡ cond (eqb k 0) ends (act k b)))
    (onces : Every 15 (λ k. (eqb (get_or entries k 0) 3 || eqb (get_or entries k 0) 4) ≡ once k))
    (none : (k : ℕ) → 15 ≤ k → once k ≡ false) (P : Profile) where
  abbrev rules : Rules
  rules = record { profile = P; entries = entries }

  act_same : (k : ℕ) (bit : Bool) (b : List ℕ) → act_at rules k bit b ≡ act_by P act k bit b
  unfolding act_at act_by
  act_same k bit b = ap (λ (a : Act). cond (allows (asks_of P k) bit b) a (refuses 18 nothing)) (go (knows P k) refl)
    where
      go : (t : Bool) → knows P k ≡ t → meaning t bit (rule_act (get_or entries k 0) k b) ≡ meaning t bit (cond (eqb k 0) ends (act k b))
      go true h = each 15 _ acts k (knows_below P k h) (not_eleven P k h) b
      go false h = refl

  once_same : (k : ℕ) → once_at rules k ≡ once k
  unfolding once_at
  once_same k = go (ltb k 15) refl
    where
      go : (t : Bool) → ltb k 15 ≡ t → once_at rules k ≡ once k
      go true h = each 15 _ onces k (ltb-true k 15 h)
      go false h = let l = ltb-false k 15 h in rw (past_end entries k (omega arith)) (sym (none k l))

  pub table_is : reader_of rules ≡ table_reader act once P
  table_is = λ i. record { shape = shape_in P; act = λ k bit b. act_same k bit b i; once = λ k. once_same k i; final = is_final P }
