-- The whole-message walk stops where `going` comes to: the kinds met tell of each record what all that was noted tells, a record that is not whole has a fault, and bytes
-- behind the record that decides are not looked at.
-- Assumes nothing.
use mathlib.Core.Path.{◌≡◌, refl, sym, ap, ◌∙◌, subst}
use mathlib.Core.List.{List, [], ◌++◌}
use mathlib.Core.Bool.{Bool, true, false, cond, ◌&&◌, true≢false}
use Prim.Native.Nat.{ℕ, zero, suc, ◌+◌, ◌-◌, ◌≤◌}
use native.Mathlib.Omega.{arith}
use lib.ListN.{drop}
use lib.Seq.{drop-drop, drop-append-le}
use Rattle.nts.specs.Refusal.{Refused}
use Rattle.record.specs.Record.{kind, size}
use Rattle.walk.specs.Walk as acts
use Rattle.walk.specs.Walk.{Act, Reader, fault_in, act_in, Sighting, Outcome, stopped, ended, Step, stops, goes, has, meet, judge, step, walk}
use Rattle.walk.specs.Rules.{Rules, reader_of}
use Rattle.walk.specs.Shown.{slot_of}
use Rattle.walk.specs.Met.{with_met, halts, on, passing, is_ended, ends}
use Rattle.walk.specs.Found.{place_of}
use Rattle.walk.proofs.Unroll.{unroll}
use Rattle.walk.proofs.Faultless.{faultless_whole}
use Rattle.walk.proofs.Passing.{reached}
use Rattle.walk.proofs.Noted.{step_went}
use Rattle.walk.proofs.Meets.{step_place}
use Rattle.walk.proofs.Marks.{Marks, marks_start, passing_stops, passing_goes}
use Rattle.pieces.specs.Pieces.{Going, waits, decides, whole, going}
use Rattle.pieces.proofs.Going.{whole_long, long_whole, size_more, step_more, by_records}

-- ---- what the walk says of it

-- the walk over s, which begins at `at`, stops with the whole record at a place, which reaches so far
pub record Halts (R : Reader) (st : List Sighting) (at : ℕ) (s : List ℕ) (a through : ℕ) : Type 0 where
  pub place : place_of (walk R st at 0 s) ≡ a
  pub behind : at ≤ a
  pub stands : whole (drop (a - at) s) ≡ true
  pub reaches : through ≡ a + (4 + size (drop (a - at) s))
  pub same : (t : List ℕ) → walk R st at 0 (s ++ t) ≡ walk R st at 0 s
  -- it ends the message just where its record does
  pub ending : reached (walk R st at 0 s) ≡ ends R (drop (a - at) s)
  pub next : (p n : ℕ) (st' : List Sighting) → walk R st at 0 s ≡ ended p n st' → n ≡ through

abbrev pub Stops : Reader → List Sighting → ℕ → List ℕ → Going → Type 0
Stops R st at s (waits a m) = place_of (walk R st at 0 s) ≡ a
Stops R st at s (decides a m through) = Halts R st at s a through

-- ---- one record

-- whether a record ends the message does not hang on those before it
ends_by : (R : Reader) (st : List Sighting) (at : ℕ) (s : List ℕ) → is_ended (step R st at s) ≡ ends R s
unfolding ends step judge meet
ends_by R st at s = by_fault (fault_in R s)
  where
    noted : (b c : Bool) (o p : Refused) (l m : List Sighting) → is_ended (cond b (stops (stopped o)) (goes l)) ≡ is_ended (cond c (stops (stopped p)) (goes m))
    noted true true o p l m = refl
    noted true false o p l m = refl
    noted false true o p l m = refl
    noted false false o p l m = refl

    by_act : (a : Act) → is_ended (meet R st at (kind s) (size s) a) ≡ is_ended (meet R [] 0 (kind s) (size s) a)
    by_act acts.ends = refl
    by_act acts.passes = refl
    by_act acts.notes = noted (R.once (kind s) && has (kind s) st) (R.once (kind s) && has (kind s) []) _ _ _ _
    by_act (acts.refuses n b) = refl

    by_fault : (f : ℕ) → is_ended (judge R st at s f) ≡ is_ended (judge R [] 0 s f)
    by_fault zero = by_act (act_in R s)
    by_fault (suc f) = refl

-- .. nor on what follows it
pub ends_more : (R : Reader) (s t : List ℕ) → whole s ≡ true → ends R (s ++ t) ≡ ends R s
unfolding ends
ends_more R s t w = ap is_ended (step_more R s t w [] 0)

-- a step that ends the message has a record without fault
ended_faultless : (R : Reader) (st : List Sighting) (at : ℕ) (s : List ℕ) (p n : ℕ) (st' : List Sighting) → step R st at s ≡ stops (ended p n st') → fault_in R s ≡ 0
unfolding step judge
ended_faultless R st at s p n st' e = go (fault_in R s) refl e
  where
    go : (f : ℕ) → fault_in R s ≡ f → judge R st at s f ≡ stops (ended p n st') → fault_in R s ≡ 0
    go zero z q = z
    go (suc f) z q = let o : ◌≡◌ {A = ℕ} 0 1 = cc in absurd (omega arith)

-- and a record that is not whole does not
pub partial_ends : (R : Reader) (s : List ℕ) → whole s ≡ false → ends R s ≡ false
unfolding ends
partial_ends R s w = go (step R [] 0 s) refl
  where
    go : (x : Step) → step R [] 0 s ≡ x → is_ended x ≡ false
    go (stops (stopped r)) e = refl
    go (stops (ended p n st)) e =
        let h : true ≡ false = sym (long_whole s (faultless_whole R s (ended_faultless R [] 0 s p n st e))) ∙ w in
        absurd (true≢false h)
    go (goes st) e = refl

-- a step that ends the message ends it with its record
ended_next : (R : Reader) (st : List Sighting) (at : ℕ) (s : List ℕ) (p n : ℕ) (st' : List Sighting) → step R st at s ≡ stops (ended p n st') → n ≡ at + (4 + size s)
unfolding step judge meet
ended_next R st at s p n st' e = by_fault (fault_in R s) e
  where
    noted : (b : Bool) (o : Refused) (l : List Sighting) → cond b (stops (stopped o)) (goes l) ≡ stops (ended p n st') → n ≡ at + (4 + size s)
    noted true o l q = let z : ◌≡◌ {A = ℕ} 0 1 = cc in absurd (omega arith)
    noted false o l q = let z : ◌≡◌ {A = ℕ} 0 1 = cc in absurd (omega arith)

    by_act : (a : Act) → meet R st at (kind s) (size s) a ≡ stops (ended p n st') → n ≡ at + (4 + size s)
    by_act acts.ends q = cc
    by_act acts.passes q = let z : ◌≡◌ {A = ℕ} 0 1 = cc in absurd (omega arith)
    by_act acts.notes q = noted (R.once (kind s) && has (kind s) st) _ _ q
    by_act (acts.refuses k b) q = let z : ◌≡◌ {A = ℕ} 0 1 = cc in absurd (omega arith)

    by_fault : (f : ℕ) → judge R st at s f ≡ stops (ended p n st') → n ≡ at + (4 + size s)
    by_fault zero q = by_act (act_in R s) q
    by_fault (suc f) q = let z : ◌≡◌ {A = ℕ} 0 1 = cc in absurd (omega arith)

walk_stops : (R : Reader) (st : List Sighting) (at : ℕ) (s : List ℕ) (o : Outcome) → step R st at s ≡ stops o → walk R st at 0 s ≡ o
walk_stops R st at s o e = unroll R st at s ∙ rw e

walk_place : (R : Reader) (st : List Sighting) (at : ℕ) (s : List ℕ) → ((st' : List Sighting) → step R st at s ≡ goes st' → ⊥) → place_of (walk R st at 0 s) ≡ at
walk_place R st at s n = go (step R st at s) refl
  where
    go : (x : Step) → step R st at s ≡ x → place_of (walk R st at 0 s) ≡ at
    go (stops o) e = ap place_of (walk_stops R st at s o e) ∙ step_place R st at s o e
    go (goes st') e = absurd (n st' e)

walk_halts : (R : Reader) (st : List Sighting) (at : ℕ) (s t : List ℕ) → whole s ≡ true → ((st' : List Sighting) → step R st at s ≡ goes st' → ⊥)
    → walk R st at 0 (s ++ t) ≡ walk R st at 0 s
walk_halts R st at s t w n = go (step R st at s) refl
  where
    go : (x : Step) → step R st at s ≡ x → walk R st at 0 (s ++ t) ≡ walk R st at 0 s
    go (stops o) e = walk_stops R st at (s ++ t) o (step_more R s t w st at ∙ e) ∙ sym (walk_stops R st at s o e)
    go (goes st') e = absurd (n st' e)

walk_on : (R : Reader) (st st' : List Sighting) (at : ℕ) (s : List ℕ) → step R st at s ≡ goes st' → walk R st at 0 s ≡ walk R st' (at + (4 + size s)) 0 (drop (4 + size s) s)
walk_on R st st' at s e = unroll R st at s ∙ rw e

not_whole : (R : Reader) (st st' : List Sighting) (at : ℕ) (s : List ℕ) → whole s ≡ false → step R st at s ≡ goes st' → ⊥
not_whole R st st' at s w e =
    let h : true ≡ false = sym (long_whole s (faultless_whole R s (step_went R st st' at s e).faultless)) ∙ w in
    let z : ◌≡◌ {A = ℕ} 0 1 = cc in
    omega arith

-- where the walk stops behind a whole record that it passes, it stops
stops_behind : (R : Reader) (st st' : List Sighting) (at : ℕ) (s : List ℕ) (g : Going) → whole s ≡ true → step R st at s ≡ goes st'
    → Stops R st' (at + (4 + size s)) (drop (4 + size s) s) g → Stops R st at s g
stops_behind R st st' at s g w e = go g
  where
    k : ℕ
    k = 4 + size s

    next : walk R st at 0 s ≡ walk R st' (at + k) 0 (drop k s)
    next = walk_on R st st' at s e

    more : (t : List ℕ) → walk R st at 0 (s ++ t) ≡ walk R st' (at + k) 0 (drop k s ++ t)
    more t =
        walk_on R st st' at (s ++ t) (step_more R s t w st at ∙ e)
        ∙ ap (λ (n : ℕ). walk R st' (at + (4 + n)) 0 (drop (4 + n) (s ++ t))) (size_more s t w)
        ∙ ap (walk R st' (at + k) 0) (drop-append-le k s t (whole_long s w))

    go : (x : Going) → Stops R st' (at + k) (drop k s) x → Stops R st at s x
    go (waits a m) i = ap place_of next ∙ i
    go (decides a m through) i =
        let q : k + (a - (at + k)) ≡ a - at = omega (arith, i.behind) in
        let d : drop (a - (at + k)) (drop k s) ≡ drop (a - at) s = drop-drop (a - (at + k)) k s ∙ ap (λ (n : ℕ). drop n s) q in
        record {
          place = ap place_of next ∙ i.place;
          behind = omega (arith, i.behind);
          stands = ap whole (sym d) ∙ i.stands;
          reaches = i.reaches ∙ ap (λ (l : List ℕ). a + (4 + size l)) d;
          same = λ t. more t ∙ i.same t ∙ sym next;
          ending = ap reached next ∙ i.ending ∙ ap (ends R) d;
          next = λ p n st₁ z. i.next p n st₁ (sym next ∙ z);
        }

-- ---- by a table

module _ (rules : Rules) where
  abbrev R : Reader
  R = reader_of rules

  abbrev Told : ℕ → ℕ → List ℕ → Going → Type 0
  Told met at s g = (st : List Sighting) → Marks rules met st → Stops R st at s g

  halts_not : (met at : ℕ) (s : List ℕ) (st st' : List Sighting) → passing R met s ≡ halts → Marks rules met st → step R st at s ≡ goes st' → ⊥
  halts_not met at s st st' p k e = let h = (passing_goes rules met st k at s st' e).0 in let z : ◌≡◌ {A = ℕ} 0 1 = cc in omega arith

  on_not : (met at m : ℕ) (s : List ℕ) (st : List Sighting) (o : Outcome) → passing R met s ≡ on m → Marks rules met st → step R st at s ≡ stops o → ⊥
  on_not met at m s st o p k e = let h = passing_stops rules met st k at s o e in let z : ◌≡◌ {A = ℕ} 0 1 = cc in omega arith

  told_halting : (met at : ℕ) (s : List ℕ) → whole s ≡ true → passing R met s ≡ halts → Told met at s (decides at met (at + (4 + size s)))
  told_halting met at s w p st k =
      let e : at - at ≡ 0 = omega arith in
      record {
        place = walk_place R st at s (λ st' q. halts_not met at s st st' p k q);
        behind = omega arith;
        stands = rw e w;
        reaches = rw e;
        same = λ t. walk_halts R st at s t w (λ st' q. halts_not met at s st st' p k q);
        ending = rw e (go (step R st at s) refl ∙ ends_by R st at s);
        next = λ a n st' z. by (step R st at s) refl a n st' z;
      }
    where
      go : (x : Step) → step R st at s ≡ x → reached (walk R st at 0 s) ≡ is_ended x
      go (stops (stopped r)) q = ap reached (walk_stops R st at s (stopped r) q)
      go (stops (ended a n st')) q = ap reached (walk_stops R st at s (ended a n st') q)
      go (goes st') q = absurd (halts_not met at s st st' p k q)

      by : (x : Step) → step R st at s ≡ x → (a n : ℕ) (st' : List Sighting) → walk R st at 0 s ≡ ended a n st' → n ≡ at + (4 + size s)
      by (stops o) q a n st' z = ended_next R st at s a n st' (q ∙ ap stops (sym (walk_stops R st at s o q) ∙ z))
      by (goes st₁) q a n st' z = absurd (halts_not met at s st st₁ p k q)

  told_onward : (met at m : ℕ) (s : List ℕ) (g : Going) → whole s ≡ true → passing R met s ≡ on m → Told m (at + (4 + size s)) (drop (4 + size s) s) g → Told met at s g
  told_onward met at m s g w p i st k = go (step R st at s) refl
    where
      on_is : (a b : ℕ) → on a ≡ on b → a ≡ b
      on_is a b q = cc

      go : (x : Step) → step R st at s ≡ x → Stops R st at s g
      go (stops o) e = absurd (on_not met at m s st o p k e)
      go (goes st') e =
          let h = passing_goes rules met st k at s st' e in
          let same : with_met met (slot_of R.shape (kind s)) ≡ m = on_is _ _ (sym h.0 ∙ p) in
          stops_behind R st st' at s g w e (i st' (subst (λ (n : ℕ). Marks rules n st') same h.1))

  pub stops_told : (met at : ℕ) (s : List ℕ) → Told met at s (going R met at 0 s)
  stops_told =
      by_records R Told (λ met at s w st k. walk_place R st at s (λ st' q. not_whole R st st' at s w q)) told_halting told_onward

  -- from the front of a message
  pub stops_first : (s : List ℕ) → Stops R [] 0 s (going R 0 0 0 s)
  stops_first s = stops_told 0 0 s [] (marks_start rules)
