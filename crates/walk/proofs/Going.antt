-- The loop: what holds whenever a record is about to be read, and what each way out and the way on needs; for every table.
-- Assumes nothing.
use mathlib.Core.Path.{◌≡◌, refl, sym, ap, ◌∙◌}
use mathlib.Core.List.{List, [], ◌∷◌, ◌++◌, map, append_assoc, append-nil}
use mathlib.Core.Bool.{Bool, true}
use Prim.Native.Nat.{ℕ, ◌+◌, ◌<◌, ◌≤◌}
use native.Mathlib.Omega.{arith}
use lib.ListN.{length, drop, length-append, length-map}
use lib.Seq.{drop-drop}
use lib.Dec.{ltb}
use borrow.Author.Tests.{ne_eqb}
use Rattle.nts.specs.Refusal.{nothing, Refused, told_refusal}
use Rattle.nts.specs.declared.NtsError.{NtsError}
use Rattle.nts.specs.declared.Refusal.{Refusal}
use Rattle.layout.specs.Profile.{shape_in, knows}
use Rattle.record.specs.Record.{kind, size, whole, broken, look_at}
use Rattle.record.specs.Told.{told_looked}
use Rattle.layout.specs.declared.Shape.{Shape}
use Rattle.record.specs.declared.Glance.{Glance}
use Rattle.record.specs.declared.Looked.{Looked}
use Rattle.record.specs.declared.Looked.TheVariants as looked
use Rattle.record.proofs.Inverse.{whole_was, broken_was}
use Rattle.record.proofs.Read.{look_inside}
use Rattle.walk.specs.Walk.{Reader, Sighting, stopped, ended, step, fault_in, walk}
use Rattle.walk.specs.Judge.{of_kind}
use Rattle.walk.specs.Rules.{Rules, entry_of, reader_of}
use Rattle.walk.specs.Shown.{Mark, mark_at, shown, counted}
use Rattle.walk.specs.Found.{entry_in, Stands, way_refused, way_of, next_of, Walks}
use Rattle.walk.specs.Code.{slot_in, Asked, asked, verdict_of, more_in, Met, Few, looked_of, verdict_in, next_in, cells_in, Steps}
use Rattle.walk.specs.declared.Stop.TheVariants as stop
use Rattle.walk.specs.declared.Stepped.{Stepped}
use Rattle.walk.specs.declared.Verdict.{Verdict}
use Rattle.walk.specs.declared.Verdict.TheVariants.{On, End, Stop}
use Rattle.walk.proofs.Unroll.{after, unroll, onward, unroll_shown}
use Rattle.walk.proofs.Looking.{slot_known, slot_below, Asks, asks}
use Rattle.walk.proofs.Meeting.{step_of, more_of, step_is, step_fault, end_unnoted}
use Rattle.walk.proofs.Standing.{Kept, kept_start, kept_more, stands_more, has_count, count_few}

map_more : (f : ℕ → Shape) (l : List Mark) (x : Mark) → map (counted f) l ++ (counted f x ∷ []) ≡ map (counted f) (l ++ (x ∷ []))
map_more f [] x = refl
map_more f (y ∷ l) x = ap (λ (k : List Sighting). counted f y ∷ k) (map_more f l x)

ended_same : (a b p n : ℕ) (x y : List Sighting) → ended a b x ≡ ended p n y → x ≡ y
ended_same a b p n x y z = cc

not_ended : (r : Refused) (p n : ℕ) (y : List Sighting) → stopped r ≡ ended p n y → ⊥
not_ended r p n y z = let o : ◌≡◌ {A = ℕ} 0 1 = cc in omega arith

-- a step at a record that does not read
pub steps_broken : (rules : Rules) (s : List ℕ) (at : ℕ) (c : List ℕ) (x : Looked) (r : Refusal) (v : Verdict) → told_looked x ≡ look_at (shape_in rules.profile) s at → x ≡ looked.Refused r → v ≡ looked_of x
    → Steps rules s at c (record { verdict = v; next = at }) c
steps_broken rules s at c x r v l e q = record { look = looked.Refused r; looks = ap told_looked (sym e) ∙ l; says = q ∙ ap looked_of e; after = refl; left = refl }

-- at one that reads, whose kind stands at j
pub steps_whole : (rules : Rules) (s : List ℕ) (at : ℕ) (c : List ℕ) (x : Glance) (j : ℕ) (v : Verdict) (c' : List ℕ) → told_looked (looked.Whole x) ≡ look_at (shape_in rules.profile) s at → j ≡ slot_in rules x.kind
    → Met (entry_of rules j) (asked rules.profile s j x.critical (at + 4) x.size) j (at + 4) x.size c v c' → Steps rules s at c (record { verdict = v; next = at + 4 + x.size }) c'
steps_whole rules s at c x j v c' l e q = record {
  look = looked.Whole x;
  looks = l;
  says = q.says ∙ ap (λ (i : ℕ). verdict_of (entry_of rules i) (asked rules.profile s i x.critical (at + 4) x.size) (entry_in c i).count x.size) e;
  after = refl;
  left = q.left ∙ ap (λ (i : ℕ). more_in c i (at + 4) x.size) e;
}

module _ (rules : Rules) (s : List ℕ) where
  abbrev R : Reader
  R = reader_of rules

  -- a record that reads, with a body of n bytes, and what is asked of it
  record Came (at n : ℕ) (x : Asked) : Type 0 where
    faultless : fault_in (reader_of rules) (drop at s) ≡ 0
    sized : n ≡ size (drop at s)
    looks : Asks rules x (drop at s)
    small : x.slot < 15

  came : (at k n j : ℕ) (bit : Bool) → whole k bit n ≡ look_at (shape_in rules.profile) s at → j ≡ slot_in rules k → Came at n (asked rules.profile s j bit (at + 4) n)
  unfolding look_at
  came at k n j bit e i =
      let w = whole_was (shape_in rules.profile) at (drop at s) k bit n e in
      record {
        faultless = w.faultless;
        sized = w.sized;
        looks = asks rules s at k j n bit w (look_inside (shape_in rules.profile) s at k bit n e) i;
        small = slot_below rules j k i;
      }

  -- `at` is the place, and found what the records before it say
  pub record Going (at : ℕ) (found : List ℕ) : Type 0 where
    pub st : List Sighting
    pub sh : List Mark
    pub stands : Stands found (map (counted (reader_of rules).shape) sh)
    pub kept : Kept rules st (map (counted (reader_of rules).shape) sh)
    pub same : walk R [] 0 0 s ≡ walk R st at 0 (drop at s)
    pub met : shown R [] 0 0 s ≡ sh ++ shown R st at 0 (drop at s)
    pub inside : at ≤ length s
    pub few : length sh ≤ at

  pub going_start : (found : List ℕ) → Stands found [] → Going 0 found
  going_start found e = record {
    st = [];
    sh = [];
    stands = e;
    kept = kept_start rules;
    same = refl;
    met = refl;
    inside = omega arith;
    few = omega arith;
  }

  -- a fault_in (reader_of rules) stops the walk at its record
  walk_fault : (st : List Sighting) (at : ℕ) (t : List ℕ) → (fault_in (reader_of rules) t ≡ 0 → ⊥) → walk R st at 0 t ≡ stopped (record { number = fault_in (reader_of rules) t; beside = nothing; place = at })
  walk_fault st at t n = unroll R st at t ∙ rw (step_fault rules st at t n)

  shown_fault : (st : List Sighting) (at : ℕ) (t : List ℕ) → (fault_in (reader_of rules) t ≡ 0 → ⊥) → shown R st at 0 t ≡ []
  shown_fault st at t n = unroll_shown R st at t ∙ rw (ne_eqb (fault_in (reader_of rules) t) 0 n)

  shown_read : (st : List Sighting) (at : ℕ) (t : List ℕ) → fault_in (reader_of rules) t ≡ 0 → shown R st at 0 t ≡ mark_at at t ∷ onward (step R st at t) (λ st'. shown R st' (at + (4 + size t)) 0 (drop (4 + size t) t))
  shown_read st at t z = unroll_shown R st at t ∙ rw (z)

  module _ (at : ℕ) (found : List ℕ) (g : Going at found) where
    abbrev t : List ℕ
    t = drop at s

    pub going_few : Few found at
    unfolding Few
    going_few j h = omega (arith, g.few, count_few found (map (counted (reader_of rules).shape) g.sh) j h g.stands, length-map g.sh (counted (reader_of rules).shape))

    -- a record that does not read stops the walk, and is not met
    going_unread : (r : Refusal) → broken (told_refusal r) ≡ look_at (shape_in rules.profile) s at → Walks rules s (record { place = at; next = at; stop = stop.Refused r.error }) found
    unfolding look_at
    going_unread r e =
        let w = broken_was (shape_in rules.profile) at t (told_refusal r) e in
        let o : walk R g.st at 0 t ≡ stopped (record { number = fault_in (reader_of rules) t; beside = nothing; place = at }) = walk_fault g.st at t w.0 in
        let h : shown R [] 0 0 s ≡ g.sh = g.met ∙ ap (λ (l : List Mark). g.sh ++ l) (shown_fault g.st at t w.0) ∙ append-nil g.sh in
        record {
          says = ap way_refused (λ i. record { number = (w.1 i).number; beside = (w.1 i).beside; place = at }) ∙ sym (ap way_of (g.same ∙ o));
          after = sym (ap next_of (g.same ∙ o));
          met = rw h g.stands;
          noted = λ p next st q. absurd (not_ended _ p next st (sym (g.same ∙ o) ∙ q));
        }

    module _ (n : ℕ) (x : Asked) (w : Came at n x) (inside : at + 4 + n ≤ length s) where
      module _ (v' : Verdict) (c' : List ℕ) (q : Met (entry_of rules x.slot) x x.slot (at + 4) n found v' c') where
        verdict_is : v' ≡ verdict_of (entry_of rules x.slot) x (entry_in found x.slot).count (size t)
        verdict_is = q.says ∙ ap (verdict_of (entry_of rules x.slot) x (entry_in found x.slot).count) w.sized

        stands_now : Stands c' (map (counted (reader_of rules).shape) (g.sh ++ (mark_at at t ∷ [])))
        stands_now = rw (q.left, w.sized, ← map_more (reader_of rules).shape g.sh (mark_at at t)) (stands_more found (map (counted (reader_of rules).shape) g.sh) x.slot (counted (reader_of rules).shape (mark_at at t)) (sym w.looks.slot) w.small g.stands)

        kept_now : Kept rules (g.st ++ more_of rules at (kind t) (size t)) (map (counted (reader_of rules).shape) (g.sh ++ (mark_at at t ∷ [])))
        kept_now = rw (← map_more (reader_of rules).shape g.sh (mark_at at t)) (kept_more rules g.st (map (counted (reader_of rules).shape) g.sh) at t g.kept)

        same_slot : knows rules.profile (kind t) ≡ true → x.slot ≡ kind t
        same_slot kn = w.looks.slot ∙ slot_known rules (kind t) true kn

        stepped : (v : Verdict) → v' ≡ v → step R g.st at t ≡ step_of at (size t) g.st (more_of rules at (kind t) (size t)) v
        stepped v h =
            step_is rules at t w.faultless x w.looks g.st (entry_in found x.slot).count
            (λ kn nt. has_count rules g.st (map (counted (reader_of rules).shape) g.sh) found (kind t) g.kept g.stands kn (omega (arith, same_slot kn, w.small)) nt ∙ ap (λ (j : ℕ). ltb 0 (entry_in found j).count) (sym (same_slot kn)))
            ∙ ap (step_of at (size t) g.st (more_of rules at (kind t) (size t))) (sym verdict_is ∙ h)

        shown_now : (v : Verdict) → v' ≡ v
            → shown R [] 0 0 s ≡ g.sh ++ (mark_at at t ∷ onward (step_of at (size t) g.st (more_of rules at (kind t) (size t)) v) (λ st'. shown R st' (at + (4 + size t)) 0 (drop (4 + size t) t)))
        shown_now v h = g.met ∙ ap (λ (l : List Mark). g.sh ++ l) (shown_read g.st at t w.faultless) ∙ rw (stepped v h)

        walk_now : (v : Verdict) → v' ≡ v
            → walk R [] 0 0 s ≡ after (step_of at (size t) g.st (more_of rules at (kind t) (size t)) v) (λ st'. walk R st' (at + (4 + size t)) 0 (drop (4 + size t) t))
        walk_now v h = g.same ∙ unroll R g.st at t ∙ rw (stepped v h)

        going_on : v' ≡ On → Going (at + 4 + n) c'
        going_on h =
            let e : at + (4 + size t) ≡ at + 4 + n = omega (arith, w.sized) in
            record {
              st = g.st ++ more_of rules at (kind t) (size t);
              sh = g.sh ++ (mark_at at t ∷ []);
              stands = stands_now;
              kept = kept_now;
              same = walk_now On h ∙ rw (drop-drop (4 + size t) at s, e);
              met = shown_now On h ∙ rw (drop-drop (4 + size t) at s, e) (sym (append_assoc g.sh (mark_at at t ∷ []) _));
              inside = inside;
              few = omega (arith, g.few, length-append g.sh (mark_at at t ∷ []));
            }

        going_end : v' ≡ End → Walks rules s (record { place = at; next = at + 4 + n; stop = stop.End }) c'
        unfolding Kept
        going_end h = record {
          says = sym (ap way_of (walk_now End h));
          after = let e : at + 4 + n ≡ at + (4 + size t) = omega (arith, w.sized) in e ∙ sym (ap next_of (walk_now End h));
          met = rw (shown_now End h) stands_now;
          noted = λ p n st z k kn nt.
              ap (of_kind k) (sym (ended_same _ _ p n g.st st (sym (walk_now End h) ∙ z)) ∙ sym (append-nil g.st) ∙ ap (λ (l : List Sighting). g.st ++ l) (sym (end_unnoted rules at (entry_in found x.slot).count t x w.looks (sym verdict_is ∙ h))))
              ∙ kept_now k kn nt
              ∙ ap (λ (l : List Mark). of_kind k (map (counted (reader_of rules).shape) l)) (sym (shown_now End h));
        }

        going_stop : (err : NtsError) → v' ≡ Stop err → Walks rules s (record { place = at; next = at; stop = stop.Refused err }) c'
        going_stop err h = record {
          says = sym (ap way_of (walk_now (Stop err) h));
          after = sym (ap next_of (walk_now (Stop err) h));
          met = rw (shown_now (Stop err) h) stands_now;
          noted = λ p k st z. absurd (not_ended _ p k st (sym (walk_now (Stop err) h) ∙ z));
        }

    -- ---- by what a step ensures

    module _ (r : Stepped) (c' : List ℕ) (q : Steps rules s at found r c') where
      pub step_on : r.verdict ≡ On → Going r.next c'
      step_on h = go q.look q.looks q.says q.after q.left
        where
          go : (x : Looked) → told_looked x ≡ look_at (shape_in rules.profile) s at → r.verdict ≡ verdict_in rules s at found x → r.next ≡ next_in at x → c' ≡ cells_in rules at found x → Going r.next c'
          go (looked.Whole x) l v n k =
              rw n (going_on x.size (asked rules.profile s (slot_in rules x.kind) x.critical (at + 4) x.size) (came at x.kind x.size (slot_in rules x.kind) x.critical l refl) (look_inside (shape_in rules.profile) s at x.kind x.critical x.size l) r.verdict c' (record { says = v; left = k }) h)
          go (looked.Refused e) l v n k = let z : ◌≡◌ {A = ℕ} 0 1 = cc in absurd (omega arith)

      pub step_onward : r.verdict ≡ On → (at < r.next) × (r.next ≤ length s)
      step_onward h = go q.look q.looks q.says q.after
        where
          go : (x : Looked) → told_looked x ≡ look_at (shape_in rules.profile) s at → r.verdict ≡ verdict_in rules s at found x → r.next ≡ next_in at x → (at < r.next) × (r.next ≤ length s)
          go (looked.Whole x) l v n = let i = look_inside (shape_in rules.profile) s at x.kind x.critical x.size l in (omega arith, omega arith)
          go (looked.Refused e) l v n = let z : ◌≡◌ {A = ℕ} 0 1 = cc in absurd (omega arith)

      pub step_end : r.verdict ≡ End → Walks rules s (record { place = at; next = r.next; stop = stop.End }) c'
      step_end h = go q.look q.looks q.says q.after q.left
        where
          go : (x : Looked) → told_looked x ≡ look_at (shape_in rules.profile) s at → r.verdict ≡ verdict_in rules s at found x → r.next ≡ next_in at x → c' ≡ cells_in rules at found x → Walks rules s (record { place = at; next = r.next; stop = stop.End }) c'
          go (looked.Whole x) l v n k =
              rw n (going_end x.size (asked rules.profile s (slot_in rules x.kind) x.critical (at + 4) x.size) (came at x.kind x.size (slot_in rules x.kind) x.critical l refl) (look_inside (shape_in rules.profile) s at x.kind x.critical x.size l) r.verdict c' (record { says = v; left = k }) h)
          go (looked.Refused e) l v n k = let z : ◌≡◌ {A = ℕ} 0 1 = cc in absurd (omega arith)

      pub step_stop : (err : NtsError) → r.verdict ≡ Stop err → Walks rules s (record { place = at; next = at; stop = stop.Refused err }) c'
      step_stop err h = go q.look q.looks q.says q.left
        where
          go : (x : Looked) → told_looked x ≡ look_at (shape_in rules.profile) s at → r.verdict ≡ verdict_in rules s at found x → c' ≡ cells_in rules at found x → Walks rules s (record { place = at; next = at; stop = stop.Refused err }) c'
          go (looked.Whole x) l v k =
              going_stop x.size (asked rules.profile s (slot_in rules x.kind) x.critical (at + 4) x.size) (came at x.kind x.size (slot_in rules x.kind) x.critical l refl) (look_inside (shape_in rules.profile) s at x.kind x.critical x.size l) r.verdict c' (record { says = v; left = k }) err h
          go (looked.Refused e) l v k =
              let same : e.error ≡ err = cc in
              rw (k, ← same) (going_unread e l)
