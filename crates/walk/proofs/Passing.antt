-- What a walk that reaches an end record says of the records before it, and back; and that each message which is read to its end is whole
-- records that do not end it, one that does, and a tail.
-- Assumes nothing.
use mathlib.Core.Path.{◌≡◌, refl, sym, ◌∙◌, ap}
use mathlib.Core.List.{List, [], ◌∷◌, ◌++◌, append_assoc, append-nil}
use mathlib.Core.Bool.{Bool, true, false, ◌&&◌, ◌||◌, cond, true≢false}
use Prim.Native.Nat.{ℕ, zero, suc, ◌+◌, ◌-◌, ◌≤◌}
use native.Mathlib.Omega.{arith}
use native.Mathlib.Nat.{add-sub_of_le}
use lib.ListN.{length, take, drop, length-append, length-take, length-drop, take-append-drop}
use lib.Seq.{take-append-le, take-append-add}
use lib.Dec.{ltb, eqb}
use borrow.Author.Tests.{ltb-true, ltb-false}
use Rattle.nts.specs.Refusal.{nothing}
use Rattle.record.specs.Record.{kind, size}
use Rattle.walk.specs.Walk.{Act, ends, passes, notes, refuses, Reader, fault_in, act_in, Sighting, Outcome, stopped, ended, Step, stops, goes}
use Rattle.walk.specs.Walk.{has, meet, judge, step, walk}
use Rattle.walk.specs.Message.{Whole, Each, flat, message, Parts}
use Rattle.walk.proofs.Unroll.{after, unroll}
use Rattle.walk.proofs.Chunks.{size_append, unroll_chunk, run}
use Rattle.walk.proofs.Faultless.{faultless_whole}

-- whether a walk reached an end record
abbrev pub reached : Outcome → Bool
reached (stopped r) = false
reached (ended at next st) = true

-- ---- one record

-- whether the walk goes on after it, and whether it is noted
abbrev pub is_calm : Act → Bool
is_calm ends = false
is_calm passes = true
is_calm notes = true
is_calm (refuses n b) = false

abbrev pub is_notes : Act → Bool
is_notes ends = false
is_notes passes = false
is_notes notes = true
is_notes (refuses n b) = false

pub calm_goes : (a : Act) → is_calm a ≡ true → a ≡ ends → ⊥
calm_goes a h e = true≢false (sym h ∙ ap is_calm e)

abbrev pub sighting_at : ℕ → List ℕ → Sighting
sighting_at at c = record { of = kind c; start = at + 4; len = size c }

abbrev pub seen_in : List Sighting → ℕ → Bool
seen_in st k = has k st

pub or_turn : (a b c : Bool) → (a || (b || c)) ≡ (b || (a || c))
or_turn true true c = refl
or_turn true false c = refl
or_turn false b c = refl

has_snoc : (k : ℕ) (st : List Sighting) (x : Sighting) → has k (st ++ (x ∷ [])) ≡ (eqb x.of k || has k st)
unfolding has
has_snoc k [] x = refl
has_snoc k (y ∷ st) x = ap (λ (t : Bool). eqb y.of k || t) (has_snoc k st x) ∙ or_turn (eqb y.of k) (eqb x.of k) (has k st)

module _ (R : Reader) where
  abbrev pub noted : List ℕ → Bool
  noted c = is_notes (act_in R c)

  -- a second record of a kind that may stand once, where `seen` says of which kinds one was noted
  abbrev pub again : (ℕ → Bool) → List ℕ → Bool
  again seen c = noted c && (R.once (kind c) && seen (kind c))

  -- a record that the walk passes
  pub record Fine (seen : ℕ → Bool) (c : List ℕ) : Type 0 where
    pub faultless : fault_in R c ≡ 0
    pub calm : is_calm (act_in R c) ≡ true
    pub alone : again seen c ≡ false

  abbrev pub grow : List Sighting → ℕ → List ℕ → List Sighting
  grow st at c = cond (noted c) (st ++ (sighting_at at c ∷ [])) st

  -- whether it is noted under a kind, and of which kinds one is noted with it
  abbrev pub picked : ℕ → List ℕ → Bool
  picked k c = noted c && eqb (kind c) k

  abbrev pub mark : (ℕ → Bool) → List ℕ → ℕ → Bool
  mark seen c k = picked k c || seen k

  seen_grow : (st : List Sighting) (at : ℕ) (c : List ℕ) → seen_in (grow st at c) ≡ mark (seen_in st) c
  seen_grow st at c = λ j k. go (noted c) k j
    where
      go : (t : Bool) (k : ℕ) → has k (cond t (st ++ (sighting_at at c ∷ [])) st) ≡ ((t && eqb (kind c) k) || has k st)
      go true k = has_snoc k st (sighting_at at c)
      go false k = refl

  module _ (st : List Sighting) (at : ℕ) (c : List ℕ) where
    -- what a step tells of its record: it goes on after one that is fine, and reaches the end with one that ends
    abbrev pub Tells : Step → Type 0
    Tells (goes st') = Fine (seen_in st) c × (st' ≡ grow st at c)
    Tells (stops o) = reached o ≡ true → (fault_in R c ≡ 0) × (act_in R c ≡ ends)

    pub step_tells : Tells (step R st at c)
    unfolding step judge meet
    step_tells = go (fault_in R c) refl
      where
        not_reached : false ≡ true → (fault_in R c ≡ 0) × (act_in R c ≡ ends)
        not_reached h = absurd (true≢false (sym h))

        by_seen : (t : Bool) → fault_in R c ≡ 0 → act_in R c ≡ notes → (R.once (kind c) && has (kind c) st) ≡ t
            → Tells (cond t (stops (stopped (record { number = 4; beside = nothing; place = at }))) (goes (st ++ (sighting_at at c ∷ []))))
        by_seen true z e q = not_reached
        by_seen false z e q = (record { faultless = z; calm = ap is_calm e; alone = rw (e, q) }, rw e)

        by_act : (a : Act) → fault_in R c ≡ 0 → act_in R c ≡ a → Tells (meet R st at (kind c) (size c) a)
        by_act ends z e = λ h. (z, e)
        by_act passes z e = (record { faultless = z; calm = ap is_calm e; alone = rw e }, rw e)
        by_act notes z e = by_seen (R.once (kind c) && has (kind c) st) z e refl
        by_act (refuses n b) z e = not_reached

        go : (f : ℕ) → fault_in R c ≡ f → Tells (judge R st at c f)
        go zero z = by_act (act_in R c) z refl
        go (suc f) z = not_reached

    pub step_fine : Fine (seen_in st) c → step R st at c ≡ goes (grow st at c)
    unfolding step judge meet
    step_fine h = rw h.faultless (by_act (act_in R c) h.calm h.alone)
      where
        by_act : (a : Act) → is_calm a ≡ true → (is_notes a && (R.once (kind c) && has (kind c) st)) ≡ false
            → meet R st at (kind c) (size c) a ≡ goes (cond (is_notes a) (st ++ (sighting_at at c ∷ [])) st)
        by_act ends p q = cc
        by_act passes p q = refl
        by_act notes p q = rw q
        by_act (refuses n b) p q = cc

  -- ---- one record after the other

  -- records that the walk passes, where `seen` says of which kinds one was noted before
  abbrev pub Passed : (ℕ → Bool) → List (List ℕ) → Type 0
  Passed seen [] = Unit {0}
  Passed seen (c ∷ cs) = Fine seen c × Passed (mark seen c) cs

  -- what is noted of them
  abbrev pub sightings_in : ℕ → List (List ℕ) → List Sighting
  sightings_in at [] = []
  sightings_in at (c ∷ cs) = cond (noted c) (sighting_at at c ∷ sightings_in (at + length c) cs) (sightings_in (at + length c) cs)

  pub run_passed : (st : List Sighting) (at : ℕ) (cs : List (List ℕ)) → Passed (seen_in st) cs
      → run R st at cs ≡ goes (st ++ sightings_in at cs)
  unfolding run
  run_passed st at [] h = rw append-nil
  run_passed st at (c ∷ cs) h =
      rw (step_fine st at c h.0) (run_passed (grow st at c) (at + length c) cs (rw (seen_grow st at c) h.1) ∙ ap goes (go (noted c)))
    where
      go : (t : Bool) → cond t (st ++ (sighting_at at c ∷ [])) st ++ sightings_in (at + length c) cs
          ≡ st ++ cond t (sighting_at at c ∷ sightings_in (at + length c) cs) (sightings_in (at + length c) cs)
      go true = append_assoc st (sighting_at at c ∷ []) (sightings_in (at + length c) cs)
      go false = refl

  -- ---- a walk that reaches an end record

  pub walk_whole : (st : List Sighting) (at : ℕ) (s : List ℕ) → reached (walk R st at 0 s) ≡ true → 4 + size s ≤ length s
  walk_whole st at s h = faultless_whole R s (go (step R st at s) (step_tells st at s) (rw unroll at h))
    where
      go : (x : Step) → Tells st at s x → reached (after x (λ st'. walk R st' (at + (4 + size s)) 0 (drop (4 + size s) s))) ≡ true
          → fault_in R s ≡ 0
      go (stops o) t l = (t l).0
      go (goes st') t l = t.0.faultless

  -- the record at the front is within the limit
  pub walk_fits : (st : List Sighting) (at n : ℕ) (c r : List ℕ) → Whole c → reached (walk R st at 0 (take n (c ++ r))) ≡ true
      → length c ≤ n
  walk_fits st at n c r w h = go (ltb n (length c)) refl
    where
      go : (t : Bool) → ltb n (length c) ≡ t → length c ≤ n
      go true l =
          let l' = ltb-true n (length c) l in
          let f = walk_whole st at (take n c) (rw (take-append-le n c r (omega arith)) at h) in
          let z : size c ≡ size (take n c) = rw take-append-drop at (size_append (take n c) (drop n c) (omega arith)) in
          omega (arith, length-take n c)
      go false l = ltb-false n (length c) l

pub take_over : (n : ℕ) (c r : List ℕ) → length c ≤ n → take n (c ++ r) ≡ c ++ take (n - length c) r
take_over n c r h = ap (λ (k : ℕ). take k (c ++ r)) (sym (add-sub_of_le h)) ∙ take-append-add c r (n - length c)

module _ (R : Reader) where
  -- a whole record that does not end a message ..
  abbrev pub Inner : List ℕ → Type 0
  Inner c = Whole c × (act_in R c ≡ ends → ⊥)

  -- .. one that the walk passes ..
  abbrev pub Past : List ℕ → Type 0
  Past c = Whole c × (is_calm (act_in R c) ≡ true)

  -- .. and one that ends it
  abbrev pub Last : List ℕ → Type 0
  Last e = Whole e × (fault_in R e ≡ 0) × (act_in R e ≡ ends)

  pub reached_passed : (st : List Sighting) (at n : ℕ) (cs : List (List ℕ)) (e t : List ℕ) → Each Inner cs → Whole e
      → reached (walk R st at 0 (take n (message cs e t))) ≡ true → (length (flat cs) + length e ≤ n) × Passed R (seen_in st) cs
  reached_passed st at n [] e t w we h = (omega (arith, walk_fits R st at n e t we h), tt)
  reached_passed st at n (c ∷ cs) e t w we h =
      go (step R st at c) (step_tells R st at c) (rw (unroll_chunk c rest w.0.0 R st at) at over)
      (λ st₁ g. reached_passed st₁ (at + length c) (n - length c) cs e t w.1 we g)
    where
      rest : List ℕ
      rest = take (n - length c) (message cs e t)

      front : reached (walk R st at 0 (take n (c ++ message cs e t))) ≡ true
      front = rw append_assoc at h

      fits : length c ≤ n
      fits = walk_fits R st at n c (message cs e t) w.0.0 front

      over : reached (walk R st at 0 (c ++ rest)) ≡ true
      over = rw (take_over n c (message cs e t) fits) at front

      go : (x : Step) → Tells R st at c x → reached (after x (λ st₁. walk R st₁ (at + length c) 0 rest)) ≡ true
          → ((st₁ : List Sighting) → reached (walk R st₁ (at + length c) 0 rest) ≡ true
          → (length (flat cs) + length e ≤ n - length c) × Passed R (seen_in st₁) cs)
          → (length (flat (c ∷ cs)) + length e ≤ n) × Passed R (seen_in st) (c ∷ cs)
      go (stops o) x g later = absurd (w.0.1 (x g).1)
      go (goes st₁) x g later =
          let i = later st₁ g in
          (omega (arith, length-append c (flat cs)), (x.0, rw (x.1, seen_grow R st at c) at i.1))

  -- ---- every message that is read to its end is chunks and an end record

  split_by : (fuel : ℕ) (st : List Sighting) (at : ℕ) (s : List ℕ) → length s ≤ fuel → reached (walk R st at 0 s) ≡ true
      → Parts Past Last s (length s)
  split_by zero st at s l h = absurd (omega (arith, walk_whole R st at s h))
  split_by (suc fuel) st at s l h =
      go (step R st at c) (step_tells R st at c) (rw (unroll_chunk c r w R st at) at whole)
      (λ st₁ g. split_by fuel st₁ (at + length c) r (omega (arith, length-drop (4 + size s) s, big)) g)
    where
      big : 4 + size s ≤ length s
      big = walk_whole R st at s h

      c : List ℕ
      c = take (4 + size s) s

      r : List ℕ
      r = drop (4 + size s) s

      long : length c ≡ 4 + size s
      long = omega (arith, length-take (4 + size s) s, big)

      w : Whole c
      w = long ∙ ap (λ (n : ℕ). 4 + n) (rw take-append-drop at (size_append c r (omega (arith, long))))

      whole : reached (walk R st at 0 (c ++ r)) ≡ true
      whole = rw take-append-drop h

      go : (x : Step) → Tells R st at c x → reached (after x (λ st₁. walk R st₁ (at + length c) 0 r)) ≡ true
          → ((st₁ : List Sighting) → reached (walk R st₁ (at + length c) 0 r) ≡ true → Parts Past Last r (length r))
          → Parts Past Last s (length s)
      go (stops o) x g later =
          record {
            front = [];
            last = c;
            tail = r;
            joined = sym (take-append-drop (4 + size s) s);
            each = tt;
            ends = (w, (x g).0, (x g).1);
            fits = omega (arith, long, big);
          }
      go (goes st₁) x g later =
          let y = later st₁ g in
          record {
            front = c ∷ y.front;
            last = y.last;
            tail = y.tail;
            joined =
                sym (take-append-drop (4 + size s) s) ∙ ap (λ (m : List ℕ). c ++ m) y.joined
                ∙ sym (append_assoc c (flat y.front) (y.last ++ y.tail));
            each = ((w, x.0.calm), y.each);
            ends = y.ends;
            fits = simp length-append (omega (arith, y.fits, long, big, length-drop (4 + size s) s));
          }

  pub split : (st : List Sighting) (at : ℕ) (s : List ℕ) → reached (walk R st at 0 s) ≡ true → Parts Past Last s (length s)
  split st at s h = split_by (length s) st at s (omega arith) h
