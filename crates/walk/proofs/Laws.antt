-- Demand 3 for every reader and judge that keep two laws: records in another order, a record more that is passed over, and one that is
-- refused.
-- Assumes nothing.
use mathlib.Core.Path.{◌≡◌, refl, sym, ◌∙◌, ap}
use mathlib.Core.List.{List, [], ◌∷◌, ◌++◌, map, append_assoc, Permᴰ}
use mathlib.Core.Bool.{Bool, true, false, ◌&&◌, ◌||◌, cond}
use Prim.Native.Nat.{ℕ, ◌+◌, ◌-◌, ◌<◌, ◌≤◌}
use native.Mathlib.Omega.{arith}
use native.Mathlib.Nat.{zero-add}
use lib.ListN.{length, take, drop, length-append, length-take, take-append-drop}
use lib.Seq.{drop-drop, drop_at}
use lib.Dec.{ltb, eqb}
use borrow.Author.Tests.{ltb-false}
use Rattle.nts.specs.Refusal.{Beside, nothing}
use Rattle.record.specs.Record.{kind, there}
use Rattle.walk.specs.Walk.{passes, refuses, Reader, fault_in, act_in, Sighting, Outcome, stopped, ended, stops, meet, judge, step, walk, behind, walked}
use Rattle.walk.specs.Judge.{Verdict, no, yes, Under, Judge, of_kind, body_in, refused, accepted, placed, finish, read_as}
use Rattle.walk.specs.Message.{Whole, Each, flat, message, Parts, contents, Shows}
use Rattle.walk.proofs.Behind.{follows, none_follows, stopped_walked, ended_walked}
use Rattle.walk.proofs.Chunks.{size_append, there_append, each_map, unroll_chunk, walk_run}
use Rattle.walk.proofs.Passing.{reached, is_calm, calm_goes, sighting_at, seen_in, noted, Passed, sightings_in, run_passed, take_over, Inner, Past, Last, reached_passed, split}
use Rattle.walk.proofs.Reorder.{passed_perm, bodies_of, count_perm, once_perm, passed_insert, bodies_insert, passed_front}
use Rattle.walk.proofs.Reorder.{each_perm, each_insert, each_front, flat_perm}

-- ---- what is asked of a reader and its judge

abbrev pub map_verdict : (D : Judge) {A B : Type 0} → (A → B) → Verdict D.Q A → Verdict D.Q B
map_verdict D f (no n b) = no n b
map_verdict D f (yes q) = yes (D.map_q f q)

-- kinds of which a reordering keeps the order: cookies and denied names
abbrev pub keeps : ℕ → Bool
keeps k = eqb k 5 || eqb k 13

pub record Lawful (R : Reader) (D : Judge) : Type 1 where
  -- the verdict is over the bodies, whatever stands for them
  pub natural : (u : Under) {A : Type 0} (f : A → List ℕ) (l : ℕ → List A)
      → map_verdict D f (D.decide u f l) ≡ D.decide u (λ (b : List ℕ). b) (λ k. map f (l k))
  -- it is the same for the same bodies of each kind that may stand once or keeps its order, and as many of every other
  pub stable : (u : Under) (l l' : ℕ → List (List ℕ)) → ((k : ℕ) → (R.once k || keeps k) ≡ true → l k ≡ l' k)
      → ((k : ℕ) → length (l k) ≡ length (l' k)) → D.decide u (λ (b : List ℕ). b) l ≡ D.decide u (λ (b : List ℕ). b) l'

-- ---- the parts noted are the records' bodies

body_chunk : (m c r : List ℕ) (at : ℕ) → Whole c → drop at m ≡ c ++ r → body_in m (sighting_at at c) ≡ there c
unfolding there
body_chunk m c r at w e =
    rw (← drop-drop 4 at m, e) (ap (λ (n : ℕ). take n (drop 4 (c ++ r))) (sym (size_append c r (omega arith))) ∙ there_append c r w)

module _ (R : Reader) (m r : List ℕ) (k : ℕ) where
  bodies_noted : (at : ℕ) (cs : List (List ℕ)) → Each Whole cs → drop at m ≡ flat cs ++ r
      → map (body_in m) (of_kind k (sightings_in R at cs)) ≡ bodies_of R k cs
  bodies_noted at [] w e = refl
  bodies_noted at (c ∷ cs) w e = by_act (noted R c) (bodies_noted (at + length c) cs w.1 next)
    where
      here : drop at m ≡ c ++ (flat cs ++ r)
      here = rw append_assoc at e

      next : drop (at + length c) m ≡ flat cs ++ r
      next = sym (drop-drop (length c) at m) ∙ ap (drop (length c)) here ∙ drop_at c (flat cs ++ r) (length c) refl

      rest : List Sighting
      rest = sightings_in R (at + length c) cs

      by_kind : (u : Bool) (l : List Sighting) → map (body_in m) l ≡ bodies_of R k cs
          → map (body_in m) (cond u (sighting_at at c ∷ l) l) ≡ cond u (there c ∷ bodies_of R k cs) (bodies_of R k cs)
      by_kind true l i = cc (body_chunk m c (flat cs ++ r) at w.0 here)
      by_kind false l i = i

      by_act : (t : Bool) → map (body_in m) (of_kind k rest) ≡ bodies_of R k cs
          → map (body_in m) (of_kind k (cond t (sighting_at at c ∷ rest) rest))
          ≡ cond (t && eqb (kind c) k) (there c ∷ bodies_of R k cs) (bodies_of R k cs)
      by_act true i = by_kind (eqb (kind c) k) (of_kind k rest) i
      by_act false i = i

-- ---- a walk over records that it passes, and one with which it stops, within the limit

-- what is cut off behind them is not looked at
fit : (n : ℕ) (f x t : List ℕ) → length f + length x ≤ n → take n (f ++ (x ++ t)) ≡ f ++ (x ++ take (n - length f - length x) t)
fit n f x t h = take_over n f (x ++ t) (omega arith) ∙ ap (λ (s : List ℕ). f ++ s) (take_over (n - length f) x t (omega arith))

wholes : (R : Reader) (cs : List (List ℕ)) → Each (Inner R) cs → Each Whole cs
wholes R = each_map (λ c i. i.0)

module _ (R : Reader) where
  walk_stops : (n : ℕ) (cs : List (List ℕ)) (x t : List ℕ) (o : Outcome) → Each (Inner R) cs → Passed R (seen_in []) cs → Whole x
      → length (flat cs) + length x ≤ n → step R (sightings_in R 0 cs) (length (flat cs)) x ≡ stops o
      → walk R [] 0 0 (take n (message cs x t)) ≡ o
  walk_stops n cs x t o i p w f h =
      let t' = take (n - length (flat cs) - length x) t in
      rw (fit n (flat cs) x t f, walk_run R (x ++ t') [] 0 cs (wholes R cs i), run_passed R [] 0 cs p, zero-add)
      (unroll_chunk x t' w R (sightings_in R 0 cs) (length (flat cs)) ∙ rw h)

  module _ (st : List Sighting) (at : ℕ) where
    step_last : (e : List ℕ) → Last R e → step R st at e ≡ stops (ended at (at + length e) st)
    unfolding step judge meet
    step_last e l = rw (l.1, l.2, l.0)

    step_refused : (n : ℕ) (b : Beside) (u : List ℕ) → fault_in R u ≡ 0 → act_in R u ≡ refuses n b
        → step R st at u ≡ stops (stopped (record { number = n; beside = b; place = at }))
    unfolding step judge meet
    step_refused n b u f a = rw (f, a)

  -- a record that is refused by itself, after records that the walk passes
  pub read_refused : (D : Judge) (u : Under) (cs : List (List ℕ)) (x t : List ℕ) (k : ℕ) (b : Beside) → Each (Inner R) cs → Passed R (seen_in []) cs → Whole x
      → fault_in R x ≡ 0 → act_in R x ≡ refuses k b → length (flat cs) + length x ≤ u.limit
      → read_as R D (message cs x t) u ≡ refused (record { number = k; beside = b; place = length (flat cs) })
  unfolding read_as finish
  read_refused D u cs x t k b i p w z a f =
      ap (finish D u (message cs x t)) (stopped_walked R (take u.limit (message cs x t)) _ (walk_stops u.limit cs x t _ i p w f (step_refused (sightings_in R 0 cs) (length (flat cs)) k b x z a)))

-- ---- a message that is accepted

pub accepted_reached : (R : Reader) (D : Judge) (m : List ℕ) (u : Under) (q : D.Q Sighting) → read_as R D m u ≡ accepted q
    → reached (walk R [] 0 0 (take u.limit m)) ≡ true
unfolding read_as walked behind finish
accepted_reached R D m u q h = go (walk R [] 0 0 (take u.limit m)) h
  where
    go : (o : Outcome) → finish D u m (behind R (take u.limit m) o) ≡ accepted q → reached o ≡ true
    go (stopped r) g = cc
    go (ended at next st) g = refl

-- no byte follows its end record where none may
accepted_alone : (R : Reader) (D : Judge) (m : List ℕ) (u : Under) (q : D.Q Sighting) (at next : ℕ) (st : List Sighting) → read_as R D m u ≡ accepted q
    → walk R [] 0 0 (take u.limit m) ≡ ended at next st → follows R (take u.limit m) next ≡ false
unfolding read_as walked behind finish
accepted_alone R D m u q at next st h w = go (follows R (take u.limit m) next) refl (sym (ap (λ (o : Outcome). finish D u m (behind R (take u.limit m) o)) w) ∙ h)
  where
    go : (b : Bool) → follows R (take u.limit m) next ≡ b → finish D u m (cond b (stopped (record { number = 18; beside = nothing; place = next })) (ended at next st)) ≡ accepted q → follows R (take u.limit m) next ≡ false
    go true e z = let o : ◌≡◌ {A = ℕ} 0 1 = cc in absurd (omega arith)
    go false e z = e

-- it is whole records that the walk passes, one that ends it, within the limit, and a tail
pub accepted_parts : (R : Reader) (D : Judge) (m : List ℕ) (u : Under) (q : D.Q Sighting) → read_as R D m u ≡ accepted q
    → Parts (Past R) (Last R) m u.limit
accepted_parts R D m u q h = record {
  front = p.front;
  last = p.last;
  tail = p.tail ++ drop u.limit m;
  joined = sym (take-append-drop u.limit m) ∙ ap (λ (s : List ℕ). s ++ drop u.limit m) p.joined ∙ simp append_assoc;
  each = p.each;
  ends = p.ends;
  fits = omega (arith, p.fits, length-take u.limit m);
}
  where
    p : Parts (Past R) (Last R) (take u.limit m) (length (take u.limit m))
    p = split R [] 0 (take u.limit m) (accepted_reached R D m u q h)

module _ (R : Reader) (D : Judge) (L : Lawful R D) where
  -- what is decided from the records alone
  unfoldable pub shown : Under → List (List ℕ) → Verdict D.Q (List ℕ)
  shown u cs = D.decide u (λ (b : List ℕ). b) (λ k. bodies_of R k cs)

  -- what holds of records and an end record that are accepted under what is asked and show x
  pub record Good (u : Under) (cs : List (List ℕ)) (e : List ℕ) (x : D.Q (List ℕ)) : Type 0 where
    pub inner : Each (Inner R) cs
    pub last : Last R e
    pub passed : Passed R (seen_in []) cs
    pub fits : length (flat cs) + length e ≤ u.limit
    pub shows : shown u cs ≡ yes x

  -- no byte of the tail lies inside the limit, where none may follow the end record
  abbrev pub Silent : Under → List (List ℕ) → List ℕ → List ℕ → Type 0
  Silent u cs e t = follows R (take u.limit (message cs e t)) (length (flat cs) + length e) ≡ false

  module _ (u : Under) (cs : List (List ℕ)) (e t : List ℕ) (inner : Each (Inner R) cs) (last : Last R e) where
    abbrev m : List ℕ
    m = message cs e t

    abbrev verdict : Verdict D.Q Sighting
    verdict = D.decide u (body_in m) (λ k. of_kind k (sightings_in R 0 cs))

    verdict_shown : map_verdict D (body_in m) verdict ≡ shown u cs
    unfolding shown
    verdict_shown =
        L.natural u (body_in m) (λ k. of_kind k (sightings_in R 0 cs))
        ∙ ap (D.decide u (λ (b : List ℕ). b)) (λ j k. bodies_noted R m (e ++ t) k 0 cs (wholes R cs inner) refl j)

    walk_last : Passed R (seen_in []) cs → length (flat cs) + length e ≤ u.limit
        → walk R [] 0 0 (take u.limit m) ≡ ended (length (flat cs)) (length (flat cs) + length e) (sightings_in R 0 cs)
    walk_last p f = walk_stops R u.limit cs e t _ inner p last.0 f (step_last R (sightings_in R 0 cs) (length (flat cs)) e last)

    read_verdict : Passed R (seen_in []) cs → length (flat cs) + length e ≤ u.limit → Silent u cs e t → read_as R D m u ≡ placed (length (flat cs)) verdict
    unfolding read_as finish
    read_verdict p f z = ap (finish D u m) (ended_walked R (take u.limit m) (length (flat cs)) (length (flat cs) + length e) (sightings_in R 0 cs) (walk_last p f) z)

    -- refused after the end record, at its place
    pub decided_no : (k : ℕ) (b : Beside) → Passed R (seen_in []) cs → length (flat cs) + length e ≤ u.limit → Silent u cs e t → shown u cs ≡ no k b
        → read_as R D m u ≡ refused (record { number = k; beside = b; place = length (flat cs) })
    decided_no k b p f z s = read_verdict p f z ∙ ap (placed (length (flat cs))) (go verdict (verdict_shown ∙ s))
      where
        go : (v : Verdict D.Q Sighting) → map_verdict D (body_in m) v ≡ no k b → v ≡ no k b
        go (no j c) h = cc
        go (yes q) h = cc

    pub accepted_silent : (q : D.Q Sighting) → read_as R D m u ≡ accepted q → Silent u cs e t
    accepted_silent q h =
        let r = reached_passed R [] 0 u.limit cs e t inner last.0 (accepted_reached R D m u q h) in
        accepted_alone R D m u q (length (flat cs)) (length (flat cs) + length e) (sightings_in R 0 cs) h (walk_last r.1 r.0)

    pub accepted_good : (q : D.Q Sighting) → read_as R D m u ≡ accepted q → Good u cs e (contents D m q)
    accepted_good q h =
        let r = reached_passed R [] 0 u.limit cs e t inner last.0 (accepted_reached R D m u q h) in
        let v : verdict ≡ yes q = placed_yes verdict (sym (read_verdict r.1 r.0 (accepted_silent q h)) ∙ h) in
        let s : shown u cs ≡ yes (contents D m q) = sym verdict_shown ∙ ap (map_verdict D (body_in m)) v in
        record { inner = inner; last = last; passed = r.1; fits = r.0; shows = s }
      where
        placed_yes : (v : Verdict D.Q Sighting) → placed (length (flat cs)) v ≡ accepted q → v ≡ yes q
        placed_yes (no k b) g = cc
        placed_yes (yes q') g = cc

  module _ (u : Under) (e : List ℕ) (x : D.Q (List ℕ)) where
    pub good_shows : (cs : List (List ℕ)) (t : List ℕ) → Good u cs e x → Silent u cs e t → Shows R D (message cs e t) u x
    good_shows cs t g z =
        let v = verdict u cs e t g.inner g.last in
        go v (read_verdict u cs e t g.inner g.last g.passed g.fits z) (verdict_shown u cs e t g.inner g.last ∙ g.shows)
      where
        go : (v : Verdict D.Q Sighting) → read_as R D (message cs e t) u ≡ placed (length (flat cs)) v
            → map_verdict D (body_in (message cs e t)) v ≡ yes x → Shows R D (message cs e t) u x
        go (no k b) a h = let z : ◌≡◌ {A = ℕ} 0 1 = cc in absurd (omega arith)
        go (yes q) a h = (q, a, cc)

    -- ---- records in another order

    pub reorder : (cs cs' : List (List ℕ)) → Permᴰ cs cs' → ((k : ℕ) → keeps k ≡ true → bodies_of R k cs ≡ bodies_of R k cs')
        → Good u cs e x → Good u cs' e x
    unfolding shown
    reorder cs cs' d kept g =
        record {
          inner = each_perm (Inner R) d g.inner;
          last = g.last;
          passed = passed_perm R (seen_in []) d g.passed;
          fits = omega (arith, flat_perm d, g.fits);
          shows = sym (L.stable u _ _ (λ k b. same k (R.once k) refl b) (λ k. count_perm R k d)) ∙ g.shows;
        }
      where
        same : (k : ℕ) (b : Bool) → R.once k ≡ b → (b || keeps k) ≡ true → bodies_of R k cs ≡ bodies_of R k cs'
        same k true o h = once_perm R k (seen_in []) o d g.passed
        same k false o h = kept k h

    -- ---- a record more, which is passed over or refused

    module _ (xs ys : List (List ℕ)) (c : List ℕ) (whole : Whole c) (faultless : fault_in R c ≡ 0) (g : Good u (xs ++ ys) e x) where
      pub insert_passed : act_in R c ≡ passes → length (flat (xs ++ (c ∷ ys))) + length e ≤ u.limit → Good u (xs ++ (c ∷ ys)) e x
      unfolding shown
      insert_passed a f =
          record {
            inner = each_insert (Inner R) c xs ys (whole, calm_goes (act_in R c) (ap is_calm a)) g.inner;
            last = g.last;
            passed = passed_insert R c a (seen_in []) xs ys faultless g.passed;
            fits = f;
            shows = ap (D.decide u (λ (b : List ℕ). b)) (λ j k. bodies_insert R c a k xs ys j) ∙ g.shows;
          }

      pub insert_refused : (k : ℕ) (b : Beside) (t : List ℕ) → act_in R c ≡ refuses k b → length (flat xs) + length c ≤ u.limit
          → read_as R D (message xs c t) u ≡ refused (record { number = k; beside = b; place = length (flat xs) })
      insert_refused k b t a f =
          let i = each_front (Inner R) xs ys g.inner in
          let p = passed_front R (seen_in []) xs ys g.passed in
          read_refused R D u xs c t k b i p whole faultless a f

-- ---- a tail in which nothing follows

module _ (R : Reader) (D : Judge) (L : Lawful R D) (u : Under) (e t : List ℕ) where
  abbrev Quiet : List (List ℕ) → Type 0
  Quiet cs = Silent R D L u cs e t

  message_long : (cs : List (List ℕ)) → length (message cs e t) ≡ length (flat cs) + (length e + length t)
  message_long cs = length-append (flat cs) (e ++ t) ∙ ap (λ (n : ℕ). length (flat cs) + n) (length-append e t)

  -- where any byte may follow
  pub silent_any : (cs : List (List ℕ)) → R.final ≡ false → Quiet cs
  silent_any cs h = rw h

  -- as behind records that are as long
  pub silent_same : (cs cs' : List (List ℕ)) → length (flat cs) ≡ length (flat cs') → Quiet cs → Quiet cs'
  silent_same cs cs' h q =
      let k : length (take u.limit (message cs e t)) ≡ length (take u.limit (message cs' e t)) =
      omega (arith, length-take u.limit (message cs e t), length-take u.limit (message cs' e t), message_long cs, message_long cs') in
      (λ i. R.final && ltb (sym h i + length e) (sym k i)) ∙ q

  -- as behind records that are longer, through whose end it still fits
  pub silent_longer : (cs cs' : List (List ℕ)) → length (flat cs) < length (flat cs') → length (flat cs') + length e ≤ u.limit → Quiet cs → Quiet cs'
  silent_longer cs cs' h f q = go R.final refl
    where
      go : (b : Bool) → R.final ≡ b → Quiet cs'
      go false z = rw z
      go true z =
          let s : length (take u.limit (message cs e t)) ≤ length (flat cs) + length e = ltb-false _ _ (rw z at q) in
          none_follows R (take u.limit (message cs' e t)) (length (flat cs') + length e)
          (omega (arith, s, length-take u.limit (message cs e t), length-take u.limit (message cs' e t), message_long cs, message_long cs'))
