-- Demand 3 in its own words, for every reader that is a table over the known kinds, in every profile: an accepted message is records, an end record and a tail;
-- its records in another order, denied names and cookies keeping theirs, or with a record more of unknown kind and its bit clear, show the
-- same; with the bit set it is refusal 3 at that record. "Unknown" is the profile's own word.
-- Assumes nothing.
use mathlib.Core.Path.{◌≡◌, refl, sym, ◌∙◌, ap, subst}
use mathlib.Core.List.{List, [], ◌∷◌, ◌++◌, append_assoc, Permᴰ}
use mathlib.Core.Bool.{Bool, true, false, ◌||◌, cond, and-true, and-false, true≢false}
use mathlib.Core.Logic.{◌⊎◌, inl, inr}
use Prim.Native.Nat.{ℕ, ◌+◌, ◌<◌, ◌≤◌}
use native.Mathlib.Omega.{arith}
use lib.ListN.{length, length-append}
use lib.Dec.{eqb}
use borrow.Author.Tests.{eqb-true}
use Rattle.nts.specs.Refusal.{nothing}
use Rattle.layout.specs.Profile.{asks_of, is_final, knows, allows}
use Rattle.layout.specs.declared.Profile.{Profile}
use Rattle.layout.proofs.Profiles.{zero_known, zero_shape, unknown_shape, unknown_allows, cookie_allows, denied_allows}
use Rattle.record.specs.Record.{kind, critical, there}
use Rattle.walk.specs.Walk.{Act, ends, passes, refuses, Reader, fault_in, act_in, Sighting}
use Rattle.walk.specs.Judge.{Under, Judge, Answer, refused, accepted, read_as, read_by}
use Rattle.walk.specs.Message.{Whole, Record, End, Each, bodies, flat, message, Parts, SameTail, contents, Shows}
use Rattle.walk.specs.Table.{act_by, table_reader}
use Rattle.walk.proofs.Chunks.{each_map}
use Rattle.record.proofs.Whole.{skipped, unknown}
use Rattle.walk.proofs.Faultless.{whole_faultless}
use Rattle.walk.proofs.Passing.{is_calm, is_notes, noted, Inner, Past, Last, reached_passed}
use Rattle.walk.proofs.Reorder.{bodies_of, flat_append, flat_perm}
use Rattle.walk.proofs.Laws.{keeps, Lawful, read_refused, accepted_reached, accepted_parts, Good, Silent, accepted_silent, accepted_good, good_shows, reorder, insert_passed, insert_refused, silent_any, silent_same, silent_longer}

-- ---- what demand 3 says of a reader's definition

-- the form Q of what it accepts, and what is shown of that
module _ {Q : Type 0 → Type 0} (reading : List ℕ → Under → Answer Q) (shows : List ℕ → Q Sighting → Q (List ℕ)) where
  -- m is accepted under what is asked, and x is shown
  abbrev pub Showing : List ℕ → Under → Q (List ℕ) → Type 0
  Showing m u x = (q : Q Sighting) × (reading m u ≡ accepted q) × (shows m q ≡ x)

  pub record Ordered : Type 0 where
    -- each message that is accepted is records, an end record through which it fits the limit, and a tail of any bytes
    pub accepted_is : (m : List ℕ) (u : Under) (q : Q Sighting) → reading m u ≡ accepted q → Parts Record End m u.limit
    -- the records before the end record in another order, denied names keeping theirs and cookies theirs; any other tail, or the same where nothing may follow
    pub reordered : (u : Under) (cs cs' : List (List ℕ)) (e t t' : List ℕ) (q : Q Sighting) → Each Record cs → End e → Permᴰ cs cs' → SameTail u t t'
        → bodies 13 cs ≡ bodies 13 cs' → bodies 5 cs ≡ bodies 5 cs' → reading (message cs e t) u ≡ accepted q
        → Showing (message cs' e t') u (shows (message cs e t) q)
    -- a whole record of unknown kind, its bit clear, just before any record up to the end, if the message through its end still fits
    pub inserted : (u : Under) (xs ys : List (List ℕ)) (c e t t' : List ℕ) (q : Q Sighting) → Each Record (xs ++ ys) → End e → SameTail u t t'
        → Whole c → knows u.profile (kind c) ≡ false → critical c ≡ false → length (flat (xs ++ (c ∷ ys))) + length e ≤ u.limit
        → reading (message (xs ++ ys) e t) u ≡ accepted q
        → Showing (message (xs ++ (c ∷ ys)) e t') u (shows (message (xs ++ ys) e t) q)
    -- with the bit set, under that condition: refusal 3, at that record
    pub inserted_critical : (u : Under) (xs ys : List (List ℕ)) (c e t t' : List ℕ) (q : Q Sighting) → Each Record (xs ++ ys) → End e
        → Whole c → knows u.profile (kind c) ≡ false → critical c ≡ true → length (flat (xs ++ (c ∷ ys))) + length e ≤ u.limit
        → reading (message (xs ++ ys) e t) u ≡ accepted q
        → reading (message (xs ++ (c ∷ ys)) e t') u ≡ refused (record { number = 3; beside = nothing; place = length (flat xs) })

-- ---- cookies and denied names

by_keeps : (k : ℕ) (X : ℕ → Type 0) → keeps k ≡ true → X 5 → X 13 → X k
by_keeps k X s cookies names = go (eqb k 5) refl s
  where
    go : (t : Bool) → eqb k 5 ≡ t → (t || eqb k 13) ≡ true → X k
    go true e h = subst X (sym (eqb-true k 5 e)) cookies
    go false e h = subst X (sym (eqb-true k 13 h)) names

-- ---- every reader that is a table f over the known kinds, which ends no message itself: kind 0 does

module _ (f : ℕ → List ℕ → Act) (once : ℕ → Bool) (goes : (k : ℕ) (b : List ℕ) → f k b ≡ ends → ⊥) (P : Profile) where
  abbrev R : Reader
  R = table_reader f once P

  abbrev allowed : List ℕ → Bool
  allowed c = allows (asks_of P (kind c)) (critical c) (there c)

  known_act : (c : List ℕ) → knows P (kind c) ≡ true → act_in R c ≡ cond (allowed c) (cond (eqb (kind c) 0) ends (f (kind c) (there c))) (refuses 18 nothing)
  unfolding act_in act_by
  known_act c k = rw k

  unknown_act : (u : List ℕ) → knows P (kind u) ≡ false → act_in R u ≡ cond (critical u) (refuses 3 nothing) passes
  unfolding act_in act_by
  unknown_act u k = rw (unknown_allows P (kind u) (critical u) (there u) k, k)

  unknown_faultless : (u : List ℕ) → knows P (kind u) ≡ false → Whole u → fault_in R u ≡ 0
  unknown_faultless u k w = whole_faultless R u (rw (unknown_shape P (kind u) k) unknown) w

  -- kind 0 ends a message, unless the profile does not allow it ..
  pub zero_act : (c : List ℕ) → kind c ≡ 0 → act_in R c ≡ cond (allowed c) ends (refuses 18 nothing)
  zero_act c z = known_act c (ap (knows P) z ∙ zero_known P) ∙ rw z

  zero_either : (c : List ℕ) → kind c ≡ 0 → (act_in R c ≡ ends) ⊎ (act_in R c ≡ refuses 18 nothing)
  zero_either c z = go (allowed c) refl
    where
      go : (b : Bool) → allowed c ≡ b → (act_in R c ≡ ends) ⊎ (act_in R c ≡ refuses 18 nothing)
      go true e = inl (zero_act c z ∙ rw e)
      go false e = inr (zero_act c z ∙ rw e)

  zero_faultless : (c : List ℕ) → kind c ≡ 0 → Whole c → fault_in R c ≡ 0
  zero_faultless c z w = whole_faultless R c (rw (z, zero_shape P) skipped) w

  -- .. and no other does
  pub ends_zero : (c : List ℕ) → act_in R c ≡ ends → kind c ≡ 0
  ends_zero c h = go (knows P (kind c)) refl
    where
      of_known : (b : Bool) → allowed c ≡ b → (z : Bool) → eqb (kind c) 0 ≡ z → cond b (cond z ends (f (kind c) (there c))) (refuses 18 nothing) ≡ ends → kind c ≡ 0
      of_known b a true e g = eqb-true (kind c) 0 e
      of_known true a false e g = absurd (goes (kind c) (there c) g)
      of_known false a false e g = cc

      of_unknown : (b : Bool) → cond b (refuses 3 nothing) passes ≡ ends → kind c ≡ 0
      of_unknown true g = cc
      of_unknown false g = cc

      go : (t : Bool) → knows P (kind c) ≡ t → kind c ≡ 0
      go true k = of_known (allowed c) refl (eqb (kind c) 0) refl (sym (known_act c k) ∙ h)
      go false k = of_unknown (critical c) (sym (unknown_act c k) ∙ h)

  -- of a known kind but 0 of which nothing more is asked, what is noted of its records is told by their bodies alone, whatever their bits
  abbrev noting : ℕ → List (List ℕ) → List (List ℕ)
  noting k [] = []
  noting k (b ∷ l) = cond (is_notes (f k b)) (b ∷ noting k l) (noting k l)

  bodies_noted : (k : ℕ) → knows P k ≡ true → ((bit : Bool) (b : List ℕ) → allows (asks_of P k) bit b ≡ true) → eqb k 0 ≡ false → (cs : List (List ℕ)) → bodies_of R k cs ≡ noting k (bodies k cs)
  bodies_noted k h p z [] = refl
  bodies_noted k h p z (c ∷ cs) = go (eqb (kind c) k) refl (bodies_noted k h p z cs)
    where
      by_body : (t : Bool) → is_notes (f k (there c)) ≡ t → bodies_of R k cs ≡ noting k (bodies k cs)
          → cond t (there c ∷ bodies_of R k cs) (bodies_of R k cs) ≡ cond t (there c ∷ noting k (bodies k cs)) (noting k (bodies k cs))
      by_body true q i = rw i
      by_body false q i = i

      go : (t : Bool) → eqb (kind c) k ≡ t → bodies_of R k cs ≡ noting k (bodies k cs)
          → bodies_of R k (c ∷ cs) ≡ noting k (cond t (there c ∷ bodies k cs) (bodies k cs))
      go true q i =
          let e = eqb-true (kind c) k q in
          let l : allowed c ≡ true = ap (λ (j : ℕ). allows (asks_of P j) (critical c) (there c)) e ∙ p (critical c) (there c) in
          let a : act_in R c ≡ f k (there c) = known_act c (ap (knows P) e ∙ h) ∙ rw (l, e, z) in
          rw (q, a, and-true) (by_body (is_notes (f k (there c))) refl i)
      go false q i = rw (q, and-false (noted R c)) i

  -- of an unknown one none is noted
  bodies_unknown : (k : ℕ) → knows P k ≡ false → (cs : List (List ℕ)) → bodies_of R k cs ≡ []
  bodies_unknown k h [] = refl
  bodies_unknown k h (c ∷ cs) = go (eqb (kind c) k) refl (bodies_unknown k h cs)
    where
      quiet : (b : Bool) → is_notes (cond b (refuses 3 nothing) passes) ≡ false
      quiet true = refl
      quiet false = refl

      go : (t : Bool) → eqb (kind c) k ≡ t → bodies_of R k cs ≡ [] → bodies_of R k (c ∷ cs) ≡ []
      go true q i =
          let n : noted R c ≡ false = ap is_notes (unknown_act c (ap (knows P) (eqb-true (kind c) k q) ∙ h)) ∙ quiet (critical c) in
          rw n i
      go false q i = rw (q, and-false (noted R c)) i

  bodies_same : (k : ℕ) → ((bit : Bool) (b : List ℕ) → allows (asks_of P k) bit b ≡ true) → eqb k 0 ≡ false → (cs cs' : List (List ℕ)) → bodies k cs ≡ bodies k cs' → bodies_of R k cs ≡ bodies_of R k cs'
  bodies_same k p z cs cs' x = go (knows P k) refl
    where
      go : (t : Bool) → knows P k ≡ t → bodies_of R k cs ≡ bodies_of R k cs'
      go true h = bodies_noted k h p z cs ∙ ap (noting k) x ∙ sym (bodies_noted k h p z cs')
      go false h = bodies_unknown k h cs ∙ sym (bodies_unknown k h cs')

  inner_of : (c : List ℕ) → Record c → Inner R c
  inner_of c r = (r.0, λ h. r.1 (ends_zero c h))

  -- a record that the walk passes is not of kind 0
  of_past : (c : List ℕ) → Past R c → Record c
  of_past c i = (i.0, λ z. go (zero_either c z))
    where
      go : (act_in R c ≡ ends) ⊎ (act_in R c ≡ refuses 18 nothing) → ⊥
      go (inl a) = true≢false (sym i.1 ∙ ap is_calm a)
      go (inr a) = true≢false (sym i.1 ∙ ap is_calm a)

  of_last : (e : List ℕ) → Last R e → End e
  of_last e l = (l.0, ends_zero e l.2)

  -- each message that is accepted is records, an end record through which it fits the limit, and a tail
  accepted_is : (D : Judge) (m : List ℕ) (u : Under) (q : D.Q Sighting) → read_as R D m u ≡ accepted q → Parts Record End m u.limit
  accepted_is D m u q h = record {
    front = p.front;
    last = p.last;
    tail = p.tail;
    joined = p.joined;
    each = each_map of_past p.front p.each;
    ends = of_last p.last p.ends;
    fits = p.fits;
  }
    where
      p : Parts (Past R) (Last R) m u.limit
      p = accepted_parts R D m u q h

  module _ (D : Judge) (L : Lawful R D) (u : Under) where
    -- the end record of a message that is accepted ends it
    pub last_of : (cs : List (List ℕ)) (e t : List ℕ) (q : D.Q Sighting) → Each Record cs → End e → read_as R D (message cs e t) u ≡ accepted q → Last R e
    last_of cs e t q i l h = go (zero_either e l.1)
      where
        inner : Each (Inner R) cs
        inner = each_map inner_of cs i

        faultless : fault_in R e ≡ 0
        faultless = zero_faultless e l.1 l.0

        go : (act_in R e ≡ ends) ⊎ (act_in R e ≡ refuses 18 nothing) → Last R e
        go (inl a) = (l.0, faultless, a)
        go (inr a) =
            let r = reached_passed R [] 0 u.limit cs e t inner l.0 (accepted_reached R D (message cs e t) u q h) in
            let x = sym (read_refused R D u cs e t 18 nothing inner r.1 l.0 faultless a r.0) ∙ h in
            let o : ◌≡◌ {A = ℕ} 0 1 = cc in
            absurd (omega arith)

    -- what is accepted is good, in the sense of the laws, and nothing follows that may not
    pub good : (cs : List (List ℕ)) (e t : List ℕ) (q : D.Q Sighting) → Each Record cs → End e → read_as R D (message cs e t) u ≡ accepted q
        → Good R D L u cs e (contents D (message cs e t) q)
    good cs e t q i l h = accepted_good R D L u cs e t (each_map inner_of cs i) (last_of cs e t q i l h) q h

    pub silent : (cs : List (List ℕ)) (e t : List ℕ) (q : D.Q Sighting) → Each Record cs → End e → read_as R D (message cs e t) u ≡ accepted q → Silent R D L u cs e t
    silent cs e t q i l h = accepted_silent R D L u cs e t (each_map inner_of cs i) (last_of cs e t q i l h) q h

    -- behind other records: any tail, or that of the message where nothing may follow
    tail_silent : (cs : List (List ℕ)) (e t t' : List ℕ) → (is_final P ≡ true → t' ≡ t) → Silent R D L u cs e t → Silent R D L u cs e t'
    tail_silent cs e t t' w z = go (is_final P) refl
      where
        go : (b : Bool) → is_final P ≡ b → Silent R D L u cs e t'
        go true h = subst (λ (s : List ℕ). Silent R D L u cs e s) (sym (w h)) z
        go false h = silent_any R D L u e t' cs h

    -- the records before the end record in another order, denied names keeping theirs and cookies theirs
    reordered : (cs cs' : List (List ℕ)) (e t t' : List ℕ) (q : D.Q Sighting) → Each Record cs → End e → Permᴰ cs cs' → (is_final P ≡ true → t' ≡ t)
        → bodies 13 cs ≡ bodies 13 cs' → bodies 5 cs ≡ bodies 5 cs' → read_as R D (message cs e t) u ≡ accepted q
        → Shows R D (message cs' e t') u (contents D (message cs e t) q)
    reordered cs cs' e t t' q i l d w names cookies h =
        good_shows R D L u e _ cs' t' (reorder R D L u e _ cs cs' d kept (good cs e t q i l h))
        (tail_silent cs' e t t' w (silent_same R D L u e t cs cs' (flat_perm d) (silent cs e t q i l h)))
      where
        kept : (k : ℕ) → keeps k ≡ true → bodies_of R k cs ≡ bodies_of R k cs'
        kept k s = by_keeps k (λ (j : ℕ). bodies_of R j cs ≡ bodies_of R j cs') s (bodies_same 5 (cookie_allows P) refl cs cs' cookies) (bodies_same 13 (denied_allows P) refl cs cs' names)

    -- a whole record of unknown kind, its bit clear, just before any record up to the end, if the message through its end still fits
    inserted : (xs ys : List (List ℕ)) (c e t t' : List ℕ) (q : D.Q Sighting) → Each Record (xs ++ ys) → End e → (is_final P ≡ true → t' ≡ t)
        → Whole c → knows P (kind c) ≡ false → critical c ≡ false → length (flat (xs ++ (c ∷ ys))) + length e ≤ u.limit
        → read_as R D (message (xs ++ ys) e t) u ≡ accepted q
        → Shows R D (message (xs ++ (c ∷ ys)) e t') u (contents D (message (xs ++ ys) e t) q)
    inserted xs ys c e t t' q i l v w k b f h =
        let g = good (xs ++ ys) e t q i l h in
        let longer : length (flat (xs ++ ys)) < length (flat (xs ++ (c ∷ ys))) =
        omega (arith, w, simp length-append at (ap length (flat_append xs ys)), simp length-append at (ap length (flat_append xs (c ∷ ys)))) in
        good_shows R D L u e _ (xs ++ (c ∷ ys)) t' (insert_passed R D L u e _ xs ys c w (unknown_faultless c k w) g (unknown_act c k ∙ rw b) f)
        (tail_silent (xs ++ (c ∷ ys)) e t t' v (silent_longer R D L u e t (xs ++ ys) (xs ++ (c ∷ ys)) longer f (silent (xs ++ ys) e t q i l h)))

    -- with the bit set, under that condition: refusal 3, at that record
    inserted_critical : (xs ys : List (List ℕ)) (c e t t' : List ℕ) (q : D.Q Sighting) → Each Record (xs ++ ys) → End e
        → Whole c → knows P (kind c) ≡ false → critical c ≡ true → length (flat (xs ++ (c ∷ ys))) + length e ≤ u.limit
        → read_as R D (message (xs ++ ys) e t) u ≡ accepted q
        → read_as R D (message (xs ++ (c ∷ ys)) e t') u ≡ refused (record { number = 3; beside = nothing; place = length (flat xs) })
    inserted_critical xs ys c e t t' q i l w k b f h =
        let g = good (xs ++ ys) e t q i l h in
        let j = flat_append xs (c ∷ ys) in
        let fits : length (flat xs) + length c ≤ u.limit = omega (arith, simp length-append at (ap length j)) in
        rw (j, append_assoc, append_assoc c (flat ys) (e ++ t'))
        (insert_refused R D L u e _ xs ys c w (unknown_faultless c k w) g 3 nothing (message ys e t') (unknown_act c k ∙ rw b) fits)

module _ (f : ℕ → List ℕ → Act) (once : ℕ → Bool) (goes : (k : ℕ) (b : List ℕ) → f k b ≡ ends → ⊥) where
  pub ordered : (D : Judge) → ((P : Profile) → Lawful (table_reader f once P) D) → Ordered (read_by (table_reader f once) D) (contents D)
  ordered D L = record {
    accepted_is = λ m u q h. accepted_is f once goes u.profile D m u q h;
    reordered = λ u. reordered f once goes u.profile D (L u.profile) u;
    inserted = λ u. inserted f once goes u.profile D (L u.profile) u;
    inserted_critical = λ u. inserted_critical f once goes u.profile D (L u.profile) u;
  }
