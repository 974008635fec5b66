-- A whole request: the finding, the decision from it and the table, put together; and the second call's test.
-- Assumes nothing.
use mathlib.Core.Path.{◌≡◌, refl, sym, ap, subst, ◌∙◌}
use mathlib.Core.List.{List, []}
use mathlib.Core.Bool.{Bool, true, false, cond}
use Prim.Native.Nat.{ℕ, ◌-◌, ◌<◌, ◌≤◌}
use native.Mathlib.Omega.{arith}
use lib.ListN.{length, take, drop, length-take}
use Rattle.nts.specs.declared.NtsError.{NtsError}
use Rattle.nts.specs.Refusal.{nothing}
use Rattle.layout.specs.Profile.{knows}
use Rattle.layout.specs.declared.Profile.{Profile}
use Rattle.layout.specs.declared.Profile.TheVariants.{Usual}
use Rattle.layout.proofs.Profiles.{unknown_allows, denied_allows}
use Rattle.walk.specs.Walk.{passes, notes, refuses, Sighting, Outcome, stopped, ended, walked}
use Rattle.walk.specs.Table.{act_by}
use Rattle.walk.specs.Rules.{Rules}
use Rattle.walk.specs.Judge as judge
use Rattle.walk.specs.Judge.{Verdict, no, yes, room_for, Under, of_kind, body_in, placed, finish, read_as}
use Rattle.walk.specs.Found.{told_in, place_of}
use Rattle.walk.specs.Finding.{Found, found_by, same_found, told_finding}
use Rattle.walk.specs.Code.{Fits}
use Rattle.walk.specs.declared.Stop.TheVariants as stop
use Rattle.walk.specs.declared.Finding.{Finding}
use Rattle.walk.proofs.Behind.{walked_ended}
use Rattle.walk.proofs.Unnoted.{walk_unnoted}
use Rattle.walk.proofs.Verdicts.{Held}
use Rattle.walk.proofs.Noted.{kind_inside, walk_inside}
use Rattle.walk.proofs.Telling.{found_limit, found_place}
use Rattle.walk.proofs.Answered.{read_refused, ended_fits, told_ended}
use Rattle.places.specs.Places.{room_of, Fills}
use Rattle.places.specs.declared.Filled.{Filled}
use Rattle.places.proofs.Walked.{table_notes}
use Rattle.places.proofs.Stored.{stop_inside, none_stored, all_stored}
use Rattle.request.specs.Request.{rules, act, once, reader, Form, key_exchange, fixed_key, support, decide, judging, request, told_by, told_answer, names_of, table_after, decided, Reads, Decides}
use Rattle.request.specs.Code.{denied_in}
use Rattle.request.specs.declared.Answer.{Answer}
use Rattle.request.specs.declared.Answer.TheVariants as answer
use Rattle.request.proofs.Reader.{table_reader_lem}
use Rattle.request.proofs.Decided.{decided_like}
use Rattle.request.proofs.Order.{decide_held}

-- ---- the decision from the walk's own finding

module _ (P : Profile) (m : List ℕ) (f : Finding) (h : told_finding f ≡ found_by (reader P) m f.limit) where
  abbrev n : ℕ
  n = f.limit

  abbrev table : Rules
  table = record { profile = P; entries = rules }

  -- its place is that of the record that stopped the walk
  pub place_is : f.place ≡ place_of (walked (reader P) (take n m))
  place_is = found_place (reader P) m n f h

  -- which lies inside the message
  pub place_inside : f.place ≤ length m
  place_inside = stop_inside (reader P) m n f.place place_is

  pub ended_fit : f.stop ≡ stop.End → Fits rules (length m) f.cells
  ended_fit = ended_fits table (reader P) (table_reader_lem P) m (record { profile = P; limit = n; terms = room_for 0 }) f h

  module _ (room : ℕ) where
    abbrev u : Under
    u = record { profile = P; limit = n; terms = room_for room }

    pub decided_refused : (e : NtsError) → f.stop ≡ stop.Refused e → (x : Answer) → x ≡ answer.Refused (record { error = e; place = f.place }) → told_answer x ≡ told_by m (request P m n room)
    unfolding request
    decided_refused e q x a = ap told_answer a ∙ ap (told_by m) (sym (read_refused table (reader P) (table_reader_lem P) m u f h judging e q))

    pub decided_ended : f.stop ≡ stop.End → (x : Answer) → told_answer x ≡ told_by m (placed f.place (decide room (body_in m) (told_in f.cells))) → told_answer x ≡ told_by m (request P m n room)
    unfolding request
    decided_ended q x a = a ∙ told_ended table (reader P) (table_reader_lem P) m u f h judging (told_by m) (decided_like m f.place room) q

-- ---- the table

-- an answer tells how many names go into it
denied_are : (m : List ℕ) (x : judge.Answer Form) → denied_in (told_by m x) ≡ length (names_of x)
denied_are m (judge.refused r) = refl
denied_are m (judge.accepted (key_exchange p a d)) = refl
denied_are m (judge.accepted (fixed_key u x a p k)) = refl
denied_are m (judge.accepted (support u p a k)) = refl

-- a kind that the profile does not know is not noted
pub never_notes : (P : Profile) (k : ℕ) → knows P k ≡ false → (bit : Bool) (b : List ℕ) → (reader P).act k bit b ≡ notes → ⊥
unfolding act_by
never_notes P k h bit b e = go bit (rw (unknown_allows P k bit b h, h) at e)
  where
    go : (c : Bool) → cond c (refuses 3 nothing) passes ≡ notes → ⊥
    go true z = let o : ◌≡◌ {A = ℕ} 0 1 = cc in omega arith
    go false z = let o : ◌≡◌ {A = ℕ} 0 1 = cc in omega arith

-- a profile that does not know denied names has none
pub no_names : (P : Profile) (m : List ℕ) (n room : ℕ) → knows P 13 ≡ false → names_of (request P m n room) ≡ []
unfolding request read_as finish
no_names P m n room h = go (walked (reader P) (take n m)) refl
  where
    u : Under
    u = record { profile = P; limit = n; terms = room_for room }

    by_verdict : (at : ℕ) (l : ℕ → List Sighting) → l 13 ≡ [] → (v : Verdict Form Sighting) → Held judging (λ q. names_of (judge.accepted q) ≡ []) v → names_of (placed at v) ≡ []
    by_verdict at l e (no k b) q = refl
    by_verdict at l e (yes q) z = z

    go : (o : Outcome) → walked (reader P) (take n m) ≡ o → names_of (finish judging u m o) ≡ []
    go (stopped r) e = refl
    go (ended at next st) e =
        let w = walked_ended (reader P) (take n m) at next st e in
        let none : of_kind 13 st ≡ [] = walk_unnoted (reader P) 13 (never_notes P 13 h) [] 0 0 (take n m) at next st w in
        let i = walk_inside (reader P) [] 0 0 (take n m) (length m) at next st (simp length-take (omega arith)) tt w in
        by_verdict at (λ k. of_kind k st) none (decide room (body_in m) (λ k. of_kind k st))
        (decide_held (length m) room (λ k. of_kind k st) (λ k. kind_inside (length m) k st i) (λ q. names_of (judge.accepted q) ≡ []) (λ u b p a k. refl) (λ u y a p b k. refl) (λ p a b q. none) (body_in m))

-- ---- what the reader answers, and the table it leaves

module _ (P : Profile) (m : List ℕ) (n : ℕ) (t : List ℕ) (x : Answer) (says : told_answer x ≡ told_by m (request P m n (room_of t))) where
  -- count is how many names the answer denies
  module _ (count : ℕ) (told : count ≡ denied_in (told_answer x)) where
    counted : count ≡ length (names_of (request P m n (room_of t)))
    counted = told ∙ ap denied_in says ∙ denied_are m (request P m n (room_of t))

    pub reads_none : count ≡ 0 → Reads P m n t x t
    unfolding table_after
    reads_none e = record { says = says; left = none_stored (names_of (request P m n (room_of t))) t (sym counted ∙ e) }

    -- they are the denied names noted, where there is room, and are put into the table from the bytes that the walk covered; a profile that does not know them notes none
    pub reads_names : n < 65536 → (count ≡ 0 → ⊥) → (place : ℕ) → place ≡ place_of (walked (reader P) (take n m)) → (r : Filled) (t' : List ℕ) → Fills 13 count (take (place - 0) (drop 0 m)) t r t' → Reads P m n t x t'
    unfolding table_after request act once
    reads_names l h place at r t' f = go (knows P 13) refl
      where
        go : (b : Bool) → knows P 13 ≡ b → Reads P m n t x t'
        go true k =
            let always = table_notes P act 13 (λ z. omega arith) k (denied_allows P) (λ b. refl) in
            record {
              says = says;
              left =
                  all_stored (reader P) 13 always refl judging names_of (λ r. refl) P m n (room_for (room_of t)) t
                  (λ st i. decide_held (length m) (room_of t) (λ k. of_kind k st) (λ k. kind_inside (length m) k st i) _ (λ u b p a k z. absurd (z refl)) (λ u y a p b k z. absurd (z refl)) (λ p a b q z. (refl, q)) (body_in m))
                  count counted h l place at r t' f;
            }
        go false k = absurd (h (counted ∙ ap length (no_names P m n (room_of t) k)))

-- ---- the second call: g is the finding that it is given, and f what the walk gives

module _ (m : List ℕ) (f : Finding) (g : Found) (t : List ℕ) (h : told_finding f ≡ found_by (reader Usual) m g.limit) (b : Bool) (same : b ≡ same_found (told_finding f) g) where
  pub decides_found : b ≡ true → (x : Answer) (t' : List ℕ) → Reads Usual m f.limit t x t' → Decides g m t x t'
  unfolding decided
  decides_found e x t' r =
      let l : f.limit ≡ g.limit = found_limit (reader Usual) m g.limit f h in
      let s : same_found (found_by (reader Usual) m g.limit) g ≡ true = ap (λ (y : Found). same_found y g) (sym h) ∙ sym same ∙ e in
      rw (s) (subst (λ (k : ℕ). Reads Usual m k t x t') l r)

  pub decides_other : b ≡ false → (x : Answer) → x ≡ answer.Refused (record { error = NtsError.InvalidValue; place = 0 }) → Decides g m t x t
  unfolding decided table_after
  decides_other e x a =
      let s : same_found (found_by (reader Usual) m g.limit) g ≡ false = ap (λ (y : Found). same_found y g) (sym h) ∙ sym same ∙ e in
      rw (s) (record { says = ap told_answer a; left = none_stored [] t refl })
