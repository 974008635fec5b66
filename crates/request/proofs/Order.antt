-- Demand 3 for requests: an accepted request is records, an end record and a tail; its records in another order, or with a record more of
-- unknown kind and its bit clear, show the same bodies; with the bit set it is refusal 3 at that record. And each part of an accepted request
-- lies inside the message.
-- Assumes nothing.
use mathlib.Core.Path.{◌≡◌, refl}
use mathlib.Core.List.{List, [], ◌∷◌}
use mathlib.Core.Bool.{Bool, cond, ◌&&◌, ◌||◌}
use Prim.Native.Nat.{ℕ, ◌+◌, ◌≤◌}
use lib.ListN.{length, take}
use lib.Dec.{ltb, eqb}
use borrow.Author.Tests.{ltb-false}
use Rattle.nts.specs.Refusal.{nothing}
use Rattle.nts.specs.Algorithm.{Described, unknown}
use Rattle.nts.specs.Algorithm as algorithm
use Rattle.walk.specs.Walk.{Sighting, Outcome, stopped, ended, walked}
use Rattle.walk.specs.Judge.{Under, Verdict, no, yes, some, with_first, of_kind, body_in, Answer, accepted, finish, read_as, read_by, room_for}
use Rattle.layout.specs.declared.Profile.{Profile}
use Rattle.walk.proofs.Demand3.{Ordered, ordered}
use Rattle.walk.proofs.Noted.{Inside, kind_inside}
use Rattle.walk.proofs.Verdicts as verdicts
use Rattle.walk.proofs.Verdicts.{accepted_held}
use Rattle.request.specs.Request.{act, once, reader, Form, key_exchange, fixed_key, support, map_form, keyed, fixed_by, decide, judging, request}
use Rattle.request.proofs.Lawful.{request_goes, request_lawful}

-- what is shown of an accepted request: each part as the bytes that stand there
abbrev pub shows : List ℕ → Form Sighting → Form (List ℕ)
shows m q = map_form (body_in m) q

-- the definition, under what is asked
abbrev pub reading : List ℕ → Under → Answer Form
reading m u = read_by reader judging m u

-- of what is lent it is asked for the room alone
pub room_alone : (m : List ℕ) (u : Under) → read_by reader judging m u ≡ request u.profile m u.limit u.terms.room
unfolding request read_as finish
room_alone m u = go (walked (reader u.profile) (take u.limit m))
  where
    go : (o : Outcome) → finish judging u m o ≡ finish judging (record { profile = u.profile; limit = u.limit; terms = room_for u.terms.room }) m o
    go (stopped r) = refl
    go (ended at next st) = refl

pub request_ordered : Ordered reading shows
request_ordered = ordered act once request_goes judging request_lawful

-- ---- what holds of every verdict that accepts, over records whose bodies lie inside N bytes

module _ (N room : ℕ) (l : ℕ → List Sighting) (i : (k : ℕ) → Inside N (l k)) (P : Form Sighting → Type 0)
    (at-support : (u : Sighting) → Inside N (u ∷ []) → (p a k : Bool) → P (support u p a k))
    (at-keys : (u x a p : Sighting) → Inside N (u ∷ x ∷ a ∷ p ∷ []) → (k : Bool) → P (fixed_key u x a p k))
    (at-exchange : (p a : Sighting) → Inside N (p ∷ a ∷ l 13) → length (l 13) ≤ room → P (key_exchange p a (l 13))) where
  abbrev Held : Verdict Form Sighting → Type 0
  Held v = verdicts.Held judging P v

  held_if : (t : Bool) (v w : Verdict Form Sighting) → Held v → Held w → Held (cond t v w)
  held_if t v w p q = verdicts.held_if judging P t v w (λ e. p) (λ e. q)

  held_first : (k : ℕ) (v : Verdict Form Sighting) (f : Sighting → Verdict Form Sighting) → Held v
      → ((x : Sighting) → x.start + x.len ≤ N → Held (f x)) → Held (with_first (l k) v f)
  held_first k v f = verdicts.held_first judging P N (l k) v f (i k)

  held_keyed : (d : Described) (n half : ℕ) (q : Form Sighting) → P q → Held (keyed d n half q)
  unfolding keyed
  held_keyed unknown n half q h = tt
  held_keyed (algorithm.known m size) n half q h = held_if (eqb half size) (yes q) (no 6 nothing) h tt

  held_fixed : (val : Sighting → List ℕ) (u x a p : Sighting) (k : Bool) → P (fixed_key u x a p k) → Held (fixed_by val u x a p k)
  unfolding fixed_by
  held_fixed val u x a p k h = held_if (eqb (length (val p)) 2 && eqb (length (val a)) 2) _ _ (held_keyed _ _ _ (fixed_key u x a p k) h) tt

  pub decide_held : (val : Sighting → List ℕ) → verdicts.Held judging P (decide room val l)
  unfolding decide
  decide_held val =
      held_if (some (l 9) || some (l 10)) _ _
      (held_first 14 _ _ tt (λ u hu. held_if (some (l 12) || some (l 1) || some (l 4)) _ _ tt (at-support u (hu, tt) _ _ _)))
      (held_first 12 _ _
      (held_first 1 _ _ tt
      (λ p hp. held_first 4 _ _ tt
      (λ a ha. verdicts.held_if judging P (ltb room (length (l 13))) _ _ (λ e. tt) (λ e. at-exchange p a (hp, (ha, i 13)) (ltb-false room (length (l 13)) e)))))
      (λ x hx. held_first 14 _ _ tt
      (λ u hu. held_first 1 _ _ tt
      (λ p hp. held_first 4 _ _ tt
      (λ a ha. held_fixed val u x a p (some (l 8)) (at-keys u x a p (hu, (hx, (ha, (hp, tt)))) _))))))

-- ---- where the parts of an accepted request lie

abbrev pub InsideForm : ℕ → Form Sighting → Type 0
InsideForm N (key_exchange p a d) = Inside N (p ∷ a ∷ d)
InsideForm N (fixed_key u x a p k) = Inside N (u ∷ x ∷ a ∷ p ∷ [])
InsideForm N (support u p a k) = Inside N (u ∷ [])

pub accepted_inside : (P : Profile) (m : List ℕ) (n room : ℕ) (q : Form Sighting) → request P m n room ≡ accepted q → InsideForm (length m) q
unfolding request
accepted_inside P m n room q =
    accepted_held judging (InsideForm (length m)) (reader P) m (record { profile = P; limit = n; terms = room_for room }) q
    (λ st i. decide_held (length m) room (λ k. of_kind k st) (λ k. kind_inside (length m) k st i) (InsideForm (length m)) (λ u h p a k. h) (λ u x a p h k. h) (λ p a h r. h) (body_in m))
