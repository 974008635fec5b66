-- Demand 3 for replies: an accepted reply is records, an end record and a tail; its records in another order, or with a record more of unknown
-- kind and its bit clear, show the same bodies; with the bit set it is refusal 3 at that record. And each part of an accepted reply lies inside
-- the message.
-- Assumes nothing.
use mathlib.Core.Path.{◌≡◌, refl}
use mathlib.Core.List.{List, [], ◌∷◌}
use mathlib.Core.Bool.{Bool, true, false, cond, not}
use Prim.Native.Nat.{ℕ, ◌+◌, ◌≤◌}
use lib.ListN.{length}
use lib.Dec.{ltb, eqb}
use borrow.Author.Tests.{ltb-false}
use Rattle.layout.specs.declared.Profile.{Profile}
use Rattle.walk.specs.Walk.{Sighting}
use Rattle.wire.specs.Bytes.{number_at}
use Rattle.walk.specs.Judge.{Terms, Under, Verdict, some, with_first, of_kind, body_in, Answer, accepted}
use Rattle.walk.proofs.Demand3.{Ordered, ordered}
use Rattle.walk.proofs.Noted.{Inside, kind_inside}
use Rattle.walk.proofs.Verdicts as verdicts
use Rattle.walk.proofs.Verdicts.{accepted_held}
use Rattle.reply.specs.Reply.{act, once, reader, Sent, sent, not_sent, first_sent, Form, reply, map_form, decide, judging, reply_of}
use Rattle.reply.proofs.Lawful.{reply_goes, reply_lawful}

-- what is shown of an accepted reply: each part as the bytes that stand there
abbrev pub shows : List ℕ → Form Sighting → Form (List ℕ)
shows m q = map_form (body_in m) q

-- the definition, under what is asked
abbrev pub reading : List ℕ → Under → Answer Form
reading m u = reply_of u.profile m u.limit u.terms

pub reply_ordered : Ordered reading shows
unfolding reply_of
reply_ordered = ordered act once reply_goes judging reply_lawful

-- ---- what holds of every verdict that accepts, over records whose bodies lie inside N bytes

module _ (N : ℕ) (x : Terms) (l : ℕ → List Sighting) (i : (k : ℕ) → Inside N (l k)) (val : Sighting → List ℕ) (P : Form Sighting → Type 0)
    (at-reply : (p a : Sighting) → Inside N (p ∷ a ∷ l 5) → x.protocols (number_at (val p) 0) ≡ true → x.algorithms (number_at (val a) 0) ≡ true → length (l 5) ≤ x.room
    → P (reply p a (first_sent (l 6)) (first_sent (l 7)) (some (l 8)) (l 5))) where
  abbrev Held : Verdict Form Sighting → Type 0
  Held v = verdicts.Held judging P v

  held_if : (t : Bool) (v w : Verdict Form Sighting) → Held v → Held w → Held (cond t v w)
  held_if t v w p q = verdicts.held_if judging P t v w (λ e. p) (λ e. q)

  held_first : (k : ℕ) (v : Verdict Form Sighting) (f : Sighting → Verdict Form Sighting) → Held v
      → ((y : Sighting) → y.start + y.len ≤ N → Held (f y)) → Held (with_first (l k) v f)
  held_first k v f = verdicts.held_first judging P N (l k) v f (i k)

  -- where it is let in
  held_let : (t : Bool) (v w : Verdict Form Sighting) → Held v → (t ≡ true → Held w) → Held (cond (not t) v w)
  held_let true v w p q = q refl
  held_let false v w p q = p

  pub decide_held : verdicts.Held judging P (decide x val l)
  unfolding decide
  decide_held =
      held_first 1 _ _ tt
      (λ p hp. held_if (eqb (length (val p)) 0) _ _ tt
      (held_first 4 _ _ tt
      (λ a ha. held_if (eqb (length (val a)) 0) _ _ tt
      (held_let (x.protocols (number_at (val p) 0)) _ _ tt
      (λ op. held_let (x.algorithms (number_at (val a) 0)) _ _ tt
      (λ oa. held_if (eqb (length (l 5)) 0) _ _ tt
      (verdicts.held_if judging P (ltb x.room (length (l 5))) _ _ (λ e. tt) (λ e. at-reply p a (hp, (ha, i 5)) op oa (ltb-false x.room (length (l 5)) e)))))))))

-- ---- where the parts of an accepted reply lie

abbrev pub InsideSent : ℕ → Sent Sighting → Type 0
InsideSent N not_sent = Unit {0}
InsideSent N (sent x) = x.start + x.len ≤ N

abbrev pub InsideForm : ℕ → Form Sighting → Type 0
InsideForm N (reply p a s t k c) = (p.start + p.len ≤ N) × (a.start + a.len ≤ N) × InsideSent N s × InsideSent N t × Inside N c

first_inside : (N : ℕ) (l : List Sighting) → Inside N l → InsideSent N (first_sent l)
first_inside N [] i = tt
first_inside N (x ∷ l) i = i.0

-- .. and what it names was offered
abbrev pub Offered : Terms → List ℕ → Form Sighting → Type 0
Offered x m (reply p a s t k c) = (x.protocols (number_at (body_in m p) 0) ≡ true) × (x.algorithms (number_at (body_in m a) 0) ≡ true)

module _ (P : Profile) (m : List ℕ) (n : ℕ) (x : Terms) (q : Form Sighting) where
  pub accepted_inside : reply_of P m n x ≡ accepted q → InsideForm (length m) q
  unfolding reply_of
  accepted_inside =
      accepted_held judging (InsideForm (length m)) (reader P) m (record { profile = P; limit = n; terms = x }) q
      (λ st i. let every : (k : ℕ) → Inside (length m) (of_kind k st) = λ k. kind_inside (length m) k st i in
      decide_held (length m) x (λ k. of_kind k st) every (body_in m) (InsideForm (length m))
      (λ p a h o u r. (h.0, h.1.0, first_inside (length m) (of_kind 6 st) (every 6), first_inside (length m) (of_kind 7 st) (every 7), h.1.1)))

  pub accepted_offered : reply_of P m n x ≡ accepted q → Offered x m q
  unfolding reply_of
  accepted_offered =
      accepted_held judging (Offered x m) (reader P) m (record { profile = P; limit = n; terms = x }) q
      (λ st i. decide_held (length m) x (λ k. of_kind k st) (λ k. kind_inside (length m) k st i) (body_in m) (Offered x m) (λ p a h o u r. (o, u)))
