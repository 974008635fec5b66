-- The two sorts of read keep what a read in pieces asks of them: each decides, and tells of its answer, by bodies that were found alone, and asks of the room for names or
-- cookies no more than whether it is enough. So they answer alike however their messages are cut.
-- Assumes nothing.
use mathlib.Core.Path.{◌≡◌, refl, sym, ap, ◌∙◌}
use mathlib.Core.List.{List, [], ◌∷◌, ◌++◌, map}
use mathlib.Core.Bool.{Bool, true, false, cond, not, ◌||◌}
use Prim.Native.Nat.{ℕ, zero, suc, ◌+◌, ◌≤◌}
use native.Mathlib.Omega.{arith}
use lib.ListN.{length, take, drop, length-drop}
use lib.Seq.{drop-append-le, take-append-le}
use lib.Dec.{ltb, eqb}
use borrow.Author.Tests.{le-ltb}
use Rattle.wire.specs.Bytes.{number_at}
use Rattle.nts.specs.Refusal.{Beside, nothing}
use Rattle.record.specs.Record.{kind, critical, size, there}
use Rattle.layout.specs.Profile.{asks_of, allows}
use Rattle.layout.specs.declared.Profile.{Profile}
use Rattle.walk.specs.Walk.{Act, ends, refuses, Reader, fault_in, Step, stops, goes, meet, judge, step, Sighting}
use Rattle.walk.specs.Table.{table_reader}
use Rattle.walk.specs.Shown.{slot_of}
use Rattle.walk.specs.Met.{Passing, halts, on, met_below, with_met, passing}
use Rattle.walk.specs.Judge as judging
use Rattle.walk.specs.Judge.{Terms, room_for, Under, Verdict, no, yes, some, with_first, body_in, read_by}
use Rattle.walk.proofs.Noted.{Inside}
use Rattle.walk.proofs.Demand3.{zero_act}
use Rattle.request.specs.Request as requests
use Rattle.request.proofs.Reader as request_reader
use Rattle.request.proofs.Order as request_order
use Rattle.request.proofs.Lawful.{request_goes}
use Rattle.reply.specs.Reply as replies
use Rattle.reply.proofs.Reader as reply_reader
use Rattle.reply.proofs.Order as reply_order
use Rattle.reply.proofs.Lawful.{reply_goes}
use Rattle.pieces.specs.Reads.{request_read, reply_read}
use Rattle.promises.proofs.Cutting.{Local}

-- ---- a body inside the message, and bytes behind the message

body_tail : (m t : List ℕ) (x : Sighting) → x.start + x.len ≤ length m → body_in (m ++ t) x ≡ body_in m x
body_tail m t x l =
    ap (take x.len) (drop-append-le x.start m t (omega arith)) ∙ take-append-le x.len (drop x.start m) t (omega (arith, length-drop x.start m))

bodies_tail : (m t : List ℕ) (l : List Sighting) → Inside (length m) l → map (body_in (m ++ t)) l ≡ map (body_in m) l
bodies_tail m t [] i = refl
bodies_tail m t (x ∷ l) i = rw (body_tail m t x i.0, bodies_tail m t l i.1)

-- a choice by the first record of a kind, in two ways that agree where it lies inside
first_same : {A : Type 0} (N : ℕ) (l : List Sighting) (v : A) (f g : Sighting → A) → Inside N l → ((x : Sighting) → x.start + x.len ≤ N → f x ≡ g x) → with_first l v f ≡ with_first l v g
first_same N [] v f g i h = refl
first_same N (x ∷ l) v f g i h = h x i.0

-- ---- what is accepted in one way is so in another

module _ {Q : Type 0 → Type 0} (q : Q Sighting) where
  if_yes : (t : Bool) (v w v' w' : Verdict Q Sighting) → (v ≡ yes q → v' ≡ yes q) → (w ≡ yes q → w' ≡ yes q) → cond t v w ≡ yes q → cond t v' w' ≡ yes q
  if_yes true v w v' w' f g e = f e
  if_yes false v w v' w' f g e = g e

  first_yes : (l : List Sighting) (v v' : Verdict Q Sighting) (f f' : Sighting → Verdict Q Sighting) → (v ≡ yes q → v' ≡ yes q) → ((x : Sighting) → f x ≡ yes q → f' x ≡ yes q)
      → with_first l v f ≡ yes q → with_first l v' f' ≡ yes q
  first_yes [] v v' f f' g h e = g e
  first_yes (x ∷ l) v v' f f' g h e = h x e

  -- as where it was let in
  let_yes : (t : Bool) (n : ℕ) (b : Beside) (v w : Verdict Q Sighting) → (v ≡ yes q → w ≡ yes q) → cond (not t) (no n b) v ≡ yes q → w ≡ yes q
  let_yes true n b v w f e = f e
  let_yes false n b v w f e = let z : ◌≡◌ {A = ℕ} 0 1 = cc in absurd (omega arith)

  -- as with less room, so with enough
  room_yes : (room room' n : ℕ) (v : Verdict Q Sighting) → n ≤ room' → cond (ltb room n) (no 7 nothing) v ≡ yes q → cond (ltb room' n) (no 7 nothing) v ≡ yes q
  room_yes room room' n v l e = rw (le-ltb room' n l) (go (ltb room n) e)
    where
      go : (t : Bool) → cond t (no 7 nothing) v ≡ yes q → v ≡ yes q
      go true x = let z : ◌≡◌ {A = ℕ} 0 1 = cc in absurd (omega arith)
      go false x = x

-- ---- with a record of kind 0 the walk stops: it ends the message, or the profile does not allow it

module _ (f : ℕ → List ℕ → Act) (once : ℕ → Bool) (on-goes : (k : ℕ) (b : List ℕ) → f k b ≡ ends → ⊥) (P : Profile) where
  abbrev R : Reader
  R = table_reader f once P

  zero_halts : (e : List ℕ) → kind e ≡ 0 → (met : ℕ) → passing R met e ≡ halts
  unfolding passing step judge meet
  zero_halts e z met = go (fault_in R e)
    where
      by : (a : Act) (t : Bool) → a ≡ cond t ends (refuses 18 nothing)
          → ◌≡◌ {A = Passing} (elim (meet R (met_below met 15) 0 (kind e) (size e) a) as (λ (y : Step). Passing) [ stops o ↦ halts | goes st ↦ on (with_met met (slot_of R.shape (kind e))) ]) halts
      by a true h = rw h
      by a false h = rw h

      go : (n : ℕ) → ◌≡◌ {A = Passing} (elim (judge R (met_below met 15) 0 e n) as (λ (y : Step). Passing) [ stops o ↦ halts | goes st ↦ on (with_met met (slot_of R.shape (kind e))) ]) halts
      go zero = by _ (allows (asks_of P (kind e)) (critical e) (there e)) (zero_act f once on-goes P e z)
      go (suc n) = refl

-- ---- requests

module _ (m t : List ℕ) where
  fixed_tail : (u x a p : Sighting) (k : Bool) → x.start + x.len ≤ length m → a.start + a.len ≤ length m → p.start + p.len ≤ length m
      → requests.fixed_by (body_in (m ++ t)) u x a p k ≡ requests.fixed_by (body_in m) u x a p k
  unfolding requests.fixed_by
  fixed_tail u x a p k hx ha hp = rw (body_tail m t x hx, body_tail m t a ha, body_tail m t p hp)

  request_tail : (room : ℕ) (l : ℕ → List Sighting) → ((k : ℕ) → Inside (length m) (l k)) → requests.decide room (body_in (m ++ t)) l ≡ requests.decide room (body_in m) l
  unfolding requests.decide
  request_tail room l i =
      ap (cond (some (l 9) || some (l 10)) (requests.support_by l))
      (first_same (length m) (l 12) (requests.exchange_by room l) _ _ (i 12)
      (λ x hx. first_same (length m) (l 14) _ _ _ (i 14)
      (λ u hu. first_same (length m) (l 1) _ _ _ (i 1)
      (λ p hp. first_same (length m) (l 4) _ _ _ (i 4)
      (λ a ha. fixed_tail u x a p (some (l 8)) hx ha hp)))))

  form_tail : (q : requests.Form Sighting) → request_order.InsideForm (length m) q → requests.told_form (m ++ t) q ≡ requests.told_form m q
  form_tail (requests.key_exchange p a d) i = refl
  form_tail (requests.fixed_key u x a p k) i = rw (body_tail m t a i.1.1.0, body_tail m t p i.1.1.1.0)
  form_tail (requests.support u p a k) i = refl

  map_tail : (q : requests.Form Sighting) → request_order.InsideForm (length m) q → requests.map_form (body_in (m ++ t)) q ≡ requests.map_form (body_in m) q
  map_tail (requests.key_exchange p a d) i = rw (body_tail m t p i.0, body_tail m t a i.1.0, bodies_tail m t d i.1.1)
  map_tail (requests.fixed_key u x a p k) i =
      rw (body_tail m t u i.0, body_tail m t x i.1.0, body_tail m t a i.1.1.0, body_tail m t p i.1.1.1.0)
  map_tail (requests.support u p a k) i = rw (body_tail m t u i.0)

  request_shown : (u : Under) (q : requests.Form Sighting) → read_by requests.reader requests.judging m u ≡ judging.accepted q
      → requests.map_form (body_in (m ++ t)) q ≡ requests.map_form (body_in m) q
  unfolding requests.request
  request_shown u q e = map_tail q (request_order.accepted_inside u.profile m u.limit u.terms.room q (sym (request_order.room_alone m u) ∙ e))

  request_told : (u : Under) → requests.told_by (m ++ t) (read_by requests.reader requests.judging m u) ≡ requests.told_by m (read_by requests.reader requests.judging m u)
  unfolding requests.request
  request_told u = go (read_by requests.reader requests.judging m u) refl
    where
      go : (x : judging.Answer requests.Form) → read_by requests.reader requests.judging m u ≡ x → requests.told_by (m ++ t) x ≡ requests.told_by m x
      go (judging.refused r) e = refl
      go (judging.accepted q) e = form_tail q (request_order.accepted_inside u.profile m u.limit u.terms.room q (sym (request_order.room_alone m u) ∙ e))

request_roomy : (room room' : ℕ) (l : ℕ → List Sighting) (val : Sighting → List ℕ) (q : requests.Form Sighting) → ((k : ℕ) → length (l k) ≤ room')
    → requests.decide room val l ≡ yes q → requests.decide room' val l ≡ yes q
unfolding requests.decide
request_roomy room room' l val q few =
    if_yes q (some (l 9) || some (l 10)) _ _ _ _ (λ e. e)
    (first_yes q (l 12) _ _ _ _
    (first_yes q (l 1) _ _ _ _ (λ e. e) (λ p. first_yes q (l 4) _ _ _ _ (λ e. e) (λ a. room_yes q room room' (length (l 13)) (yes (requests.key_exchange p a (l 13))) (few 13))))
    (λ x e. e))

pub request_local : Local request_read
request_local = record {
  rules = requests.rules;
  table = request_reader.table_reader_lem;
  decides = λ u l m t i. request_tail m t u.terms.room l i;
  tells = λ m t u. request_told m t u;
  shows = λ m t u q e. request_shown m t u q e;
  ends = λ P e z met. zero_halts requests.act requests.once request_goes P e z met;
  refuses = λ m m' r. refl;
  roomy = λ P n x room l val q few e. request_roomy x.room room l val q few e;
}

-- ---- replies

module _ (m t : List ℕ) where
  reply_tail : (x : Terms) (l : ℕ → List Sighting) → ((k : ℕ) → Inside (length m) (l k)) → replies.decide x (body_in (m ++ t)) l ≡ replies.decide x (body_in m) l
  unfolding replies.decide
  reply_tail x l i =
      first_same (length m) (l 1) _ _ _ (i 1)
      (λ p hp. rw (body_tail m t p hp)
      (ap (cond (eqb (length (body_in m p)) 0) (no 13 nothing))
      (first_same (length m) (l 4) _ _ _ (i 4) (λ a ha. rw (body_tail m t a ha)))))

  sent_tail : (s : replies.Sent Sighting) → reply_order.InsideSent (length m) s
      → replies.map_sent (λ (x : Sighting). number_at (body_in (m ++ t) x) 0) s ≡ replies.map_sent (λ (x : Sighting). number_at (body_in m x) 0) s
  sent_tail replies.not_sent i = refl
  sent_tail (replies.sent x) i = rw (body_tail m t x i)

  reply_form_tail : (q : replies.Form Sighting) → reply_order.InsideForm (length m) q → replies.told_form (m ++ t) q ≡ replies.told_form m q
  reply_form_tail (replies.reply p a s n k c) i = rw (body_tail m t p i.0, body_tail m t a i.1, sent_tail n i.3)

  sent_body : (s : replies.Sent Sighting) → reply_order.InsideSent (length m) s → replies.map_sent (body_in (m ++ t)) s ≡ replies.map_sent (body_in m) s
  sent_body replies.not_sent i = refl
  sent_body (replies.sent x) i = ap replies.sent (body_tail m t x i)

  reply_map_tail : (q : replies.Form Sighting) → reply_order.InsideForm (length m) q → replies.map_form (body_in (m ++ t)) q ≡ replies.map_form (body_in m) q
  reply_map_tail (replies.reply p a s n k c) i =
      rw (body_tail m t p i.0, body_tail m t a i.1, sent_body s i.2, sent_body n i.3, bodies_tail m t c i.4)

  reply_shown : (u : Under) (q : replies.Form Sighting) → read_by replies.reader replies.judging m u ≡ judging.accepted q
      → replies.map_form (body_in (m ++ t)) q ≡ replies.map_form (body_in m) q
  unfolding replies.reply_of
  reply_shown u q e = reply_map_tail q (reply_order.accepted_inside u.profile m u.limit u.terms q e)

  reply_told : (u : Under) → replies.told_by (m ++ t) (read_by replies.reader replies.judging m u) ≡ replies.told_by m (read_by replies.reader replies.judging m u)
  unfolding replies.reply_of
  reply_told u = go (read_by replies.reader replies.judging m u) refl
    where
      go : (x : judging.Answer replies.Form) → read_by replies.reader replies.judging m u ≡ x → replies.told_by (m ++ t) x ≡ replies.told_by m x
      go (judging.refused r) e = refl
      go (judging.accepted q) e = reply_form_tail q (reply_order.accepted_inside u.profile m u.limit u.terms q e)

reply_roomy : (x : Terms) (room : ℕ) (l : ℕ → List Sighting) (val : Sighting → List ℕ) (q : replies.Form Sighting) → ((k : ℕ) → length (l k) ≤ room)
    → replies.decide x val l ≡ yes q → replies.decide (room_for room) val l ≡ yes q
unfolding replies.decide
reply_roomy x room l val q few =
    first_yes q (l 1) _ _ _ _ (λ e. e)
    (λ p. if_yes q (eqb (length (val p)) 0) _ _ _ _ (λ e. e)
    (first_yes q (l 4) _ _ _ _ (λ e. e)
    (λ a. if_yes q (eqb (length (val a)) 0) _ _ _ _ (λ e. e)
    (let_yes q (x.protocols (number_at (val p) 0)) _ _ _ _
    (let_yes q (x.algorithms (number_at (val a) 0)) _ _ _ _
    (if_yes q (eqb (length (l 5)) 0) _ _ _ _ (λ e. e)
    (room_yes q x.room room (length (l 5)) _ (few 5))))))))

pub reply_local : Local reply_read
reply_local = record {
  rules = replies.rules;
  table = reply_reader.table_reader_lem;
  decides = λ u l m t i. reply_tail m t u.terms l i;
  tells = λ m t u. reply_told m t u;
  shows = λ m t u q e. reply_shown m t u q e;
  ends = λ P e z met. zero_halts replies.act replies.once reply_goes P e z met;
  refuses = λ m m' r. refl;
  roomy = λ P n x room l val q few e. reply_roomy x room l val q few e;
}
