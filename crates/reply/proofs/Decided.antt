-- What is told of the decision asks of each kind no more than how many there are and the first, so it is the same over the records noted as over
-- what the cells tell; and over the cells it is the code's tests.
-- Assumes nothing.
use mathlib.Core.Path.{◌≡◌, refl, sym, ap, ◌∙◌}
use mathlib.Core.List.{List, [], ◌∷◌}
use mathlib.Core.Bool.{Bool, true, false, cond, not}
use Prim.Native.Nat.{ℕ, ◌+◌, ◌<◌, ◌≤◌}
use native.Mathlib.Omega.{arith}
use lib.ListN.{length, get_or}
use lib.Dec.{ltb, eqb}
use Rattle.wire.specs.Bytes.{number_at}
use Rattle.nts.specs.Refusal.{Beside, nothing, protocol, algorithm}
use Rattle.walk.specs.Walk.{Sighting}
use Rattle.walk.specs.Judge.{Verdict, Terms, with_first, body_in, part_of, placed}
use Rattle.walk.specs.Rules.{is_noted}
use Rattle.walk.specs.declared.Seen.{Seen}
use Rattle.walk.specs.Found.{entry_in, first_in, told_in}
use Rattle.walk.specs.Code.{Fits}
use Rattle.walk.proofs.Like.{Like, like_first, like_if, like_some, told_first, told_length}
use Rattle.places.proofs.Entries.{body_length, part_body}
use Rattle.reply.specs.Reply.{sent, not_sent, map_sent, first_sent, Form, rules, decide, Told, refused_with, told_by}
use Rattle.reply.specs.Code.{number_in, sent_in, accepted_in, cookies_for}

-- what is made of the first, if one was sent
sent_first : {B : Type 0} (f : Sighting → B) (l : List Sighting) → map_sent f (first_sent l) ≡ with_first l not_sent (λ x. sent (f x))
sent_first f [] = refl
sent_first f (x ∷ l) = refl

abbrev number_of : List ℕ → Sighting → ℕ
number_of m x = number_at (body_in m x) 0

-- the tests of cookies, over their count
pub cookies_is : (room at : ℕ) (m c : List ℕ) (p a n : ℕ) → n ≡ (entry_in c 5).count
    → cond (eqb n 0) (refused_with (record { number = 15; beside = nothing; place = at }))
    (cond (ltb room n) (refused_with (record { number = 7; beside = nothing; place = at }))
    (accepted_in m c p a n))
    ≡ cookies_for room at m c p a
unfolding cookies_for
cookies_is room at m c p a n e = rw e

module _ (m : List ℕ) (at : ℕ) (x : Terms) where
  abbrev told : Verdict Form Sighting → Told
  told v = told_by m (placed at v)

  -- ---- over what was found, and what is like it

  pub decided_like : (l l' : ℕ → List Sighting) → Like (l 1) (l' 1) → Like (l 4) (l' 4) → Like (l 5) (l' 5) → Like (l 6) (l' 6) → Like (l 7) (l' 7) → Like (l 8) (l' 8)
      → told (decide x (body_in m) l) ≡ told (decide x (body_in m) l')
  unfolding decide
  decided_like l l' l1 l4 l5 l6 l7 l8 =
      like_first told (l 1) (l' 1) l1 _ _ _ _ refl
      (λ p. like_if told (eqb (length (body_in m p)) 0) _ refl _ _ _ _ refl
      (like_first told (l 4) (l' 4) l4 _ _ _ _ refl
      (λ a. like_if told (eqb (length (body_in m a)) 0) _ refl _ _ _ _ refl
      (like_if told (not (x.protocols (number_of m p))) _ refl _ _ _ _ refl
      (like_if told (not (x.algorithms (number_of m a))) _ refl _ _ _ _ refl
      (like_if told (eqb (length (l 5)) 0) (eqb (length (l' 5)) 0) (ap (λ (n : ℕ). eqb n 0) l5.long) _ _ _ _ refl
      (like_if told (ltb x.room (length (l 5))) (ltb x.room (length (l' 5))) (ap (ltb x.room) l5.long) _ _ _ _ refl
      (rw (sends part_of (l 6) (l' 6) l6, sends (number_of m) (l 7) (l' 7) l7, like_some (l 8) (l' 8) l8, l5.long)))))))))
    where
      sends : {B : Type 0} (f : Sighting → B) (a b : List Sighting) → Like a b → map_sent f (first_sent a) ≡ map_sent f (first_sent b)
      sends f a b s = sent_first f a ∙ s.first not_sent (λ x. sent (f x)) ∙ sym (sent_first f b)

  -- ---- over what the cells tell

  abbrev refused_at : ℕ → Beside → Told
  refused_at n b = refused_with (record { number = n; beside = b; place = at })

  module _ (c : List ℕ) (fits : Fits rules (length m) c) where
    inside : (k : ℕ) → k < 15 → eqb k 11 ≡ false → is_noted (get_or rules k 0) ≡ true → (first_in c k).start + (first_in c k).len ≤ length m
    unfolding Fits
    inside k l kn nt = fits k l kn nt

    if_told : (b : Bool) (v w : Verdict Form Sighting) (y z : Told) → told v ≡ y → told w ≡ z → told (cond b v w) ≡ cond b y z
    if_told true v w y z p q = p
    if_told false v w y z p q = q

    first_told : (k : ℕ) (v : Verdict Form Sighting) (f : Sighting → Verdict Form Sighting) (y z : Told) → told v ≡ y → told (f (first_in c k)) ≡ z
        → told (with_first (told_in c k) v f) ≡ cond (eqb (entry_in c k).count 0) y z
    first_told k v f y z p q = ap told (told_first c k v f) ∙ if_told (eqb (entry_in c k).count 0) v (f (first_in c k)) y z p q

    -- a body's test is its length's
    body_told : (k : ℕ) → (first_in c k).start + (first_in c k).len ≤ length m → (v w : Verdict Form Sighting) (y z : Told) → told v ≡ y → told w ≡ z
        → told (cond (eqb (length (body_in m (first_in c k))) 0) v w) ≡ cond (eqb (entry_in c k).len 0) y z
    body_told k i v w y z p q = rw (body_length m (first_in c k) i) (if_told (eqb (entry_in c k).len 0) v w y z p q)

    number_is : (k : ℕ) → (first_in c k).start + (first_in c k).len ≤ length m → number_of m (first_in c k) ≡ number_in m (entry_in c k)
    unfolding number_in
    number_is k i = ap (λ (b : List ℕ). number_at b 0) (sym (part_body m (first_in c k) i))

    sent_is : {B : Type 0} (f : Sighting → B) (k : ℕ) (b : B) → f (first_in c k) ≡ b → map_sent f (first_sent (told_in c k)) ≡ sent_in (entry_in c k) b
    unfolding sent_in
    sent_is f k b e = sent_first f (told_in c k) ∙ told_first c k not_sent (λ x. sent (f x)) ∙ ap (λ (v : _). cond (eqb (entry_in c k).count 0) not_sent (sent v)) e

    -- the code's tests, over what was found of kinds 1 and 4
    pub decided_is : (p a : Seen) → p ≡ entry_in c 1 → a ≡ entry_in c 4
        → cond (eqb p.count 0) (refused_at 4 nothing)
        (cond (eqb p.len 0) (refused_at 13 nothing)
        (cond (eqb a.count 0) (refused_at 4 nothing)
        (cond (eqb a.len 0) (refused_at 14 nothing)
        (cond (not (x.protocols (number_in m p))) (refused_at 17 (protocol (number_in m p)))
        (cond (not (x.algorithms (number_in m a))) (refused_at 17 (algorithm (number_in m a)))
        (cookies_for x.room at m c (number_in m p) (number_in m a)))))))
        ≡ told (decide x (body_in m) (told_in c))
    unfolding decide cookies_for accepted_in is_noted
    decided_is p a ep ea =
        let i1 = inside 1 (omega arith) refl refl in
        let i4 = inside 4 (omega arith) refl refl in
        let i7 = inside 7 (omega arith) refl refl in
        rw (ep, ea)
        (sym
        (first_told 1 _ _ _ _ refl
        (body_told 1 i1 _ _ _ _ refl
        (first_told 4 _ _ _ _ refl
        (body_told 4 i4 _ _ _ _ refl
        (rw (told_length c 5, number_is 1 i1, number_is 4 i4)
        (if_told (not (x.protocols (number_in m (entry_in c 1)))) _ _ _ _ refl
        (if_told (not (x.algorithms (number_in m (entry_in c 4)))) _ _ _ _ refl
        (if_told (eqb (entry_in c 5).count 0) _ _ _ _ refl
        (if_told (ltb x.room (entry_in c 5).count) _ _ _ _ refl
        (rw (told_length c 5, number_is 1 i1, number_is 4 i4, sent_is part_of 6 _ refl, sent_is (number_of m) 7 _ (number_is 7 i7)))))))))))))
