-- Why a call that feeds a read refuses, for every sort of read: the connection counts too many bytes, the buffer is full, a byte follows the end record where none may, it was
-- refused before, or the whole-message reader refuses; and so that its place has thirty-two bits.
-- Assumes nothing.
use mathlib.Core.Path.{◌≡◌, refl, ap, ◌∙◌}
use mathlib.Core.Bool.{Bool, true, false, cond, ◌&&◌, ◌||◌}
use mathlib.Core.List.{List}
use Prim.Native.Nat.{ℕ, ◌≤◌, ◌<◌, ◌^◌}
use native.Mathlib.Omega.{arith}
use borrow.Author.Tests.{ltb-true}
use lib.Dec.{ltb, eqb}
use lib.ListN.{length, take, drop, length-take}
use Rattle.nts.specs.Refusal.{nothing, Refused}
use Rattle.walk.specs.Walk.{Reader}
use Rattle.walk.specs.Judge as judge
use Rattle.walk.specs.Judge.{Terms, room_for, read_by}
use Rattle.walk.specs.Met.{ends}
use Rattle.walk.proofs.Within.{refused_within}
use Rattle.request.specs.Request as requests
use Rattle.reply.specs.Reply as replies
use Rattle.cells.specs.Cells.{cell}
use Rattle.pieces.specs.Pieces.{Standing, pending, accepted, refused, Line, Brought, joined, inside, fitting, Going, waits, decides, going, begins_at, full, otherwise, How, waiting, no_room, followed, decided, Came, came_to, gathers, how_after, is_decided, after_end, comes, Read, Fed, none, answers, refused_at, answer_after, first_answer, again, by_standing, broken, answer_of, says, says_of}
use Rattle.pieces.specs.Reads.{request_read, reply_read}
use Rattle.pieces.proofs.Inside.{comes_gathered}
use Rattle.feeding.specs.Fed.{is_connection, line_in}
use Rattle.feeding.proofs.Holding.{line_sound, standing_held}

pub data Cause (X : Read) (c : Line) (r : Refused) : Type 0 where
  broke : record { number = 9; beside = nothing; place = 0 } ≡ r → Cause X c r
  filled : (n : ℕ) → n ≤ c.limit → record { number = 16; beside = nothing; place = n } ≡ r → Cause X c r
  late : (X.reader c.profile).final ≡ true → (n : ℕ) → n ≤ c.limit → record { number = 18; beside = nothing; place = n } ≡ r → Cause X c r
  kept : c.standing ≡ refused r → Cause X c r
  read : (s : List ℕ) (x : Terms) → read_by X.reader X.judging s (record { profile = c.profile; limit = c.limit; terms = x }) ≡ judge.refused r → Cause X c r

answer_same : {Q : Type 0 → Type 0} (a b : judge.Answer Q) → answers a ≡ answers b → a ≡ b
answer_same a b e = cc

pub refusal_same : {Q : Type 0 → Type 0} (x y : Refused) → ◌≡◌ {A = Fed Q} (answers (judge.refused x)) (answers (judge.refused y)) → x ≡ y
refusal_same x y e = cc

-- ---- after an end record behind which nothing may follow

module _ (R : Reader) (n long : ℕ) (closed : Bool) (s : List ℕ) (x : Came) where
  -- no byte lacks room that did not before
  after_full : (after_end R n long closed s x).how ≡ no_room → x.how ≡ no_room
  unfolding after_end how_after
  after_full e = go (R.final && is_decided x.how && ends R (drop x.begins s)) (ltb x.gathered long) (eqb x.gathered n || closed) e
    where
      go : (t a b : Bool) → (cond t (record { gathered = x.gathered; begins = x.begins; met = x.met; how = cond a followed (cond b decided waiting) }) x).how ≡ no_room → x.how ≡ no_room
      go true true b q = let z : ◌≡◌ {A = ℕ} 0 1 = cc in absurd (omega arith)
      go true false true q = let z : ◌≡◌ {A = ℕ} 0 1 = cc in absurd (omega arith)
      go true false false q = let z : ◌≡◌ {A = ℕ} 0 1 = cc in absurd (omega arith)
      go false a b q = q

  -- and a byte that follows is one of those that came
  after_late : (x.how ≡ followed → ⊥) → (after_end R n long closed s x).how ≡ followed → (R.final ≡ true) × (x.gathered < long)
  unfolding after_end how_after
  after_late un e =
      go R.final (is_decided x.how) (ends R (drop x.begins s)) (ltb x.gathered long) (eqb x.gathered n || closed) (λ z. z) (ltb-true x.gathered long) e
    where
      go : (f d w a b : Bool) → (f ≡ true → R.final ≡ true) → (a ≡ true → x.gathered < long)
          → (cond (f && d && w) (record { gathered = x.gathered; begins = x.begins; met = x.met; how = cond a followed (cond b decided waiting) }) x).how ≡ followed
          → (R.final ≡ true) × (x.gathered < long)
      go true true true true b p l q = (p refl, l refl)
      go true true true false true p l q = let z : ◌≡◌ {A = ℕ} 0 1 = cc in absurd (omega arith)
      go true true true false false p l q = let z : ◌≡◌ {A = ℕ} 0 1 = cc in absurd (omega arith)
      go true true false a b p l q = absurd (un q)
      go true false w a b p l q = absurd (un q)
      go false d w a b p l q = absurd (un q)

-- ---- how a call comes to it

-- a read without room is not past its limit
unfilled_gathered : (w : How) (n : ℕ) (g : Going) → (came_to w n g).how ≡ no_room → (came_to w n g).gathered ≡ n
unfilled_gathered w n (waits at met) e = refl
unfilled_gathered w n (decides at met through) e = let z : ◌≡◌ {A = ℕ} 0 1 = cc in absurd (omega arith)

module _ (R : Reader) (c : Line) (b : List ℕ) (h : Brought) where
  full_before : (comes R c b h).how ≡ no_room → (gathers R c b h).how ≡ no_room
  unfolding comes
  full_before e = after_full R c.limit (length (inside c b h)) h.closed (take (gathers R c b h).gathered (joined c b h)) (gathers R c b h) e

  unfilled_within : (comes R c b h).how ≡ no_room → length (take (comes R c b h).gathered (joined c b h)) ≤ c.limit
  unfolding gathers fitting inside
  unfilled_within e =
      let g : (gathers R c b h).gathered ≡ length (fitting c b h) =
      unfilled_gathered (otherwise c b h) (length (fitting c b h)) (going R c.met (begins_at c) 0 (drop (begins_at c) (fitting c b h))) (full_before e) in
      omega (arith, g, comes_gathered R c b h, length-take (comes R c b h).gathered (joined c b h), length-take (length b) (inside c b h), length-take c.limit (joined c b h))

  -- the records alone do not tell that a byte follows
  unfollowed : (gathers R c b h).how ≡ followed → ⊥
  unfolding gathers otherwise
  unfollowed e = go (going R c.met (begins_at c) 0 (drop (begins_at c) (fitting c b h))) (full c b h) (eqb (length (inside c b h)) c.limit || h.closed) e
    where
      go : (g : Going) (f d : Bool) → (came_to (cond f no_room (cond d decided waiting)) (length (fitting c b h)) g).how ≡ followed → ⊥
      go (waits at met) true d q = let z : ◌≡◌ {A = ℕ} 0 1 = cc in omega arith
      go (waits at met) false true q = let z : ◌≡◌ {A = ℕ} 0 1 = cc in omega arith
      go (waits at met) false false q = let z : ◌≡◌ {A = ℕ} 0 1 = cc in omega arith
      go (decides at met through) f d q = let z : ◌≡◌ {A = ℕ} 0 1 = cc in omega arith

  late_before : (comes R c b h).how ≡ followed → (R.final ≡ true) × ((gathers R c b h).gathered < length (inside c b h))
  unfolding comes
  late_before e = after_late R c.limit (length (inside c b h)) h.closed (take (gathers R c b h).gathered (joined c b h)) (gathers R c b h) unfollowed e

  -- the byte that follows is inside the limit
  late_within : (comes R c b h).how ≡ followed → length (take (comes R c b h).gathered (joined c b h)) ≤ c.limit
  unfolding inside
  late_within e =
      omega (arith, (late_before e).1, comes_gathered R c b h, length-take (comes R c b h).gathered (joined c b h), length-take c.limit (joined c b h))

-- what follows of each cause follows of a refusal; H holds of the bytes that were read: of those joined, as far as they are gathered, or of those gathered before
pub refused_of : (X : Read) (c : Line) (b : List ℕ) (h : Brought) (x : Terms) (r : Refused) (H : List ℕ → Type 0) {A : Type 0}
    → ((n : ℕ) → H (take n (joined c b h))) → H (take c.gathered b)
    → (record { number = 9; beside = nothing; place = 0 } ≡ r → A)
    → ((n : ℕ) → n ≤ c.limit → record { number = 16; beside = nothing; place = n } ≡ r → A)
    → ((X.reader c.profile).final ≡ true → (n : ℕ) → n ≤ c.limit → record { number = 18; beside = nothing; place = n } ≡ r → A)
    → (c.standing ≡ refused r → A)
    → ((s : List ℕ) (y : Terms) → H s → read_by X.reader X.judging s (record { profile = c.profile; limit = c.limit; terms = y }) ≡ judge.refused r → A)
    → answer_of X c b h x ≡ answers (judge.refused r) → A
unfolding answer_of first_answer again
refused_of X c b h x r H {A} joins holds nine sixteen eighteen stays reads e = go (broken c b) c.standing refl e
  where
    first : (w : How) → (comes (X.reader c.profile) c b h).how ≡ w → answer_after X c.profile c.limit w (take (comes (X.reader c.profile) c b h).gathered (joined c b h)) x ≡ answers (judge.refused r) → A
    first waiting p q = let z : ◌≡◌ {A = ℕ} 0 1 = cc in absurd (omega arith)
    first no_room p q = sixteen (length (take (comes (X.reader c.profile) c b h).gathered (joined c b h))) (unfilled_within (X.reader c.profile) c b h p) (refusal_same _ r q)
    first followed p q = eighteen (late_before (X.reader c.profile) c b h p).0 (length (take (comes (X.reader c.profile) c b h).gathered (joined c b h))) (late_within (X.reader c.profile) c b h p) (refusal_same _ r q)
    first decided p q = reads (take (comes (X.reader c.profile) c b h).gathered (joined c b h)) x (joins (comes (X.reader c.profile) c b h).gathered) (answer_same _ _ q)

    go : (t : Bool) (s : Standing) → c.standing ≡ s → cond t (refused_at 9 0) (by_standing s (first_answer X c b h x) (again X c b) (λ y. answers (judge.refused y))) ≡ answers (judge.refused r) → A
    go true s p q = nine (refusal_same _ r q)
    go false pending p q = first (comes (X.reader c.profile) c b h).how refl q
    go false accepted p q = reads (take c.gathered b) (room_for c.gathered) holds (answer_same _ _ q)
    go false (refused y) p q = stays (p ∙ ap refused (refusal_same y r q))

pub refused_by : (X : Read) (c : Line) (b : List ℕ) (h : Brought) (x : Terms) (r : Refused) → answer_of X c b h x ≡ answers (judge.refused r) → Cause X c r
refused_by X c b h x r e = refused_of X c b h x r (λ s. Unit {0}) (λ n. tt) tt broke filled late kept (λ s y i q. read s y q) e

-- ---- by what is told

-- a told refusal is a refusal
abbrev pub Tells : (X : Read) → (Refused → X.Told) → Type 0
Tells X refuse = (m : List ℕ) (a : judge.Answer X.judging.Q) (r : Refused) → refuse r ≡ X.tells m a → a ≡ judge.refused r

pub request_tells : Tells request_read requests.refused_with
request_tells m (judge.refused y) r e = let z : y ≡ r = cc in ap (λ s. judge.refused s) z
request_tells m (judge.accepted (requests.key_exchange p a d)) r e = let z : ◌≡◌ {A = ℕ} 0 1 = cc in absurd (omega arith)
request_tells m (judge.accepted (requests.fixed_key u x a p k)) r e = let z : ◌≡◌ {A = ℕ} 0 1 = cc in absurd (omega arith)
request_tells m (judge.accepted (requests.support u p a k)) r e = let z : ◌≡◌ {A = ℕ} 0 1 = cc in absurd (omega arith)

pub reply_tells : Tells reply_read replies.refused_with
reply_tells m (judge.refused y) r e = let z : y ≡ r = cc in ap (λ s. judge.refused s) z
reply_tells m (judge.accepted (replies.reply p a s t k c)) r e = let z : ◌≡◌ {A = ℕ} 0 1 = cc in absurd (omega arith)

pub told_by : (X : Read) (refuse : Refused → X.Told) → Tells X refuse → (c : Line) (b : List ℕ) (h : Brought) (x : Terms) (m : List ℕ) (r : Refused)
    → says (refuse r) ≡ says_of X m (answer_of X c b h x) → Cause X c r
told_by X refuse tells c b h x m r e = go (answer_of X c b h x) refl e
  where
    go : (a : Fed X.judging.Q) → answer_of X c b h x ≡ a → says (refuse r) ≡ says_of X m a → Cause X c r
    go none p q = let z : ◌≡◌ {A = ℕ} 0 1 = cc in absurd (omega arith)
    go (answers a) p q = let z : refuse r ≡ X.tells m a = cc in refused_by X c b h x r (p ∙ ap (λ y. answers y) (tells m a r z))

-- ---- its place

pub place_within : (X : Read) (c : List ℕ) (r : Refused) → is_connection c ≡ true → Cause X (line_in c) r → r.place < 2 ^ 32
place_within X c r e (broke q) = omega (arith, ap (λ (x : Refused). x.place) q)
place_within X c r e (filled n l q) = omega (arith, ap (λ (x : Refused). x.place) q, (line_sound c e).limit)
place_within X c r e (late f n l q) = omega (arith, ap (λ (x : Refused). x.place) q, (line_sound c e).limit)
place_within X c r e (kept q) = omega (arith, ap (λ (x : Refused). x.place) (standing_held (cell c 4) (cell c 5) (cell c 6) (cell c 7) r q), (line_sound c e).place)
place_within X c r e (read s x q) = omega (arith, refused_within (X.reader (line_in c).profile) X.judging s (record { profile = (line_in c).profile; limit = (line_in c).limit; terms = x }) r q, (line_sound c e).limit)
