-- A call that feeds a read refuses with a number of its set, or gives the refusal that its connection holds again; and it leaves the table as it was. For every sort of read.
-- Assumes nothing.
use mathlib.Core.Path.{◌≡◌, refl, sym, ap, subst, ◌∙◌}
use mathlib.Core.List.{List}
use mathlib.Core.Bool.{Bool, true≢false}
use Prim.Native.Nat.{ℕ}
use native.Mathlib.Omega.{arith}
use lib.Dec.{eqb}
use borrow.Author.Tests.{eq-eqb}
use Rattle.utf8.proofs.Tests.{on}
use Rattle.wire.proofs.Over.{over_none}
use Rattle.nts.specs.Refusal.{number_of, Refused, told_refusal}
use Rattle.nts.specs.declared.Refusal.{Refusal}
use Rattle.layout.specs.Profile.{is_final}
use Rattle.layout.specs.declared.Profile.{Profile}
use Rattle.layout.specs.declared.Profile.TheVariants.{Usual, Strict}
use Rattle.walk.specs.Judge as judge
use Rattle.walk.specs.Judge.{Terms}
use Rattle.request.specs.Request as requests
use Rattle.request.proofs.Order.{room_alone}
use Rattle.request.proofs.Numbered.{request_numbered}
use Rattle.request.proofs.StrictNumbers.{strict_numbered}
use Rattle.reply.specs.Reply as replies
use Rattle.reply.proofs.Numbered.{reply_numbered}
use Rattle.pieces.specs.Pieces.{Standing, pending, accepted, refused, Line, Brought, Read, Fed, none, answers, answer_of, Says, says, says_of, held, Hands, told_connection}
use Rattle.pieces.specs.Reads.{request_read, told_request, FeedsRequest, reply_read, told_reply, FeedsReply, of_request, of_reply, HandsOver}
use Rattle.pieces.specs.declared.Connection.{Connection}
use Rattle.pieces.specs.declared.Expected.{Expected}
use Rattle.pieces.specs.declared.Expected.TheVariants as expected
use Rattle.pieces.specs.declared.RequestAnswer.{RequestAnswer}
use Rattle.pieces.specs.declared.RequestAnswer.TheVariants as asked
use Rattle.pieces.specs.declared.ReplyAnswer.{ReplyAnswer}
use Rattle.pieces.specs.declared.ReplyAnswer.TheVariants as replied
use Rattle.pieces.specs.declared.FedRequest.{FedRequest}
use Rattle.pieces.specs.declared.FedReply.{FedReply}
use Rattle.pieces.specs.declared.Handed.{Handed}
use Rattle.pieces.specs.declared.Answer.TheVariants as answer
use Rattle.feeding.proofs.Refusing.{Cause, broke, filled, late, kept, read, refused_by, Tells, request_tells, reply_tells}
use Rattle.feeding.proofs.Answering.{Numbers, Ends, table_kept}
use Rattle.promises.specs.Numbers.{In, feed_request_numbers, feed_reply_numbers, expected_numbers, or_kept}

-- ---- the number

or_kept_lem : (s : Standing) (l : List ℕ) (n : ℕ) → In n l → In n (or_kept s l)
or_kept_lem pending l n i = i
or_kept_lem accepted l n i = i
or_kept_lem (refused r) l n i = on (eqb r.number n) (λ e. rw e) (λ e. rw e i)

kept_one : (s : Standing) (l : List ℕ) (y : Refused) → s ≡ refused y → In y.number (or_kept s l)
kept_one s l y e = rw (e, eq-eqb y.number y.number refl)

module _ (X : Read) (c : Line) (l : List ℕ) (nine : In 9 l) (sixteen : In 16 l) (eighteen : Ends X c.profile (λ n. In n l)) (reads : Numbers X c.profile (λ n. In n l)) where
  pub cause_in : (y : Refused) → Cause X c y → In y.number (or_kept c.standing l)
  cause_in y (broke e) = or_kept_lem c.standing l y.number (subst (λ (x : Refused). In x.number l) e nine)
  cause_in y (filled n h e) = or_kept_lem c.standing l y.number (subst (λ (x : Refused). In x.number l) e sixteen)
  cause_in y (late f n h e) = or_kept_lem c.standing l y.number (subst (λ (x : Refused). In x.number l) e (eighteen f))
  cause_in y (kept e) = kept_one c.standing l y e
  cause_in y (read s room e) = or_kept_lem c.standing l y.number (reads s _ room _ e)

  -- ---- a call that says a refusal

  module _ (refuse : Refused → X.Told) (tells : Tells X refuse) (keeps : (y : Refused) (t : List ℕ) → X.fills (judge.refused y) t ≡ t) where
    answer_refused : (m : List ℕ) (a : Fed X.judging.Q) (y : Refused) → says (refuse y) ≡ says_of X m a → a ≡ answers (judge.refused y)
    answer_refused m none y e = let z : ◌≡◌ {A = ℕ} 0 1 = cc in absurd (omega arith)
    answer_refused m (answers a) y e = let z : refuse y ≡ X.tells m a = cc in ap (λ (x : judge.Answer X.judging.Q). answers x) (tells m a y z)

    hands_refuses : {b : List ℕ} {h : Brought} {room : Terms} {t : List ℕ} {r : Says X.Told} {c' : Line} {b' t' : List ℕ} → Hands X c b h room t r c' b' t'
        → (y : Refused) → r ≡ says (refuse y) → (t' ≡ t) × In y.number (or_kept c.standing l)
    hands_refuses {b} {h} {room} {t} {r} {c'} {b'} p y e =
        let a = answer_refused (held c' b') (answer_of X c b h room) y (sym e ∙ p.answer) in
        (p.table ∙ table_kept X c b h room t (answers (judge.refused y)) a (keeps y t), cause_in y (refused_by X c b h room y a))

-- ---- requests and replies

pub request_reads : (P : Profile) → Numbers request_read P (λ n. In n (feed_request_numbers P))
unfolding requests.request
request_reads Usual s n x y e =
    (request_numbered (λ n. In n (feed_request_numbers Usual)) (refl, refl, refl, refl, refl, refl, refl) Usual tt s n x.room y (sym (room_alone s (record { profile = Usual; limit = n; terms = x })) ∙ e)).one
request_reads Strict s n x y e =
    strict_numbered (λ n. In n (feed_request_numbers Strict)) (refl, refl, refl, refl) refl s n x.room y (sym (room_alone s (record { profile = Strict; limit = n; terms = x })) ∙ e)

pub reply_reads : (P : Profile) → Numbers reply_read P (λ n. In n (feed_reply_numbers P))
unfolding replies.reply_of
reply_reads Usual s n x y e = (reply_numbered (λ n. In n (feed_reply_numbers Usual)) (refl, refl, refl, refl, refl, refl, refl, refl, refl, refl, refl) Usual tt s n x y e).one
reply_reads Strict s n x y e = (reply_numbered (λ n. In n (feed_reply_numbers Strict)) (refl, refl, refl, refl, refl, refl, refl, refl, refl, refl, refl) Strict refl s n x y e).one

-- 18, where nothing may follow an end record
pub request_ends : (P : Profile) → Ends request_read P (λ n. In n (feed_request_numbers P))
unfolding is_final
request_ends Usual e = absurd (true≢false (sym e))
request_ends Strict e = refl

pub reply_ends : (P : Profile) → Ends reply_read P (λ n. In n (feed_reply_numbers P))
unfolding is_final
reply_ends Usual e = absurd (true≢false (sym e))
reply_ends Strict e = refl

pub feed_request_refuses : (c : Connection) (r : FedRequest) {p : List ℕ} {closed : Bool} {b t b' t' : List ℕ} → FeedsRequest c p closed b t r b' t'
    → (y : Refusal) → r.answer ≡ asked.Refused y → (t' ≡ t) × In (number_of y.error) (or_kept (told_connection c).standing (feed_request_numbers c.profile))
unfolding requests.table_after
feed_request_refuses c r f y e =
    hands_refuses request_read (told_connection c) (feed_request_numbers c.profile) refl refl (request_ends c.profile) (request_reads c.profile) requests.refused_with request_tells (λ r t. over_none t) f (told_refusal y) (ap told_request e)

pub feed_reply_refuses : (c : Connection) (r : FedReply) {p : List ℕ} {closed : Bool} (ps qs : List ℕ) {b t b' t' : List ℕ} → FeedsReply c p closed ps qs b t r b' t'
    → (y : Refusal) → r.answer ≡ replied.Refused y → (t' ≡ t) × In (number_of y.error) (or_kept (told_connection c).standing (feed_reply_numbers c.profile))
unfolding replies.table_after
feed_reply_refuses c r ps qs f y e =
    hands_refuses reply_read (told_connection c) (feed_reply_numbers c.profile) refl refl (reply_ends c.profile) (reply_reads c.profile) replies.refused_with reply_tells (λ r t. over_none t) f (told_refusal y) (ap told_reply e)

-- either, by which message is expected
pub hands_over_refuses : (c : Connection) (w : Expected) (p : List ℕ) (closed : Bool) (ps qs b t : List ℕ) (r : Handed) (b' t' : List ℕ) → HandsOver c w p closed ps qs b t r b' t'
    → (y : Refusal) → r.answer ≡ answer.Refused y → (t' ≡ t) × In (number_of y.error) (or_kept (told_connection c).standing (expected_numbers w c.profile))
hands_over_refuses c expected.Request p closed ps qs b t r b' t' f y e = feed_request_refuses c f.0 f.1 y (asked_is f.0.answer (ap (λ (h : Handed). h.answer) (sym f.2) ∙ e))
  where
    asked_is : (a : RequestAnswer) → of_request a ≡ answer.Refused y → a ≡ asked.Refused y
    asked_is asked.Waiting q = let z : ◌≡◌ {A = ℕ} 0 1 = cc in absurd (omega arith)
    asked_is (asked.Accepted x) q = let z : ◌≡◌ {A = ℕ} 0 1 = cc in absurd (omega arith)
    asked_is (asked.Refused x) q = let z : x ≡ y = cc in ap asked.Refused z
hands_over_refuses c expected.Reply p closed ps qs b t r b' t' f y e = feed_reply_refuses c f.0 ps qs f.1 y (replied_is f.0.answer (ap (λ (h : Handed). h.answer) (sym f.2) ∙ e))
  where
    replied_is : (a : ReplyAnswer) → of_reply a ≡ answer.Refused y → a ≡ replied.Refused y
    replied_is replied.Waiting q = let z : ◌≡◌ {A = ℕ} 0 1 = cc in absurd (omega arith)
    replied_is (replied.Accepted x) q = let z : ◌≡◌ {A = ℕ} 0 1 = cc in absurd (omega arith)
    replied_is (replied.Refused x) q = let z : x ≡ y = cc in ap replied.Refused z
