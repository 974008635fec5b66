-- What is told of a connection and of an answer tells any two apart.
-- Assumes nothing.
use mathlib.Core.Path.{◌≡◌, refl, ap}
use Prim.Native.Nat.{ℕ}
use native.Mathlib.Omega.{arith}
use Rattle.nts.specs.Refusal.{told_refusal}
use Rattle.nts.proofs.Apart.{refusal_apart}
use Rattle.request.specs.declared.Answer as request_answer
use Rattle.request.specs.declared.Answer.TheVariants as request
use Rattle.request.proofs.Apart as request_told
use Rattle.reply.specs.declared.Answer as reply_answer
use Rattle.reply.specs.declared.Answer.TheVariants as reply
use Rattle.reply.proofs.Apart as reply_told
use Rattle.pieces.specs.Pieces.{Line, nothing_yet, says, told_state, told_connection}
use Rattle.pieces.specs.Reads.{told_request, told_reply}
use Rattle.pieces.specs.declared.Connection.{Connection}
use Rattle.pieces.specs.declared.State.{State}
use Rattle.pieces.specs.declared.State.TheVariants as state
use Rattle.pieces.specs.declared.RequestAnswer.{RequestAnswer}
use Rattle.pieces.specs.declared.RequestAnswer.TheVariants as asked
use Rattle.pieces.specs.declared.ReplyAnswer.{ReplyAnswer}
use Rattle.pieces.specs.declared.ReplyAnswer.TheVariants as replied

state_apart : (x y : State) → told_state x ≡ told_state y → x ≡ y
state_apart state.Pending state.Pending e = refl
state_apart state.Accepted state.Accepted e = refl
state_apart (state.Refused r) (state.Refused s) e =
    let t : told_refusal r ≡ told_refusal s = cc in
    ap state.Refused (refusal_apart r s t)
state_apart state.Pending state.Accepted e = let o : ◌≡◌ {A = ℕ} 0 1 = cc in absurd (omega arith)
state_apart state.Pending (state.Refused s) e = let o : ◌≡◌ {A = ℕ} 0 1 = cc in absurd (omega arith)
state_apart state.Accepted state.Pending e = let o : ◌≡◌ {A = ℕ} 0 1 = cc in absurd (omega arith)
state_apart state.Accepted (state.Refused s) e = let o : ◌≡◌ {A = ℕ} 0 1 = cc in absurd (omega arith)
state_apart (state.Refused r) state.Pending e = let o : ◌≡◌ {A = ℕ} 0 1 = cc in absurd (omega arith)
state_apart (state.Refused r) state.Accepted e = let o : ◌≡◌ {A = ℕ} 0 1 = cc in absurd (omega arith)

pub connection_apart : (x y : Connection) → told_connection x ≡ told_connection y → x ≡ y
connection_apart x y e =
    let s = state_apart x.state y.state (ap (λ (l : Line). l.standing) e) in
    λ i. record { profile = (e i).profile; limit = (e i).limit; gathered = (e i).gathered; begins = (e i).begins; met = (e i).met; state = s i }

-- an answer says what the whole-message reader's says, or nothing yet
never : {A T : Type 0} {x : T} → nothing_yet ≡ says x → A
never e = let o : ◌≡◌ {A = ℕ} 0 1 = cc in absurd (omega arith)

never_2 : {A T : Type 0} {x : T} → says x ≡ nothing_yet → A
never_2 e = let o : ◌≡◌ {A = ℕ} 0 1 = cc in absurd (omega arith)

said : {T : Type 0} {x y : T} → says x ≡ says y → x ≡ y
said e = cc

-- the case of a call for each case of that reader
asked_by : request_answer.Answer → RequestAnswer
asked_by (request.Accepted q) = asked.Accepted q
asked_by (request.Refused r) = asked.Refused r

pub asked_apart : (x y : RequestAnswer) → told_request x ≡ told_request y → x ≡ y
unfolding asked_by
asked_apart asked.Waiting asked.Waiting e = refl
asked_apart asked.Waiting (asked.Accepted w) e = never e
asked_apart asked.Waiting (asked.Refused s) e = never e
asked_apart (asked.Accepted q) asked.Waiting e = never_2 e
asked_apart (asked.Accepted q) (asked.Accepted w) e = ap asked_by (request_told.answer_apart (request.Accepted q) (request.Accepted w) (said e))
asked_apart (asked.Accepted q) (asked.Refused s) e = ap asked_by (request_told.answer_apart (request.Accepted q) (request.Refused s) (said e))
asked_apart (asked.Refused r) asked.Waiting e = never_2 e
asked_apart (asked.Refused r) (asked.Accepted w) e = ap asked_by (request_told.answer_apart (request.Refused r) (request.Accepted w) (said e))
asked_apart (asked.Refused r) (asked.Refused s) e = ap asked_by (request_told.answer_apart (request.Refused r) (request.Refused s) (said e))

replied_by : reply_answer.Answer → ReplyAnswer
replied_by (reply.Accepted x) = replied.Accepted x
replied_by (reply.Refused r) = replied.Refused r

pub replied_apart : (x y : ReplyAnswer) → told_reply x ≡ told_reply y → x ≡ y
unfolding replied_by
replied_apart replied.Waiting replied.Waiting e = refl
replied_apart replied.Waiting (replied.Accepted w) e = never e
replied_apart replied.Waiting (replied.Refused s) e = never e
replied_apart (replied.Accepted q) replied.Waiting e = never_2 e
replied_apart (replied.Accepted q) (replied.Accepted w) e = ap replied_by (reply_told.answer_apart (reply.Accepted q) (reply.Accepted w) (said e))
replied_apart (replied.Accepted q) (replied.Refused s) e = ap replied_by (reply_told.answer_apart (reply.Accepted q) (reply.Refused s) (said e))
replied_apart (replied.Refused r) replied.Waiting e = never_2 e
replied_apart (replied.Refused r) (replied.Accepted w) e = ap replied_by (reply_told.answer_apart (reply.Refused r) (reply.Accepted w) (said e))
replied_apart (replied.Refused r) (replied.Refused s) e = ap replied_by (reply_told.answer_apart (reply.Refused r) (reply.Refused s) (said e))
