-- The two sorts of read that a connection can be for, and what their calls answer: 02, order 1, "for requests and replies"; a reply's call is lent "the two offered
-- lists" as well: 02, order 3.
use Rattle.std.specs.Prelude.{ℕ, ◌≡◌, List, Bool}
use Rattle.walk.specs.Judge.{room_for}
use Rattle.places.specs.Places.{room_of}
use Rattle.request.specs.Request as requests
use Rattle.reply.specs.Reply as replies
use Rattle.nts.specs.Refusal.{told_refusal}
use Rattle.pieces.specs.Pieces.{Read, Says, nothing_yet, says, Hands, told_connection}
use Rattle.pieces.specs.declared.Connection.{Connection}
use Rattle.pieces.specs.declared.RequestAnswer.{RequestAnswer}
use Rattle.pieces.specs.declared.RequestAnswer.TheVariants as asked
use Rattle.pieces.specs.declared.FedRequest.{FedRequest}
use Rattle.pieces.specs.declared.ReplyAnswer.{ReplyAnswer}
use Rattle.pieces.specs.declared.ReplyAnswer.TheVariants as replied
use Rattle.pieces.specs.declared.FedReply.{FedReply}
use Rattle.pieces.specs.declared.Expected.{Expected}
use Rattle.pieces.specs.declared.Expected.TheVariants as expected
use Rattle.pieces.specs.declared.Answer.{Answer}
use Rattle.pieces.specs.declared.Answer.TheVariants as answer
use Rattle.pieces.specs.declared.Handed.{Handed}

-- ---- a request

abbrev pub request_read : Read
request_read = record { reader = requests.reader; judging = requests.judging; Told = requests.Told; tells = requests.told_by; fills = requests.table_after }

-- what each case of the answer says
abbrev pub told_request : RequestAnswer → Says requests.Told
told_request asked.Waiting = nothing_yet
told_request (asked.Accepted q) = says (requests.told_request q)
told_request (asked.Refused r) = says (requests.refused_with (told_refusal r))

abbrev pub FeedsRequest : Connection → List ℕ → Bool → List ℕ → List ℕ → FedRequest → List ℕ → List ℕ → Type 0
FeedsRequest c p closed b t r b' t' =
    Hands request_read (told_connection c) b (record { piece = p; closed = closed }) (room_for (room_of t)) t (told_request r.answer) (told_connection r.connection) b' t'

-- ---- a reply

abbrev pub reply_read : Read
reply_read = record { reader = replies.reader; judging = replies.judging; Told = replies.Told; tells = replies.told_by; fills = replies.table_after }

abbrev pub told_reply : ReplyAnswer → Says replies.Told
told_reply replied.Waiting = nothing_yet
told_reply (replied.Accepted x) = says (replies.told_reply x)
told_reply (replied.Refused r) = says (replies.refused_with (told_refusal r))

abbrev pub FeedsReply : Connection → List ℕ → Bool → List ℕ → List ℕ → List ℕ → List ℕ → FedReply → List ℕ → List ℕ → Type 0
FeedsReply c p closed protocols algorithms b t r b' t' =
    Hands reply_read (told_connection c) b (record { piece = p; closed = closed }) (replies.offering protocols algorithms (room_of t)) t (told_reply r.answer) (told_connection r.connection) b' t'

-- ---- either of them, as one answer

abbrev pub of_request : RequestAnswer → Answer
of_request asked.Waiting = answer.Waiting
of_request (asked.Accepted q) = answer.Request q
of_request (asked.Refused r) = answer.Refused r

abbrev pub of_reply : ReplyAnswer → Answer
of_reply replied.Waiting = answer.Waiting
of_reply (replied.Accepted x) = answer.Reply x
of_reply (replied.Refused r) = answer.Refused r

-- by which message is expected: what that read's call gives; a request's is not asked what was offered
abbrev pub HandsOver : Connection → Expected → List ℕ → Bool → List ℕ → List ℕ → List ℕ → List ℕ → Handed → List ℕ → List ℕ → Type 0
HandsOver c expected.Request p closed protocols algorithms b t r b' t' =
    (f : FedRequest) × FeedsRequest c p closed b t f b' t' × (r ≡ record { connection = f.connection; answer = of_request f.answer })
HandsOver c expected.Reply p closed protocols algorithms b t r b' t' =
    (f : FedReply) × FeedsReply c p closed protocols algorithms b t f b' t' × (r ≡ record { connection = f.connection; answer = of_reply f.answer })
