-- The functions that feed a read, as their callers see them (Pieces.antt): calls, each with its answer and what the function's own contract says of it, as the prover reads
-- it from the source; of hand_over, as pieces/proofs/InPlace.antt says it, with a proof that this is the contract.
use Rattle.std.specs.Prelude.{ℕ, ◌≡◌, List, Bool}
use Rattle.nts.specs.Refusal.{told_refusal}
use Rattle.nts.specs.declared.Refusal.{Refusal}
use Rattle.walk.specs.Judge.{Terms, room_for}
use Rattle.places.specs.Places.{room_of}
use Rattle.request.specs.Request as request_form
use Rattle.reply.specs.Reply as reply_form
use Rattle.pieces.specs.Pieces.{Brought, Read, Says, nothing_yet, says, held, told_connection}
use Rattle.pieces.specs.Reads.{request_read, told_request, reply_read, told_reply}
use Rattle.pieces.specs.declared.Connection.{Connection}
use Rattle.pieces.specs.declared.Expected.{Expected}
use Rattle.pieces.specs.declared.Expected.TheVariants as expected
use Rattle.pieces.specs.declared.FedRequest.{FedRequest}
use Rattle.pieces.specs.declared.RequestAnswer.TheVariants as asked
use Rattle.pieces.specs.declared.FedReply.{FedReply}
use Rattle.pieces.specs.declared.ReplyAnswer.TheVariants as replied
use Rattle.pieces.specs.declared.Handed.{Handed}
use Rattle.pieces.specs.declared.Answer.{Answer}
use Rattle.pieces.specs.declared.Answer.TheVariants as answer
use Rattle.pieces.proofs.feed_request.Reads as feed_request
use Rattle.pieces.proofs.feed_reply.Reads as feed_reply
use Rattle.pieces.proofs.hand.Reads as hand
use Rattle.pieces.proofs.InPlace as hand_over
use Rattle.promises.specs.Handed as requests
use Rattle.promises.specs.HandedReply as replies
use Rattle.promises.specs.Pieces.{Made, Feeder}

-- a function with the calls C, of which `of` gives the answer: `accepts y` is the one that accepts y, of which `out` tells what is in hand by the bytes gathered and the table
-- after the call; `refuses x` the one that refuses, and no cell of the table changed
abbrev pub feeder : (X : Read) {C : Type 1} {A Y S : Type 0} → (C → Made X) → (C → A) → (Y → A) → (Refusal → A) → (List ℕ → List ℕ → Y → S) → Feeder X S
feeder X {C} {A} {Y} {S} made of accepts refuses out = record {
  Call = C;
  made = made;
  Accepts = λ c s. (y : Y) × (of c ≡ accepts y) × (out (held (made c).after (made c).left) (made c).filled y ≡ s);
  Refuses = λ c r. (x : Refusal) × (of c ≡ refuses x) × (told_refusal x ≡ r) × ((made c).filled ≡ (made c).table);
}

-- a call on a connection and a buffer, by what it was given, said and left
abbrev pub made_on : (X : Read) → Connection → List ℕ → Brought → Terms → List ℕ → Says X.Told → Connection → List ℕ → List ℕ → Made X
made_on X c b h u t said c' b' t' = record {
  before = told_connection c;
  lent = b;
  brought = h;
  terms = u;
  table = t;
  said = said;
  after = told_connection c';
  left = b';
  filled = t';
}

-- ---- pieces::feed_request and pieces::feed_reply

pub record FeedRequest : Type 1 where
  pub κs : _
  pub a : _
  pub answer : FedRequest
  pub e : _
  pub met : feed_request.Learnt κs a answer e

pub record FeedReply : Type 1 where
  pub κs : _
  pub a : _
  pub answer : FedReply
  pub e : _
  pub met : feed_reply.Learnt κs a answer e

abbrev pub request_fed : Feeder request_read requests.Shown
request_fed =
    feeder request_read
    (λ (c : FeedRequest). made_on request_read c.a.0 c.a.1.1.1.0.now (record { piece = c.a.1.1.0.now; closed = c.a.1.0 })
    (room_for (room_of c.a.1.1.1.1.0.now)) c.a.1.1.1.1.0.now
    (told_request c.answer.answer) c.answer.connection c.e.1.1.1.0.now c.e.1.1.1.1.0.now)
    (λ c. c.answer.answer) asked.Accepted asked.Refused requests.handed_out

abbrev pub reply_fed : Feeder reply_read replies.Shown
reply_fed =
    feeder reply_read
    (λ (c : FeedReply). made_on reply_read c.a.0 c.a.1.1.1.1.1.0.now (record { piece = c.a.1.1.0.now; closed = c.a.1.0 })
    (reply_form.offering c.a.1.1.1.0.now c.a.1.1.1.1.0.now (room_of c.a.1.1.1.1.1.1.0.now)) c.a.1.1.1.1.1.1.0.now
    (told_reply c.answer.answer) c.answer.connection c.e.1.1.1.1.1.0.now c.e.1.1.1.1.1.1.0.now)
    (λ c. c.answer.answer) replied.Accepted replied.Refused replies.handed_out

-- ---- pieces::hand, and pieces::hand_over, which updates the connection in place: where a request, or a reply, is expected

pub record HandCall (w : Expected) : Type 1 where
  pub κs : _
  pub a : _
  pub answer : Handed
  pub e : _
  pub met : hand.Learnt κs a answer e
  pub expects : a.1.0 ≡ w

pub record HandOverCall (w : Expected) : Type 1 where
  pub κs : _
  pub a : _
  pub answer : Answer
  pub e : _
  pub met : hand_over.Learnt κs a answer e
  pub expects : a.1.0 ≡ w

-- what a call of either was given, and what it left
pub record Over : Type 0 where
  pub connection : Connection
  pub piece : List ℕ
  pub closed : Bool
  pub protocols : List ℕ
  pub algorithms : List ℕ
  pub buffer : List ℕ
  pub table : List ℕ
  pub handed : Handed
  pub left : List ℕ
  pub filled : List ℕ

abbrev pub handed : {w : Expected} → HandCall w → Over
handed c = record {
  connection = c.a.0;
  piece = c.a.1.1.1.0.now;
  closed = c.a.1.1.0;
  protocols = c.a.1.1.1.1.0.now;
  algorithms = c.a.1.1.1.1.1.0.now;
  buffer = c.a.1.1.1.1.1.1.0.now;
  table = c.a.1.1.1.1.1.1.1.0.now;
  handed = c.answer;
  left = c.e.1.1.1.1.1.1.0.now;
  filled = c.e.1.1.1.1.1.1.1.0.now;
}

abbrev pub handed_over : {w : Expected} → HandOverCall w → Over
handed_over c = record {
  connection = c.a.0.now;
  piece = c.a.1.1.1.0.now;
  closed = c.a.1.1.0;
  protocols = c.a.1.1.1.1.0.now;
  algorithms = c.a.1.1.1.1.1.0.now;
  buffer = c.a.1.1.1.1.1.1.0.now;
  table = c.a.1.1.1.1.1.1.1.0.now;
  handed = record { connection = c.e.0.now; answer = c.answer };
  left = c.e.1.1.1.1.1.1.0.now;
  filled = c.e.1.1.1.1.1.1.1.0.now;
}

-- what is said of a read whose answer is told by `told`, and which is lent `lent`
abbrev pub made_over : (X : Read) → (Answer → Says X.Told) → (Over → Terms) → Over → Made X
made_over X told lent o =
    made_on X o.connection o.buffer (record { piece = o.piece; closed = o.closed }) (lent o) o.table (told o.handed.answer) o.handed.connection o.left o.filled

-- a request is not asked what was offered
abbrev pub lent_request : Over → Terms
lent_request o = room_for (room_of o.table)

abbrev pub lent_reply : Over → Terms
lent_reply o = reply_form.offering o.protocols o.algorithms (room_of o.table)

-- a reply is no answer where a request is expected, nor a request where a reply is
abbrev pub said_request : Answer → Says request_form.Told
said_request answer.Waiting = nothing_yet
said_request (answer.Request q) = says (request_form.told_request q)
said_request (answer.Reply x) = nothing_yet
said_request (answer.Refused r) = says (request_form.refused_with (told_refusal r))

abbrev pub said_reply : Answer → Says reply_form.Told
said_reply answer.Waiting = nothing_yet
said_reply (answer.Request q) = nothing_yet
said_reply (answer.Reply x) = says (reply_form.told_reply x)
said_reply (answer.Refused r) = says (reply_form.refused_with (told_refusal r))

abbrev pub request_over : {C : Type 1} → (C → Over) → Feeder request_read requests.Shown
request_over over = feeder request_read (λ c. made_over request_read said_request lent_request (over c)) (λ c. (over c).handed.answer) answer.Request answer.Refused requests.handed_out

abbrev pub reply_over : {C : Type 1} → (C → Over) → Feeder reply_read replies.Shown
reply_over over = feeder reply_read (λ c. made_over reply_read said_reply lent_reply (over c)) (λ c. (over c).handed.answer) answer.Reply answer.Refused replies.handed_out

abbrev pub request_handed : Feeder request_read requests.Shown
request_handed = request_over (λ (c : HandCall expected.Request). handed c)

abbrev pub reply_handed : Feeder reply_read replies.Shown
reply_handed = reply_over (λ (c : HandCall expected.Reply). handed c)

abbrev pub request_handed_over : Feeder request_read requests.Shown
request_handed_over = request_over (λ (c : HandOverCall expected.Request). handed_over c)

abbrev pub reply_handed_over : Feeder reply_read replies.Shown
reply_handed_over = reply_over (λ (c : HandOverCall expected.Reply). handed_over c)
