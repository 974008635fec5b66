-- The readers of whole messages as their callers see them (Demand3.antt): the definitions; and calls, each with its answer and what the function's own contract says of
-- it, as the prover reads it from the source.
use Rattle.std.specs.Prelude.{ℕ, ◌≡◌, List, []}
use Rattle.nts.specs.Refusal.{told_refusal}
use Rattle.nts.specs.declared.Refusal.{Refusal}
use Rattle.layout.specs.declared.Profile.{Profile}
use Rattle.layout.specs.declared.Profile.TheVariants.{Usual, Strict}
use Rattle.walk.specs.Judge.{room_for, Under, body_in, read_by}
use Rattle.places.specs.Places.{room_of}
use Rattle.cells.specs.Cells.{word}
use Rattle.request.specs.Request as request_form
use Rattle.request.specs.declared.Request.{Request}
use Rattle.request.specs.declared.Answer as request_answer
use Rattle.request.specs.declared.Answer.TheVariants as request
use Rattle.reply.specs.Reply as reply_form
use Rattle.reply.specs.declared.KeyExchangeResponse.{KeyExchangeResponse}
use Rattle.reply.specs.declared.Answer as reply_answer
use Rattle.reply.specs.declared.Answer.TheVariants as reply
use Rattle.request.proofs.Request.parse.Reads as parse_request
use Rattle.reply.proofs.KeyExchangeResponse.parse.Reads as parse_reply
use Rattle.reading.proofs.ntske_read_request.Reads as read_request
use Rattle.reading.proofs.ntske_read_reply.Reads as read_reply
use Rattle.reading.proofs.ntske_read_request_strict.Reads as read_request_strict
use Rattle.reading.proofs.ntske_read_reply_strict.Reads as read_reply_strict
use Rattle.promises.specs.Handed as requests
use Rattle.promises.specs.HandedReply as replies
use Rattle.promises.specs.Cells.{request_in_hand, reply_in_hand}
use Rattle.promises.specs.Demand3.{Reader, defined}

-- ---- the definitions

-- `request` (of whose terms a request is asked for the room alone) and `reply_of`: what is in hand is the bodies, each as the bytes that stand there
abbrev pub request_defined : Reader (request_form.Form (List ℕ))
request_defined = defined (λ m u. read_by request_form.reader request_form.judging m u) (λ m q. request_form.map_form (body_in m) q)

abbrev pub reply_defined : Reader (reply_form.Form (List ℕ))
reply_defined = defined (λ m u. reply_form.reply_of u.profile m u.limit u.terms) (λ m q. reply_form.map_form (body_in m) q)

-- ---- request::Request::parse and reply::KeyExchangeResponse::parse

-- a profile, a limit, and the room of a lent table
abbrev pub asked : Profile → ℕ → List ℕ → Under
asked P n table = record { profile = P; limit = n; terms = room_for (room_of table) }

-- .. and, of a reply, the two lists that were offered
abbrev pub asked_reply : Profile → ℕ → List ℕ → List ℕ → List ℕ → Under
asked_reply P n protocols algorithms table = record { profile = P; limit = n; terms = reply_form.offering protocols algorithms (room_of table) }

pub record ParseRequest : Type 1 where
  pub κs : _
  pub a : _
  pub answer : request_answer.Answer
  pub e : _
  pub met : parse_request.Learnt κs a answer e

pub record ParseReply : Type 1 where
  pub κs : _
  pub a : _
  pub answer : reply_answer.Answer
  pub e : _
  pub met : parse_reply.Learnt κs a answer e

-- a reader of requests over its calls, each with a profile, a message, a limit, a table, an answer and the table afterwards: it answered a request, and what is in hand of it
-- and of the table is s; or a refusal, and no cell of the table changed
abbrev pub answering : (C : Type 1) → (C → Profile) → (C → List ℕ) → (C → ℕ) → (C → List ℕ) → (C → request_answer.Answer) → (C → List ℕ) → Reader requests.Shown
answering C P m n table answer table' = record {
  Call = C;
  asked = m;
  under = λ c. asked (P c) (n c) (table c);
  Holds = λ c k. Unit {0};
  Accepts = λ c s. (x : Request) × (answer c ≡ request.Accepted x) × (requests.handed_out (m c) (table' c) x ≡ s);
  Refuses = λ c y. (x : Refusal) × (answer c ≡ request.Refused x) × (told_refusal x ≡ y) × (table' c ≡ table c);
}

abbrev pub request_parse : Reader requests.Shown
request_parse =
    answering ParseRequest (λ c. c.a.0) (λ c. c.a.1.0.now) (λ c. c.a.1.1.0) (λ c. c.a.1.1.1.0.now) (λ c. c.answer) (λ c. c.e.1.1.1.0.now)

-- .. and of replies
abbrev pub reply_parse : Reader replies.Shown
reply_parse = record {
  Call = ParseReply;
  asked = λ c. c.a.1.0.now;
  under = λ c. asked_reply c.a.0 c.a.1.1.0 c.a.1.1.1.0.now c.a.1.1.1.1.0.now c.a.1.1.1.1.1.0.now;
  Holds = λ c n. Unit {0};
  Accepts = λ c s. (x : KeyExchangeResponse) × (c.answer ≡ reply.Accepted x) × (replies.handed_out c.a.1.0.now c.e.1.1.1.1.1.0.now x ≡ s);
  Refuses = λ c y. (x : Refusal) × (c.answer ≡ reply.Refused x) × (told_refusal x ≡ y) × (c.e.1.1.1.1.1.0.now ≡ c.a.1.1.1.1.1.0.now);
}

-- ---- ntske_read_request and ntske_read_reply, which a host links, and ntske_read_request_strict and ntske_read_reply_strict, which read in the strict profile

pub record ReadRequest : Type 1 where
  pub κs : _
  pub a : _
  pub answer : ℕ
  pub e : _
  pub met : read_request.Learnt κs a answer e

pub record ReadReply : Type 1 where
  pub κs : _
  pub a : _
  pub answer : ℕ
  pub e : _
  pub met : read_reply.Learnt κs a answer e

pub record ReadRequestStrict : Type 1 where
  pub κs : _
  pub a : _
  pub answer : ℕ
  pub e : _
  pub met : read_request_strict.Learnt κs a answer e

pub record ReadReplyStrict : Type 1 where
  pub κs : _
  pub a : _
  pub answer : ℕ
  pub e : _
  pub met : read_reply_strict.Learnt κs a answer e

-- what a call was given, and what it left: of a reply, the two lists that were offered; of a request, which is not asked for them, none
pub record HostRead : Type 0 where
  pub message : List ℕ
  pub limit : ℕ
  pub protocols : List ℕ
  pub algorithms : List ℕ
  pub table : List ℕ
  pub lent : List ℕ
  pub answer : ℕ
  pub filled : List ℕ
  pub after : List ℕ

-- a reader of requests in the profile P over its calls: it returned 0, and what is in hand by the table and the cells is s; or the word of a refusal, and neither changed
abbrev pub answering_host : (C : Type 1) → Profile → (C → HostRead) → Reader requests.Shown
answering_host C P of = record {
  Call = C;
  asked = λ c. (of c).message;
  under = λ c. asked P (of c).limit (of c).table;
  Holds = λ c k. Unit {0};
  Accepts = λ c s. ((of c).answer ≡ 0) × (request_in_hand (of c).message (of c).filled (of c).after ≡ s);
  Refuses = λ c y. ((of c).answer ≡ word y) × ((of c).filled ≡ (of c).table) × ((of c).after ≡ (of c).lent);
}

-- .. and of replies
abbrev pub answering_host_reply : (C : Type 1) → Profile → (C → HostRead) → Reader replies.Shown
answering_host_reply C P of = record {
  Call = C;
  asked = λ c. (of c).message;
  under = λ c. asked_reply P (of c).limit (of c).protocols (of c).algorithms (of c).table;
  Holds = λ c k. Unit {0};
  Accepts = λ c s. ((of c).answer ≡ 0) × (reply_in_hand (of c).message (of c).filled (of c).after ≡ s);
  Refuses = λ c y. ((of c).answer ≡ word y) × ((of c).filled ≡ (of c).table) × ((of c).after ≡ (of c).lent);
}

abbrev pub request_host : ReadRequest → HostRead
request_host c = record {
  message = c.a.0.now;
  limit = c.a.1.0;
  protocols = [];
  algorithms = [];
  table = c.a.1.1.0.now;
  lent = c.a.1.1.1.0.now;
  answer = c.answer;
  filled = c.e.1.1.0.now;
  after = c.e.1.1.1.0.now;
}

abbrev pub request_host_strict : ReadRequestStrict → HostRead
request_host_strict c = record {
  message = c.a.0.now;
  limit = c.a.1.0;
  protocols = [];
  algorithms = [];
  table = c.a.1.1.0.now;
  lent = c.a.1.1.1.0.now;
  answer = c.answer;
  filled = c.e.1.1.0.now;
  after = c.e.1.1.1.0.now;
}

abbrev pub reply_host : ReadReply → HostRead
reply_host c = record {
  message = c.a.0.now;
  limit = c.a.1.0;
  protocols = c.a.1.1.0.now;
  algorithms = c.a.1.1.1.0.now;
  table = c.a.1.1.1.1.0.now;
  lent = c.a.1.1.1.1.1.0.now;
  answer = c.answer;
  filled = c.e.1.1.1.1.0.now;
  after = c.e.1.1.1.1.1.0.now;
}

abbrev pub reply_host_strict : ReadReplyStrict → HostRead
reply_host_strict c = record {
  message = c.a.0.now;
  limit = c.a.1.0;
  protocols = c.a.1.1.0.now;
  algorithms = c.a.1.1.1.0.now;
  table = c.a.1.1.1.1.0.now;
  lent = c.a.1.1.1.1.1.0.now;
  answer = c.answer;
  filled = c.e.1.1.1.1.0.now;
  after = c.e.1.1.1.1.1.0.now;
}

abbrev pub request_read : Reader requests.Shown
request_read = answering_host ReadRequest Usual request_host

abbrev pub request_read_strict : Reader requests.Shown
request_read_strict = answering_host ReadRequestStrict Strict request_host_strict

abbrev pub reply_read : Reader replies.Shown
reply_read = answering_host_reply ReadReply Usual reply_host

abbrev pub reply_read_strict : Reader replies.Shown
reply_read_strict = answering_host_reply ReadReplyStrict Strict reply_host_strict
