-- Demand 1, "A refusal bears its number from document 01": what it is to refuse with exactly these numbers, what each sort of answer bears, and the numbers of each
-- call: 01, "Numbers a call can refuse with", and the rules of each call as they are cited.
use Rattle.std.specs.Prelude.{ℕ, ◌≤◌, ◌≡◌, List, [], ◌∷◌, true, cond, eqb}
use Rattle.layout.specs.Write as write
use Rattle.layout.specs.declared.Profile.{Profile}
use Rattle.layout.specs.declared.Profile.TheVariants.{Usual, Strict}
use Rattle.record.specs.Record as rec
use Rattle.walk.specs.Walk as walk
use Rattle.walk.specs.Judge as judge
use Rattle.walk.specs.Finding.{Found}
use Rattle.places.specs.Places as places
use Rattle.negotiation.specs.Negotiation as choice
use Rattle.negotiation.specs.Negotiation.{holds}
use Rattle.pieces.specs.Pieces as pieces
use Rattle.pieces.specs.Pieces.{Standing, pending, accepted, refused}
use Rattle.pieces.specs.declared.Expected.{Expected}
use Rattle.pieces.specs.declared.Expected.TheVariants as expected
use Rattle.feeding.specs.Fed.{number_in}
use Rattle.plan.specs.Plan as plan
use Rattle.plan.specs.declared.Plan.{Plan}
use Rattle.messages.specs.declared.Asked.{Asked}
use Rattle.cells.specs.Cells as cells

-- ---- exactly these numbers

-- a number of the table, or of 02, orders 1, 3 and 5
abbrev pub Table : ℕ → Type 0
Table n = (1 ≤ n) × (n ≤ 18)

-- n is one of them
abbrev pub In : ℕ → List ℕ → Type 0
In n l = holds l n ≡ true

abbrev pub All : (ℕ → Type 0) → List ℕ → Type 0
All P [] = Unit {0}
All P (n ∷ l) = P n × All P l

-- what an answer bears: no number, or that of its refusal
pub data Number : Type 0 where
  none : Number
  bears : ℕ → Number

-- f refuses with each of these numbers, each shown by one input, and with no other
pub record Exactly {X : Type 0} (f : X → Number) (l : List ℕ) : Type 0 where
  pub only : (x : X) (n : ℕ) → f x ≡ bears n → In n l
  pub each : All (λ n. (x : X) × (f x ≡ bears n)) l

-- ---- the number that an answer bears

-- of a writer or a length
abbrev pub of_count : write.Count → Number
of_count (write.bytes n) = none
of_count (write.refused k b) = bears k

-- of a reader of one record, and of a look at one
abbrev pub of_read : rec.Told → Number
of_read (rec.read x bit next) = none
of_read (rec.refused r) = bears r.number

abbrev pub of_sight : rec.Sight → Number
of_sight (rec.whole k bit n) = none
of_sight (rec.broken r) = bears r.number

-- of a walk, and of a reader of whole messages
abbrev pub of_outcome : walk.Outcome → Number
of_outcome (walk.stopped r) = bears r.number
of_outcome (walk.ended at next st) = none

abbrev pub of_answer : {Q : Type 0 → Type 0} → judge.Answer Q → Number
of_answer (judge.refused r) = bears r.number
of_answer (judge.accepted q) = none

-- of a read that is fed in pieces
abbrev pub of_fed : {Q : Type 0 → Type 0} → pieces.Fed Q → Number
of_fed pieces.none = none
of_fed (pieces.answers a) = of_answer a

-- of a table that is filled
abbrev pub of_filling : places.Filling → Number
of_filling (places.stored n) = none
of_filling (places.first n) = none
of_filling (places.refused_with r) = bears r.number

-- of a choice, and of the choice of a protocol alone
abbrev pub of_choice : choice.Told → Number
of_choice (choice.chosen p a) = none
of_choice (choice.refused k b) = bears k

abbrev pub of_protocol : choice.Protocol → Number
of_protocol (choice.agreed p) = none
of_protocol (choice.refused_with k b) = bears k

-- of a cookie appended
abbrev pub of_appended : plan.Told → Number
of_appended (plan.grown x) = none
of_appended (plan.refused_with k b) = bears k

-- of a call that a host links
abbrev pub of_given : cells.Given → Number
of_given (cells.cells c) = none
of_given (cells.refuses r) = bears r.number

-- ---- the numbers of each call

-- one record: "bytes missing", "ill-formed"
abbrev pub record_numbers : List ℕ
record_numbers = 1 ∷ 2 ∷ []

-- 02, order 5: 18, in the strict profile alone
abbrev pub or_not_allowed : Profile → List ℕ → List ℕ
or_not_allowed Usual l = l
or_not_allowed Strict l = 18 ∷ l

-- a walk by any table: these, "unknown is 3 with its bit set", "is 4", and "error or warning in a reply"
abbrev pub walk_numbers : Profile → List ℕ
walk_numbers P = or_not_allowed P (1 ∷ 2 ∷ 3 ∷ 4 ∷ 11 ∷ 12 ∷ [])

-- "From records to a request"; a strict one has no keys and no denied names
abbrev pub request_numbers : Profile → List ℕ
request_numbers Usual = 1 ∷ 2 ∷ 3 ∷ 4 ∷ 5 ∷ 6 ∷ 7 ∷ []
request_numbers Strict = 18 ∷ 1 ∷ 2 ∷ 3 ∷ 4 ∷ []

-- its walk alone: "in record order"; 02, order 2: why it stopped
abbrev pub stop_numbers : List ℕ
stop_numbers = 1 ∷ 2 ∷ 3 ∷ 4 ∷ []

-- 02, order 2: "9 from the second call, before all others", and the reader's
abbrev pub decide_numbers : List ℕ
decide_numbers = 9 ∷ 1 ∷ 2 ∷ 3 ∷ 4 ∷ 5 ∷ 6 ∷ 7 ∷ []

-- "The reply reader goes in record order", and 02, order 3: 17 "for a protocol and then for an algorithm not offered"
abbrev pub reply_numbers : Profile → List ℕ
reply_numbers P = or_not_allowed P (1 ∷ 2 ∷ 3 ∷ 4 ∷ 7 ∷ 11 ∷ 12 ∷ 13 ∷ 14 ∷ 15 ∷ 17 ∷ [])

-- a read that is fed in pieces: these of a request or of a reply, 9 "for a connection record that counts more bytes than the buffer or the limit", and 16 (02, order 1) ..
abbrev pub feed_request_numbers : Profile → List ℕ
feed_request_numbers P = 9 ∷ 16 ∷ request_numbers P

abbrev pub feed_reply_numbers : Profile → List ℕ
feed_reply_numbers P = 9 ∷ 16 ∷ reply_numbers P

-- by which message is expected, and in which profile
abbrev pub expected_numbers : Expected → Profile → List ℕ
expected_numbers expected.Request P = feed_request_numbers P
expected_numbers expected.Reply P = feed_reply_numbers P

-- .. and the number of the refusal that the connection holds, where it holds one: "later calls change nothing and give it again"
abbrev pub or_kept : Standing → List ℕ → List ℕ
or_kept pending l = l
or_kept accepted l = l
or_kept (refused r) l = r.number ∷ l

-- the same of a connection's cells c
abbrev pub or_held : List ℕ → List ℕ → List ℕ
or_held c l = cond (eqb (cells.cell c 4) 2) (number_in (cells.cell c 5) ∷ l) l

-- a table to fill: "more names in a key-exchange request or cookies in a reply than the table holds", or more bytes than a cell counts (docs/DECISIONS.md)
abbrev pub fill_numbers : List ℕ
fill_numbers = 7 ∷ []

-- "After 9, it answers 13 or 14 exactly if no common number exists"
abbrev pub choice_numbers : List ℕ
choice_numbers = 9 ∷ 13 ∷ 14 ∷ []

abbrev pub protocol_numbers : List ℕ
protocol_numbers = 9 ∷ 13 ∷ []

-- the length of a record, a request or a support reply: "a body to write exceeds 65,535 bytes", "a value that is no record, plan or tray"
abbrev pub length_numbers : List ℕ
length_numbers = 8 ∷ 9 ∷ []

-- its writer, and a denied name appended: these, and "the output is shorter than the exact length needed"
abbrev pub writer_numbers : List ℕ
writer_numbers = 8 ∷ 9 ∷ 10 ∷ []

-- "append a cookie (at most 8; 9 for a broken tray, then 8 for the length, 7 for the ninth, 10 for no room)"
abbrev pub append_numbers : List ℕ
append_numbers = 7 ∷ 8 ∷ 9 ∷ 10 ∷ []

-- a plan's length, and a plan that is changed: "a value that is no record, plan or tray"
abbrev pub plan_numbers : List ℕ
plan_numbers = 9 ∷ []

-- a reply: that, "no cookie", and no room
abbrev pub reply_writer_numbers : List ℕ
reply_writer_numbers = 9 ∷ 15 ∷ 10 ∷ []

-- a message of a length that is known, and a listing: no room
abbrev pub room_numbers : List ℕ
room_numbers = 10 ∷ []

-- the length of a key: "Another algorithm is 5"
abbrev pub key_numbers : List ℕ
key_numbers = 5 ∷ []

-- ---- what a call is asked, where that is more than two things

-- of a reader of requests
pub record Read : Type 0 where
  pub message : List ℕ
  pub limit : ℕ
  pub room : ℕ

-- of a reader of replies, with what is lent beside the message
pub record ReadReply : Type 0 where
  pub message : List ℕ
  pub limit : ℕ
  pub terms : judge.Terms

-- of a decision from a finding
pub record Decided : Type 0 where
  pub found : Found
  pub message : List ℕ
  pub room : ℕ

-- a read that is fed in pieces and has no answer yet: its connection, the buffer, what is brought, and what is lent beside it
pub record Piecewise : Type 0 where
  pub limit : ℕ
  pub gathered : ℕ
  pub begins : ℕ
  pub met : ℕ
  pub buffer : List ℕ
  pub brought : pieces.Brought
  pub terms : judge.Terms

-- .. in a profile
abbrev pub line_of : Profile → Piecewise → pieces.Line
line_of P x = record { profile = P; limit = x.limit; gathered = x.gathered; begins = x.begins; met = x.met; standing = pending }

pub record Filled : Type 0 where
  pub kind : ℕ
  pub count : ℕ
  pub covered : List ℕ
  pub room : ℕ

pub record Offered : Type 0 where
  pub protocols : List ℕ
  pub algorithms : List ℕ
  pub own_protocols : List ℕ
  pub own_algorithms : List ℕ

pub record Cookie : Type 0 where
  pub plan : Plan
  pub cookie : List ℕ
  pub tray : List ℕ

pub record Denied : Type 0 where
  pub used : ℕ
  pub name : List ℕ
  pub tray : List ℕ

-- of the writers of replies, of support replies and of requests
pub record Reply : Type 0 where
  pub plan : Plan
  pub tray : List ℕ
  pub server : List ℕ

pub record Support : Type 0 where
  pub asked : Asked
  pub pairs : List ℕ
  pub protocols : List ℕ

pub record Request : Type 0 where
  pub protocols : List ℕ
  pub algorithms : List ℕ
  pub tray : List ℕ
  pub used : ℕ

-- by a host, where a plan, or what is asked for, is cells or a number
pub record HostCookie : Type 0 where
  pub cells : List ℕ
  pub cookie : List ℕ
  pub tray : List ℕ

pub record HostReply : Type 0 where
  pub cells : List ℕ
  pub tray : List ℕ
  pub server : List ℕ
  pub room : ℕ

pub record HostSupport : Type 0 where
  pub asked : ℕ
  pub pairs : List ℕ
  pub protocols : List ℕ
