-- The calls that feed a read for a host, as the host sees them: it keeps the connection as nine cells, hands pieces to one function and tells the close to another, in any
-- order on one line. Each call with what the function's own contract says of it, as the prover reads it from the source; and what Pieces.antt says of a read fed in pieces,
-- said of the host's own cells and words. proofs/PiecesFace.antt proves it, for requests and for replies.
use Rattle.std.specs.Prelude.{ℕ, ◌/◌, ◌%◌, ◌≤◌, ◌<◌, ◌≡◌, List, [], ◌∷◌, true, false, cond, get_or, eqb}
use Rattle.nts.specs.Refusal.{Refused}
use Rattle.walk.specs.Judge.{Terms, room_for}
use Rattle.layout.specs.declared.Part.{Part}
use Rattle.layout.specs.declared.Profile.{Profile}
use Rattle.layout.specs.declared.Profile.TheVariants.{Usual}
use Rattle.places.specs.Places.{room_of}
use Rattle.request.specs.Request as requests
use Rattle.reply.specs.Reply as replies
use Rattle.pieces.specs.Pieces.{Line, started, pending, Brought, Read, Says, nothing_yet, says, held}
use Rattle.pieces.specs.Reads.{request_read, reply_read}
use Rattle.cells.specs.Cells.{Given, word, cell}
use Rattle.feeding.specs.Fed.{line_cells, is_connection, number_in, beside_in, line_in, fed_word, fed_cells}
use Rattle.feeding.proofs.ntske_feed_request.Reads as feed_request
use Rattle.feeding.proofs.ntske_close_request.Reads as close_request
use Rattle.feeding.proofs.ntske_feed_reply.Reads as feed_reply
use Rattle.feeding.proofs.ntske_close_reply.Reads as close_reply
use Rattle.promises.specs.Handed as handed
use Rattle.promises.specs.HandedReply as handed_reply
use Rattle.promises.specs.Cells.{request_in_hand, reply_in_hand}
use Rattle.promises.specs.Pieces.{Feeder, made_by, OnLine, HoweverCut}

-- ---- a call

-- what a host lends, and finds there afterwards: the connection's cells, the buffer, the table and the answer's cells
pub record Lent : Type 0 where
  pub connection : List ℕ
  pub buffer : List ℕ
  pub table : List ℕ
  pub answer : List ℕ

pub record HostCall : Type 0 where
  pub brought : Brought
  -- the table's room, and what was offered
  pub terms : Terms
  pub lent : Lent
  pub word : ℕ
  pub left : Lent

-- ---- what it says

-- a connection that counts a byte more than its limit
abbrev pub unheld : Line
unheld = record { profile = Usual; limit = 0; gathered = 1; begins = 0; met = 0; standing = pending }

-- the connection that cells hold; cells that hold none count as that one: either is 9, and changes nothing
abbrev pub connection_in : List ℕ → Line
connection_in c = cond (is_connection c) (line_in c) unheld

-- the refusal of a word: bits 0 to 15 are its number with what was not offered, bits 16 to 31 the number beside it, and bits 32 to 63 its place
abbrev pub refusal_in : ℕ → Refused
refusal_in w = record { number = number_in (w % 65536); beside = beside_in (w % 65536) (w / 65536 % 65536); place = w / 4294967296 }

-- of the word and the answer's cells: 65,535 says that the read waits, 0 what the cells tell, and every other word a refusal
abbrev pub said_in : {T : Type 0} → (List ℕ → T) → (Refused → T) → ℕ → List ℕ → Says T
said_in tells refuses w c = cond (eqb w 65535) nothing_yet (says (cond (eqb w 0) (tells c) (refuses (refusal_in w))))

-- the part of the message whose start and length stand in two cells
abbrev pub part_told : List ℕ → ℕ → ℕ → Part
part_told c i j = record { start = cell c i; len = cell c j }

-- the request that ten cells tell, as include/ntske.h says; the first cell is the request's sort
abbrev pub request_told : List ℕ → requests.Told
request_told c =
    cond (eqb (cell c 0) 1)
    (requests.key_exchange_is (part_told c 1 2) (part_told c 3 4) (cell c 5))
    (cond (eqb (cell c 0) 2)
    (requests.fixed_key_is (part_told c 1 2) (part_told c 3 4) (part_told c 5 6) (cell c 7) (cell c 8) (eqb (cell c 9) 1))
    (requests.support_is (part_told c 1 2) (eqb (cell c 3) 1) (eqb (cell c 4) 1) (eqb (cell c 5) 1)))

-- .. and the reply that nine do
abbrev pub reply_told : List ℕ → replies.Told
reply_told c =
    replies.reply_is (cell c 0) (cell c 1) (cond (eqb (cell c 2) 1) (replies.sent (part_told c 3 4)) replies.not_sent) (cond (eqb (cell c 5) 1) (replies.sent (cell c 6)) replies.not_sent)
    (eqb (cell c 7) 1) (cell c 8)

-- ---- functions with the calls C, of which `of` gives what the host lent and got

-- `tells` and `refuses` say what is told by cells and by a refusal's word, and `hand` what is in hand by the bytes gathered, the table and the answer's cells. It accepted where
-- it returned 0 and s is in hand; it refused where it returned the refusal's word and changed neither table nor answer's cells
abbrev pub host_feeder : (X : Read) {C : Type 1} {S : Type 0} → (C → HostCall) → (List ℕ → X.Told) → (Refused → X.Told) → (List ℕ → List ℕ → List ℕ → S) → Feeder X S
host_feeder X {C} {S} of tells refuses hand = record {
  Call = C;
  made = λ c. record {
    before = connection_in (of c).lent.connection;
    lent = (of c).lent.buffer;
    brought = (of c).brought;
    terms = (of c).terms;
    table = (of c).lent.table;
    said = said_in tells refuses (of c).word (of c).left.answer;
    after = connection_in (of c).left.connection;
    left = (of c).left.buffer;
    filled = (of c).left.table;
  };
  Accepts = λ c s. ((of c).word ≡ 0) × (hand (held (connection_in (of c).left.connection) (of c).left.buffer) (of c).left.table (of c).left.answer ≡ s);
  Refuses = λ c y. ((of c).word ≡ word y) × ((of c).left.table ≡ (of c).lent.table) × ((of c).left.answer ≡ (of c).lent.answer);
}

-- a call of the function that is handed pieces, or of the one that is told the close
pub data Either (A B : Type 1) : Type 1 where
  feeds : A → Either A B
  closes : B → Either A B

-- ---- ntske_feed_request and ntske_close_request

-- what the type u8 says of a piece and of a buffer, and no contract repeats
abbrev pub Bytes : List ℕ → Type 0
Bytes s = (i : ℕ) → get_or s i 0 < 256

pub record HostFeedRequest : Type 1 where
  pub κs : _
  pub a : _
  pub word : ℕ
  pub e : _
  pub met : feed_request.Learnt κs a word e
  pub piece : Bytes a.1.0.now
  pub buffer : Bytes a.1.1.0.now

pub record HostCloseRequest : Type 1 where
  pub κs : _
  pub a : _
  pub word : ℕ
  pub e : _
  pub met : close_request.Learnt κs a word e
  pub buffer : Bytes a.1.0.now

abbrev pub request_call : Either HostFeedRequest HostCloseRequest → HostCall
request_call (feeds c) = record {
  brought = record { piece = c.a.1.0.now; closed = false };
  terms = room_for (room_of c.a.1.1.1.0.now);
  lent = record { connection = c.a.0.now; buffer = c.a.1.1.0.now; table = c.a.1.1.1.0.now; answer = c.a.1.1.1.1.0.now };
  word = c.word;
  left = record { connection = c.e.0.now; buffer = c.e.1.1.0.now; table = c.e.1.1.1.0.now; answer = c.e.1.1.1.1.0.now };
}
request_call (closes c) = record {
  brought = record { piece = []; closed = true };
  terms = room_for (room_of c.a.1.1.0.now);
  lent = record { connection = c.a.0.now; buffer = c.a.1.0.now; table = c.a.1.1.0.now; answer = c.a.1.1.1.0.now };
  word = c.word;
  left = record { connection = c.e.0.now; buffer = c.e.1.0.now; table = c.e.1.1.0.now; answer = c.e.1.1.1.0.now };
}

abbrev pub request_by_host : Feeder request_read handed.Shown
request_by_host = host_feeder request_read request_call request_told requests.refused_with request_in_hand

-- ---- ntske_feed_reply and ntske_close_reply

pub record HostFeedReply : Type 1 where
  pub κs : _
  pub a : _
  pub word : ℕ
  pub e : _
  pub met : feed_reply.Learnt κs a word e
  pub piece : Bytes a.1.0.now
  pub buffer : Bytes a.1.1.1.1.0.now

pub record HostCloseReply : Type 1 where
  pub κs : _
  pub a : _
  pub word : ℕ
  pub e : _
  pub met : close_reply.Learnt κs a word e
  pub buffer : Bytes a.1.1.1.0.now

abbrev pub reply_call : Either HostFeedReply HostCloseReply → HostCall
reply_call (feeds c) = record {
  brought = record { piece = c.a.1.0.now; closed = false };
  terms = replies.offering c.a.1.1.0.now c.a.1.1.1.0.now (room_of c.a.1.1.1.1.1.0.now);
  lent = record { connection = c.a.0.now; buffer = c.a.1.1.1.1.0.now; table = c.a.1.1.1.1.1.0.now; answer = c.a.1.1.1.1.1.1.0.now };
  word = c.word;
  left = record { connection = c.e.0.now; buffer = c.e.1.1.1.1.0.now; table = c.e.1.1.1.1.1.0.now; answer = c.e.1.1.1.1.1.1.0.now };
}
reply_call (closes c) = record {
  brought = record { piece = []; closed = true };
  terms = replies.offering c.a.1.0.now c.a.1.1.0.now (room_of c.a.1.1.1.1.0.now);
  lent = record { connection = c.a.0.now; buffer = c.a.1.1.1.0.now; table = c.a.1.1.1.1.0.now; answer = c.a.1.1.1.1.1.0.now };
  word = c.word;
  left = record { connection = c.e.0.now; buffer = c.e.1.1.1.0.now; table = c.e.1.1.1.1.0.now; answer = c.e.1.1.1.1.1.0.now };
}

abbrev pub reply_by_host : Feeder reply_read handed_reply.Shown
reply_by_host = host_feeder reply_read reply_call reply_told replies.refused_with reply_in_hand

-- ---- calls on one line, the latest first

abbrev pub host_calls : {C : Type 1} → (C → HostCall) → List C → List HostCall
host_calls of [] = []
host_calls of (x ∷ xs) = of x ∷ host_calls of xs

-- after ntske_connection_new, or in the strict profile ntske_connection_new_strict, under the limit n, with the buffer b
abbrev pub cells_in : Profile → ℕ → List HostCall → List ℕ
cells_in P n [] = line_cells (started P n)
cells_in P n (x ∷ xs) = x.left.connection

abbrev pub buffer_in : List ℕ → List HostCall → List ℕ
buffer_in b [] = b
buffer_in b (x ∷ xs) = x.left.buffer

-- "The handler returns record and buffer as it got them", the record as cells; table, offered lists and answer's cells may be others each time
abbrev pub OnCells : Profile → ℕ → List ℕ → List HostCall → Type 0
OnCells P n b [] = Unit {0}
OnCells P n b (x ∷ xs) = (x.lent.connection ≡ cells_in P n xs) × (x.lent.buffer ≡ buffer_in b xs) × OnCells P n b xs

-- a connection, whose cells they are
abbrev pub Holds : List ℕ → Type 0
Holds c = (is_connection c ≡ true) × (c ≡ line_cells (connection_in c))

-- ---- however cut

-- `of` tells what the host lent and got, and f gives the cells of what is told; n ≤ 65535 is what the type u16 says of a limit
pub record CutByHost {X : Read} {S : Type 0} (F : Feeder X S) (of : F.Call → HostCall) (f : X.Told → Given) : Type 1 where
  -- such calls are on one line, so Pieces.antt says of them what is answered and left ..
  pub online : (P : Profile) (n : ℕ) (b : List ℕ) (xs : List F.Call) → n ≤ 65535 → OnCells P n b (host_calls of xs) → OnLine P n b (made_by F xs)
  pub cut : HoweverCut F
  -- .. and their cells always hold a connection, and are the cells of just that one
  pub holds : (P : Profile) (n : ℕ) (b : List ℕ) (xs : List F.Call) → n ≤ 65535 → OnCells P n b (host_calls of xs) → Holds (cells_in P n (host_calls of xs))
  -- the word is 65,535 while nothing is said, 0 where what is said is accepted, and otherwise the refusal's; and the answer's cells are those of what is accepted, or as they
  -- were lent
  pub word : (c : F.Call) → (of c).word ≡ fed_word f (F.made c).said
  pub answer : (c : F.Call) → (of c).left.answer ≡ fed_cells f (F.made c).said (of c).lent.answer
