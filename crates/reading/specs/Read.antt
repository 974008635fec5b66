-- The answers of the readers as cells: 01, "The record", "From records to a request" and "Choosing and replying"; 02, order 5: those of a strict read are the same.
-- Cells that an answer does not use are 0.
use Rattle.std.specs.Prelude.{ℕ, ◌≡◌, List, [], ◌∷◌}
use Rattle.layout.specs.declared.Part.{Part}
use Rattle.layout.specs.declared.Profile.{Profile}
use Rattle.layout.specs.declared.Bit.{Bit}
use Rattle.layout.specs.declared.Bit.TheVariants as named
use Rattle.record.specs.Record as rec
use Rattle.places.specs.Places.{room_of}
use Rattle.request.specs.Request as request
use Rattle.reply.specs.Reply as reply
use Rattle.cells.specs.Cells.{unplaced, Given, cells, refuses, Gives, flag}

-- ---- a request: ten cells

-- 1, protocols, algorithms, names; 2, authentication, both keys, algorithm, protocol, keep-alive; 3, authentication, what is wanted, keep-alive
abbrev pub request_given : request.Told → Given
request_given (request.key_exchange_is p a n) = cells (1 ∷ p.start ∷ p.len ∷ a.start ∷ a.len ∷ n ∷ 0 ∷ 0 ∷ 0 ∷ 0 ∷ [])
request_given (request.fixed_key_is u c s a p k) = cells (2 ∷ u.start ∷ u.len ∷ c.start ∷ c.len ∷ s.start ∷ s.len ∷ a ∷ p ∷ flag k ∷ [])
request_given (request.support_is u p a k) = cells (3 ∷ u.start ∷ u.len ∷ flag p ∷ flag a ∷ flag k ∷ 0 ∷ 0 ∷ 0 ∷ 0 ∷ [])
request_given (request.refused_with r) = refuses r

-- the call in a profile: its answer, and the table of names afterwards
pub record ReadsRequest (P : Profile) (m : List ℕ) (n : ℕ) (table lent : List ℕ) (r : ℕ) (table' after : List ℕ) : Type 0 where
  pub gives : Gives (request_given (request.told_by m (request.request P m n (room_of table)))) lent r after
  pub left : table' ≡ request.table_after (request.request P m n (room_of table)) table

-- ---- a reply: nine cells

abbrev pub server_there : reply.Sent Part → ℕ
server_there reply.not_sent = 0
server_there (reply.sent p) = 1

abbrev pub server_name : reply.Sent Part → Part
server_name reply.not_sent = record { start = 0; len = 0 }
server_name (reply.sent p) = p

abbrev pub port_there : reply.Sent ℕ → ℕ
port_there reply.not_sent = 0
port_there (reply.sent n) = 1

abbrev pub port_number : reply.Sent ℕ → ℕ
port_number reply.not_sent = 0
port_number (reply.sent n) = n

-- protocol, algorithm, the server's name if sent, the port if sent, keep-alive, and how many cookies there are
abbrev pub reply_given : reply.Told → Given
reply_given (reply.reply_is p a s t k c) =
    cells (p ∷ a ∷ server_there s ∷ (server_name s).start ∷ (server_name s).len ∷ port_there t ∷ port_number t ∷ flag k ∷ c ∷ [])
reply_given (reply.refused_with r) = refuses r

pub record ReadsReply (P : Profile) (m : List ℕ) (n : ℕ) (protocols algorithms table lent : List ℕ) (r : ℕ) (table' after : List ℕ) : Type 0 where
  pub gives : Gives (reply_given (reply.told_by m (reply.reply_of P m n (reply.offering protocols algorithms (room_of table))))) lent r after
  pub left : table' ≡ reply.table_after (reply.reply_of P m n (reply.offering protocols algorithms (room_of table))) table

-- ---- one record: eight cells

-- its kind, its bit as received, whatever the kind is, a number, one or two parts, and the place after it. An unknown record's own bit is the one received
-- (`read_own_bit`, record/proofs/Bits.antt)
abbrev pub value_cells : ℕ → ℕ → rec.Value → ℕ → List ℕ
value_cells k b rec.skipped n = k ∷ b ∷ 0 ∷ 0 ∷ 0 ∷ 0 ∷ 0 ∷ n ∷ []
value_cells k b (rec.number x) n = k ∷ b ∷ x ∷ 0 ∷ 0 ∷ 0 ∷ 0 ∷ n ∷ []
value_cells k b (rec.part s l) n = k ∷ b ∷ 0 ∷ s ∷ l ∷ 0 ∷ 0 ∷ n ∷ []
value_cells k b (rec.halves s l t o) n = k ∷ b ∷ 0 ∷ s ∷ l ∷ t ∷ o ∷ n ∷ []
value_cells k b (rec.unknown own s l) n = k ∷ b ∷ 0 ∷ s ∷ l ∷ 0 ∷ 0 ∷ n ∷ []

-- a refusal's place is the place that was asked for (`record_place`, proofs/Read.antt), so the word has none
abbrev pub record_given : rec.Told → Given
record_given (rec.read x bit n) = cells (value_cells x.kind (flag bit) x.value n)
record_given (rec.refused r) = refuses (unplaced r.number r.beside)

-- ---- the bit that the table names for a kind: one number

abbrev pub bit_cell : Bit → ℕ
bit_cell named.Clear = 0
bit_cell named.Set = 1
bit_cell named.Given = 2
