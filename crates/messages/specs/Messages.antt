-- Whole messages as they are written: 01, "Choosing and replying" ("Order written"), and the column "Bit written" of 01's table
-- (layout/specs/Table.antt); the order of a writer's checks: 01, "Numbers a call can refuse with".
use Rattle.std.specs.Prelude.{ℕ, ◌+◌, ◌*◌, ◌%◌, List, [], ◌∷◌, ◌++◌, map, Bool, true, false, cond, ◌&&◌, ◌||◌, length, ltb, eqb}
use Rattle.wire.specs.Over.{bytes_of}
use Rattle.utf8.specs.Utf8.{well_formed}
use Rattle.nts.specs.Refusal.{nothing}
use Rattle.layout.specs.Table.{bit_of}
use Rattle.layout.specs.Write.{word_of, header, Count, bytes, refused}
use Rattle.walk.specs.Message.{flat}
use Rattle.plan.specs.Tray.{Fields, broken, fields, bytes_in}
use Rattle.plan.specs.Plan.{name_length, reply_length}
use Rattle.plan.specs.declared.Plan.{Plan}
use Rattle.plan.specs.declared.Port.{Port}
use Rattle.plan.specs.declared.Port.TheVariants as port
use Rattle.plan.specs.declared.NameLength.{NameLength}
use Rattle.plan.specs.declared.NameLength.TheVariants as name
use Rattle.messages.specs.declared.Asked.{Asked}

-- ---- records

-- a record with a type word and a body
unfoldable pub record_of : ℕ → List ℕ → List ℕ
record_of word b = header word (length b) ++ b

-- of a known kind, with the table's bit
abbrev pub record_with : ℕ → List ℕ → List ℕ
record_with k b = record_of (word_of k (bit_of k false)) b

-- a list of numbers from a host's cells
abbrev pub cell_bytes : List ℕ → List ℕ
cell_bytes [] = []
cell_bytes (n ∷ l) = bytes_of n ++ cell_bytes l

-- a record that is written if asked
abbrev pub if_asked : Bool → List ℕ → List (List ℕ)
if_asked asked r = cond asked (r ∷ []) []

abbrev pub end_record : List ℕ
end_record = record_with 0 []

-- records one after the other, and the end record
abbrev pub message_of : List (List ℕ) → List ℕ
message_of cs = flat cs ++ end_record

-- a body exceeds 65,535 bytes
abbrev pub too_long : ℕ → Bool
too_long n = ltb 65535 n

-- a record whose body is not too long, and nothing otherwise
unfoldable pub short_record : ℕ → List ℕ → List ℕ
short_record word b = cond (too_long (length b)) [] (record_of word b)

-- the bodies that a tray holds
abbrev pub bodies_of : Fields → List (List ℕ)
bodies_of broken = []
bodies_of (fields l) = l

-- ---- a key-exchange reply: 1, 4, 6 if any, 7 if any, 8 if asked, each cookie, 0

abbrev pub server_record : NameLength → List ℕ → List (List ℕ)
server_record name.None b = []
server_record (name.Bytes n) b = record_with 6 b ∷ []

abbrev pub port_record : Port → List (List ℕ)
port_record port.None = []
port_record (port.Number n) = record_with 7 (bytes_of n) ∷ []

abbrev pub reply_records : Plan → List ℕ → List (List ℕ) → List (List ℕ)
reply_records x server cookies =
    record_with 1 (bytes_of x.protocol.0)
    ∷ record_with 4 (bytes_of x.algorithm.0)
    ∷ (server_record x.name server
    ++ (port_record x.port
    ++ (if_asked x.keep_alive (record_with 8 [])
    ++ map (record_with 5) cookies)))

-- 9 for a broken tray, for a name whose length is not the plan's (0 if none is planned) or that is not UTF-8; then 15 for no cookie. No body
-- of a reply can be too long: a planned length and a field's length have sixteen bits
abbrev pub reply_checked : Plan → List ℕ → Fields → Count
reply_checked x server broken = refused 9 nothing
reply_checked x server (fields l) =
    cond (eqb (length server) (name_length x.name) && well_formed server)
    (cond (eqb (length l) 0) (refused 15 nothing) (bytes (reply_length x l)))
    (refused 9 nothing)

-- ---- the other replies

-- no protocol: empty 1, 0
abbrev pub no_protocol_records : List (List ℕ)
no_protocol_records = record_with 1 [] ∷ []

-- no algorithm: 1 with the protocol, empty 4, 0
abbrev pub no_algorithm_records : ℕ → List (List ℕ)
no_algorithm_records p = record_with 1 (bytes_of p) ∷ record_with 4 [] ∷ []

-- error: 2, 0
abbrev pub error_records : ℕ → List (List ℕ)
error_records c = record_with 2 (bytes_of c) ∷ []

-- support: 10 if asked, 9 if asked, 8 if asked, 0; pairs and numbers from the host's cells
abbrev pub support_records : Asked → List ℕ → List ℕ → List (List ℕ)
support_records x pairs numbers =
    if_asked x.algorithms (record_with 10 (cell_bytes pairs))
    ++ (if_asked x.protocols (record_with 9 (cell_bytes numbers))
    ++ if_asked x.keep_alive (record_with 8 []))

abbrev pub record_length : Bool → ℕ → ℕ
record_length asked n = cond asked (4 + n) 0

unfoldable pub support_length : Asked → List ℕ → List ℕ → ℕ
support_length x pairs numbers =
    record_length x.algorithms (2 * length pairs) + record_length x.protocols (2 * length numbers) + record_length x.keep_alive 0 + 4

-- 9 for an odd number of cells of pairs, asked for or not; 8 only for a list that is written
unfoldable pub support_checked : Asked → List ℕ → List ℕ → Count
support_checked x pairs numbers =
    cond (eqb (length pairs % 2) 0)
    (cond ((x.algorithms && too_long (2 * length pairs)) || (x.protocols && too_long (2 * length numbers)))
    (refused 8 nothing)
    (bytes (support_length x pairs numbers)))
    (refused 9 nothing)

-- ---- a key-exchange request: 1, 4, each name as 13, 0

abbrev pub request_records : List ℕ → List ℕ → List (List ℕ) → List (List ℕ)
request_records protocols algorithms names =
    record_with 1 (cell_bytes protocols) ∷ record_with 4 (cell_bytes algorithms) ∷ map (record_with 13) names

abbrev pub all_utf8 : List (List ℕ) → Bool
all_utf8 [] = true
all_utf8 (b ∷ l) = well_formed b && all_utf8 l

unfoldable pub request_length : List ℕ → List ℕ → List (List ℕ) → ℕ
request_length protocols algorithms names =
    (4 + 2 * length protocols) + (4 + 2 * length algorithms) + (4 * length names + bytes_in names) + 4

-- 9 for a broken tray of names and for a name that is not UTF-8, then 8
abbrev pub request_checked : List ℕ → List ℕ → Fields → Count
request_checked protocols algorithms broken = refused 9 nothing
request_checked protocols algorithms (fields l) =
    cond (all_utf8 l)
    (cond (too_long (2 * length protocols) || too_long (2 * length algorithms))
    (refused 8 nothing)
    (bytes (request_length protocols algorithms l)))
    (refused 9 nothing)
