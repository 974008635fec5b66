-- Messages fed in pieces, computed by the checker: 02, order 1. Each row is a read under a limit with a buffer of so many bytes A5, its pieces one after the other, then
-- the close if there is one; what is told at last, how many bytes are gathered, and the buffer.
-- Assumes nothing.
use mathlib.Core.Path.{◌≡◌, refl}
use mathlib.Core.List.{List, [], ◌∷◌, ◌++◌}
use mathlib.Core.Bool.{true, false}
use Prim.Native.Nat.{ℕ, zero, suc}
use lib.ListN.{length, take, drop}
use Rattle.wire.specs.Bytes.{number_at}
use Rattle.wire.specs.Over.{over}
use Rattle.utf8.specs.Utf8.{well_formed, octets, rows, fits, char_size, tail}
use Rattle.nts.specs.Refusal.{Beside, nothing, code, protocol, algorithm}
use Rattle.layout.specs.Table.{shape_of, row_of}
use Rattle.record.specs.Record.{kind_of, critical_of, kind, critical, size, there, short, uneven, not_number, not_halves, not_utf8, first_of, not_name, fault_of, fault_by}
use Rattle.walk.specs.Walk.{act_in, has, meet, judge, step, walk, behind, walked}
use Rattle.walk.specs.Judge.{Terms, room_for, finish, read_as}
use Rattle.walk.specs.Table.{act_by}
use Rattle.layout.specs.Profile.{asks_of, is_final, shape_in, knows, allows}
use Rattle.layout.specs.declared.Profile.{Profile}
use Rattle.layout.specs.declared.Profile.TheVariants.{Usual, Strict}
use Rattle.utf8.specs.Ascii.{is_ascii}
use Rattle.walk.specs.Shown.{slot_of}
use Rattle.walk.specs.Met.{is_met, with_met, met_below, passing, ends}
use Rattle.request.specs.Request as requests
use Rattle.reply.specs.Reply as replies
use Rattle.pieces.specs.Pieces.{Line, started, Brought, broken, joined, inside, fitting, full, whole, going, otherwise, gathers, how_after, after_end, comes, Read, first_answer, again, answer_of, is_pending, line_after, buffer_after, table_after, pending, Says, nothing_yet, says, says_of, held}
use Rattle.pieces.specs.Reads.{request_read, reply_read}

record Fed (T : Type 0) : Type 0 where
  said : Says T
  gathered : ℕ
  buffer : List ℕ

-- a piece, and the close
abbrev piece : List ℕ → Brought
piece p = record { piece = p; closed = false }

abbrev close : Brought
close = record { piece = []; closed = true }

abbrev bytewise : List ℕ → List Brought
bytewise [] = []
bytewise (x ∷ s) = piece (x ∷ []) ∷ bytewise s

abbrev blank : ℕ → List ℕ
blank zero = []
blank (suc k) = 165 ∷ blank k

module _ (P : Profile) (X : Read) (room : Terms) where
  abbrev onward : Line → List ℕ → Says X.Told → List Brought → Fed X.Told
  onward c b s [] = record { said = s; gathered = c.gathered; buffer = b }
  onward c b s (h ∷ hs) =
      onward (line_after X c b h room) (buffer_after X c b h) (says_of X (held (line_after X c b h room) (buffer_after X c b h)) (answer_of X c b h room)) hs

  abbrev fed : ℕ → ℕ → List Brought → Fed X.Told
  fed n size hs = onward (started P n) (blank size) nothing_yet hs

-- the buffer begins with the bytes j, and so many A5 follow
abbrev holds : {T : Type 0} → Says T → List ℕ → ℕ → Fed T
holds s j rest = record { said = s; gathered = length j; buffer = j ++ blank rest }

-- ---- requests

-- 01's sixteen bytes
abbrev M : List ℕ
M = 128 ∷ 1 ∷ 0 ∷ 2 ∷ 0 ∷ 0 ∷ 128 ∷ 4 ∷ 0 ∷ 2 ∷ 0 ∷ 15 ∷ 128 ∷ 0 ∷ 0 ∷ 0 ∷ []

abbrev M-is : Says requests.Told
M-is = says (requests.key_exchange_is (record { start = 4; len = 2 }) (record { start = 10; len = 2 }) 0)

abbrev refusal : ℕ → ℕ → Says requests.Told
refusal n place = says (requests.refused_with (record { number = n; beside = nothing; place = place }))

abbrev ask : ℕ → ℕ → List Brought → Fed requests.Told
ask n size hs = fed Usual request_read (room_for 4) n size hs

-- M with two denied names, of which the table holds one
abbrev two_names : List ℕ
two_names = 128 ∷ 1 ∷ 0 ∷ 2 ∷ 0 ∷ 0 ∷ 128 ∷ 4 ∷ 0 ∷ 2 ∷ 0 ∷ 15 ∷ 0 ∷ 13 ∷ 0 ∷ 1 ∷ 97 ∷ 0 ∷ 13 ∷ 0 ∷ 1 ∷ 98 ∷ 128 ∷ 0 ∷ 0 ∷ 0 ∷ []

abbrev Rows : Type 0
Rows =
    -- M in one piece, byte by byte, and with empty pieces between
    (ask 65535 20 (piece M ∷ []) ≡ holds M-is M 4)
    × (ask 65535 20 (bytewise M) ≡ holds M-is M 4)
    × (ask 65535 20 (piece [] ∷ piece (take 7 M) ∷ piece [] ∷ piece (drop 7 M) ∷ piece [] ∷ []) ≡ holds M-is M 4)
    -- it waits until its last byte
    × (ask 65535 20 (bytewise (take 15 M)) ≡ holds nothing_yet (take 15 M) 5)
    -- and five bytes more in one piece; then whatever comes
    × (ask 65535 20 (piece (M ++ (1 ∷ 2 ∷ 3 ∷ 4 ∷ 5 ∷ [])) ∷ piece (9 ∷ []) ∷ close ∷ []) ≡ holds M-is M 4)
    -- a buffer of 15, of 16
    × (ask 65535 15 (piece M ∷ piece M ∷ close ∷ []) ≡ holds (refusal 16 15) (take 15 M) 0)
    × (ask 65535 16 (piece (M ++ M) ∷ []) ≡ holds M-is M 0)
    -- limit 15
    × (ask 15 20 (piece M ∷ []) ≡ holds (refusal 1 12) (take 15 M) 5)
    × (ask 15 20 (bytewise (take 14 M)) ≡ holds nothing_yet (take 14 M) 6)
    × (ask 15 15 (bytewise (take 15 M)) ≡ holds (refusal 1 12) (take 15 M) 0)
    -- without its last byte, then the close; nothing, then the close; an empty piece under limit 0
    × (ask 65535 20 (piece (take 15 M) ∷ close ∷ []) ≡ holds (refusal 1 12) (take 15 M) 5)
    × (ask 65535 4 (close ∷ []) ≡ holds (refusal 1 0) [] 4)
    × (ask 0 4 (piece [] ∷ []) ≡ holds (refusal 1 0) [] 4)
    × (ask 0 4 (piece M ∷ []) ≡ holds (refusal 1 0) [] 4)
    -- no buffer
    × (ask 65535 0 (piece [] ∷ []) ≡ holds nothing_yet [] 0)
    × (ask 65535 0 (piece [] ∷ piece (128 ∷ []) ∷ []) ≡ holds (refusal 16 0) [] 0)
    -- a name cut in a character waits, and is judged at the close
    × (ask 65535 8 (piece (128 ∷ 6 ∷ 0 ∷ 2 ∷ 195 ∷ []) ∷ []) ≡ holds nothing_yet (128 ∷ 6 ∷ 0 ∷ 2 ∷ 195 ∷ []) 3)
    × (ask 65535 8 (piece (128 ∷ 6 ∷ 0 ∷ 2 ∷ 195 ∷ []) ∷ close ∷ []) ≡ holds (refusal 2 0) (128 ∷ 6 ∷ 0 ∷ 2 ∷ 195 ∷ []) 3)
    -- an unknown record with its bit set is judged when it is whole
    × (ask 65535 10 (piece (128 ∷ 11 ∷ 0 ∷ 4 ∷ []) ∷ []) ≡ holds nothing_yet (128 ∷ 11 ∷ 0 ∷ 4 ∷ []) 6)
    × (ask 65535 10 (piece (128 ∷ 11 ∷ 0 ∷ 4 ∷ []) ∷ piece (1 ∷ 2 ∷ 3 ∷ 4 ∷ 5 ∷ []) ∷ []) ≡ holds (refusal 3 0) (128 ∷ 11 ∷ 0 ∷ 4 ∷ 1 ∷ 2 ∷ 3 ∷ 4 ∷ []) 2)
    -- a port of three bytes, too: by the third, or by the limit
    × (ask 65535 8 (piece (128 ∷ 7 ∷ 0 ∷ 3 ∷ 0 ∷ 123 ∷ []) ∷ []) ≡ holds nothing_yet (128 ∷ 7 ∷ 0 ∷ 3 ∷ 0 ∷ 123 ∷ []) 2)
    × (ask 6 8 (piece (128 ∷ 7 ∷ 0 ∷ 3 ∷ 0 ∷ 123 ∷ []) ∷ []) ≡ holds (refusal 2 0) (128 ∷ 7 ∷ 0 ∷ 3 ∷ 0 ∷ 123 ∷ []) 2)
    -- a second list of protocols, in another piece than the first
    × (ask 65535 20 (piece (take 6 M) ∷ piece (take 5 M) ∷ piece (drop 5 M) ∷ []) ≡ holds (refusal 4 6) (take 6 M ++ take 6 M) 8)
    -- two denied names and room for one
    × (fed Usual request_read (room_for 1) 65535 30 (piece two_names ∷ piece [] ∷ []) ≡ holds (refusal 7 22) two_names 4)
    × (fed Usual request_read (room_for 2) 65535 30 (bytewise two_names) ≡ holds (says (requests.key_exchange_is (record { start = 4; len = 2 }) (record { start = 10; len = 2 }) 2)) two_names 4)

pub request_rows : Rows
unfolding number_at tail rows fits char_size octets well_formed kind_of critical_of kind critical size there shape_of row_of short uneven not_number not_halves not_utf8 first_of not_name fault_of fault_by is_ascii asks_of is_final shape_in knows allows act_in has meet judge step walk behind walked finish read_as act_by requests.act requests.once requests.decide over is_met with_met met_below passing ends slot_of whole going broken joined inside fitting full otherwise gathers how_after after_end comes first_answer again answer_of is_pending line_after buffer_after
request_rows = (refl, refl, refl, refl, refl, refl, refl, refl, refl, refl, refl, refl, refl, refl, refl, refl, refl, refl, refl, refl, refl, refl, refl, refl, refl)

-- ---- in the strict profile: 02, order 5

abbrev insist : ℕ → ℕ → List Brought → Fed requests.Told
insist n size hs = fed Strict request_read (room_for 4) n size hs

abbrev StrictRows : Type 0
StrictRows =
    -- M stands whole, and the read still waits; a byte behind it is 18 there, and is not stored
    (insist 65535 20 (piece M ∷ []) ≡ holds nothing_yet M 4)
    × (insist 65535 20 (bytewise M) ≡ holds nothing_yet M 4)
    × (insist 65535 20 (piece M ∷ piece [] ∷ []) ≡ holds nothing_yet M 4)
    × (insist 65535 20 (piece M ∷ piece (0 ∷ []) ∷ []) ≡ holds (refusal 18 16) M 4)
    × (insist 65535 20 (piece (M ++ (1 ∷ 2 ∷ 3 ∷ 4 ∷ 5 ∷ [])) ∷ close ∷ []) ≡ holds (refusal 18 16) M 4)
    -- nor is it 16, where the buffer is full
    × (insist 65535 16 (piece M ∷ piece (0 ∷ []) ∷ []) ≡ holds (refusal 18 16) M 0)
    × (insist 65535 16 (piece (M ++ M) ∷ []) ≡ holds (refusal 18 16) M 0)
    × (insist 65535 15 (piece M ∷ []) ≡ holds (refusal 16 15) (take 15 M) 0)
    -- the close, and the limit: a byte behind that is not looked at
    × (insist 65535 20 (piece M ∷ close ∷ []) ≡ holds M-is M 4)
    × (insist 65535 16 (bytewise M ++ (close ∷ [])) ≡ holds M-is M 0)
    × (insist 16 20 (piece M ∷ []) ≡ holds M-is M 4)
    × (insist 16 20 (piece (M ++ (1 ∷ 2 ∷ [])) ∷ []) ≡ holds M-is M 4)
    × (insist 17 20 (piece (M ++ (1 ∷ 2 ∷ [])) ∷ []) ≡ holds (refusal 18 16) M 4)
    -- what is refused is so at once: a list with its bit clear, an end record with a body; and one end record alone waits
    × (insist 65535 20 (piece (0 ∷ 1 ∷ 0 ∷ 2 ∷ 0 ∷ []) ∷ []) ≡ holds nothing_yet (0 ∷ 1 ∷ 0 ∷ 2 ∷ 0 ∷ []) 15)
    × (insist 65535 20 (piece (0 ∷ 1 ∷ 0 ∷ 2 ∷ 0 ∷ 0 ∷ 9 ∷ []) ∷ []) ≡ holds (refusal 18 0) (0 ∷ 1 ∷ 0 ∷ 2 ∷ 0 ∷ 0 ∷ []) 14)
    × (insist 65535 20 (piece (128 ∷ 0 ∷ 0 ∷ 1 ∷ 0 ∷ []) ∷ []) ≡ holds (refusal 18 0) (128 ∷ 0 ∷ 0 ∷ 1 ∷ 0 ∷ []) 15)
    × (insist 65535 20 (piece (128 ∷ 0 ∷ 0 ∷ 0 ∷ []) ∷ []) ≡ holds nothing_yet (128 ∷ 0 ∷ 0 ∷ 0 ∷ []) 16)
    × (insist 65535 20 (piece (128 ∷ 0 ∷ 0 ∷ 0 ∷ []) ∷ close ∷ []) ≡ holds (refusal 4 0) (128 ∷ 0 ∷ 0 ∷ 0 ∷ []) 16)
    × (insist 65535 20 (piece (128 ∷ 0 ∷ 0 ∷ 0 ∷ []) ∷ piece (9 ∷ []) ∷ close ∷ []) ≡ holds (refusal 18 4) (128 ∷ 0 ∷ 0 ∷ 0 ∷ []) 16)

pub strict_rows : StrictRows
unfolding number_at tail rows fits char_size octets well_formed kind_of critical_of kind critical size there shape_of row_of short uneven not_number not_halves not_utf8 first_of not_name fault_of fault_by is_ascii asks_of is_final shape_in knows allows act_in has meet judge step walk behind walked finish read_as act_by requests.act requests.once requests.decide over is_met with_met met_below passing ends slot_of whole going broken joined inside fitting full otherwise gathers how_after after_end comes first_answer again answer_of is_pending line_after buffer_after
strict_rows = (refl, refl, refl, refl, refl, refl, refl, refl, refl, refl, refl, refl, refl, refl, refl, refl, refl, refl, refl)

-- ---- replies

-- protocol 0, algorithm 15, a cookie of one byte
abbrev N : List ℕ
N = 128 ∷ 1 ∷ 0 ∷ 2 ∷ 0 ∷ 0 ∷ 128 ∷ 4 ∷ 0 ∷ 2 ∷ 0 ∷ 15 ∷ 0 ∷ 5 ∷ 0 ∷ 1 ∷ 7 ∷ 128 ∷ 0 ∷ 0 ∷ 0 ∷ []

abbrev N-is : Says replies.Told
N-is = says (replies.reply_is 0 15 replies.not_sent replies.not_sent false 1)

abbrev declined : ℕ → Beside → ℕ → Says replies.Told
declined n x place = says (replies.refused_with (record { number = n; beside = x; place = place }))

abbrev hear : ℕ → ℕ → ℕ → List Brought → Fed replies.Told
hear room n size hs = fed Usual reply_read (replies.offering (0 ∷ []) (15 ∷ []) room) n size hs

abbrev ReplyRows : Type 0
ReplyRows =
    (hear 1 65535 24 (piece (N ++ N) ∷ close ∷ []) ≡ holds N-is N 3)
    × (hear 1 65535 24 (bytewise N) ≡ holds N-is N 3)
    × (hear 1 65535 24 (bytewise (take 20 N)) ≡ holds nothing_yet (take 20 N) 4)
    -- no room for its cookie
    × (hear 0 65535 24 (piece N ∷ piece [] ∷ []) ≡ holds (declined 7 nothing 17) N 3)
    -- an error record, once it is whole
    × (hear 1 65535 24 (piece (128 ∷ 2 ∷ 0 ∷ 2 ∷ 0 ∷ []) ∷ []) ≡ holds nothing_yet (128 ∷ 2 ∷ 0 ∷ 2 ∷ 0 ∷ []) 19)
    × (hear 1 65535 24 (piece (128 ∷ 2 ∷ 0 ∷ 2 ∷ 0 ∷ []) ∷ piece (1 ∷ 128 ∷ []) ∷ []) ≡ holds (declined 11 (code 1) 0) (128 ∷ 2 ∷ 0 ∷ 2 ∷ 0 ∷ 1 ∷ []) 18)
    -- what it names must be offered: the protocol first, and after that the algorithm, by the end record
    × (fed Usual reply_read (replies.offering (1 ∷ []) (16 ∷ []) 1) 65535 24 (bytewise N) ≡ holds (declined 17 (protocol 0) 17) N 3)
    × (fed Usual reply_read (replies.offering (0 ∷ []) (16 ∷ []) 1) 65535 24 (piece N ∷ close ∷ []) ≡ holds (declined 17 (algorithm 15) 17) N 3)
    × (fed Usual reply_read (replies.offering (0 ∷ []) [] 1) 65535 24 (piece N ∷ []) ≡ holds (declined 17 (algorithm 15) 17) N 3)
    -- a buffer of 20
    × (hear 1 65535 20 (piece (take 9 N) ∷ piece (drop 9 N) ∷ close ∷ []) ≡ holds (declined 16 nothing 20) (take 20 N) 0)

pub reply_rows : ReplyRows
unfolding number_at tail rows fits char_size octets well_formed kind_of critical_of kind critical size there shape_of row_of short uneven not_number not_halves not_utf8 first_of not_name fault_of fault_by is_ascii asks_of is_final shape_in knows allows act_in has meet judge step walk behind walked finish read_as act_by replies.act replies.once replies.decide over is_met with_met met_below passing ends slot_of whole going broken joined inside fitting full otherwise gathers how_after after_end comes first_answer again answer_of is_pending line_after buffer_after
reply_rows = (refl, refl, refl, refl, refl, refl, refl, refl, refl, refl)

-- once it is accepted, or refused with 17, it is given again whatever lists are lent then
abbrev answered : Line
answered = line_after reply_read (started Usual 65535) (blank 24) (piece N) (replies.offering (0 ∷ []) (15 ∷ []) 1)

abbrev answered_left : List ℕ
answered_left = buffer_after reply_read (started Usual 65535) (blank 24) (piece N)

abbrev unasked : Line
unasked = line_after reply_read (started Usual 65535) (blank 24) (piece N) (replies.offering (0 ∷ []) (16 ∷ []) 1)

abbrev AgainRows : Type 0
AgainRows =
    (says_of reply_read (held answered answered_left) (answer_of reply_read answered answered_left close (replies.offering [] [] 0)) ≡ N-is)
    × (says_of reply_read (held unasked answered_left) (answer_of reply_read unasked answered_left close (replies.offering (0 ∷ []) (15 ∷ []) 1)) ≡ declined 17 (algorithm 15) 17)

pub again_rows : AgainRows
unfolding number_at tail rows fits char_size octets well_formed kind_of critical_of kind critical size there shape_of row_of short uneven not_number not_halves not_utf8 first_of not_name fault_of fault_by is_ascii asks_of is_final shape_in knows allows act_in has meet judge step walk behind walked finish read_as act_by replies.act replies.once replies.decide over is_met with_met met_below passing ends slot_of whole going broken joined inside fitting full otherwise gathers how_after after_end comes first_answer again answer_of is_pending line_after buffer_after
again_rows = (refl, refl)

-- ---- what is lent may be another table each time, and a connection may be made by hand

-- M with two denied names and a table of two cells, then an empty piece with eight: 7 again, and no cell changed
abbrev seven : Line
seven = line_after request_read (started Usual 65535) (blank 30) (piece two_names) (room_for 1)

abbrev seven_left : List ℕ
seven_left = buffer_after request_read (started Usual 65535) (blank 30) (piece two_names)

-- a connection that counts a byte more than the buffer, and one that counts a byte more than the limit
abbrev counts : ℕ → ℕ → Line
counts n k = record { profile = Usual; limit = n; gathered = k; begins = 0; met = 0; standing = pending }

abbrev nine : Says requests.Told
nine = refusal 9 0

abbrev LentRows : Type 0
LentRows =
    (says_of request_read (held seven seven_left) (answer_of request_read seven seven_left (piece []) (room_for 4)) ≡ refusal 7 22)
    × (line_after request_read seven seven_left (piece []) (room_for 4) ≡ seven)
    × (table_after request_read seven seven_left (piece []) (room_for 4) (blank 8) ≡ blank 8)
    -- 9, with nothing changed, also where the line closed
    × (says_of request_read [] (answer_of request_read (counts 65535 5) (blank 4) (piece M) (room_for 4)) ≡ nine)
    × (says_of request_read [] (answer_of request_read (counts 4 5) (blank 8) close (room_for 4)) ≡ nine)
    × (line_after request_read (counts 65535 5) (blank 4) (piece M) (room_for 4) ≡ counts 65535 5)
    × (buffer_after request_read (counts 4 5) (blank 8) (piece M) ≡ blank 8)
    -- a connection that says it holds more than the record that decides: the bytes behind that record no longer count
    × ((line_after request_read (counts 65535 6) (128 ∷ 0 ∷ 0 ∷ 0 ∷ 7 ∷ 7 ∷ []) (piece []) (room_for 4)).gathered ≡ 4)

pub lent_rows : LentRows
unfolding number_at tail rows fits char_size octets well_formed kind_of critical_of kind critical size there shape_of row_of short uneven not_number not_halves not_utf8 first_of not_name fault_of fault_by is_ascii asks_of is_final shape_in knows allows act_in has meet judge step walk behind walked finish read_as act_by requests.act requests.once requests.decide over is_met with_met met_below passing ends slot_of whole going broken joined inside fitting full otherwise gathers how_after after_end comes first_answer again answer_of is_pending line_after buffer_after table_after
lent_rows = (refl, refl, refl, refl, refl, refl, refl, refl)
