-- That demand 3's theorems are about messages that exist: one of each request kind, computed to be accepted, and each theorem applied to it,
-- with an order that is not its own and an unknown record in its middle.
-- Assumes nothing.
use mathlib.Core.Path.{◌≡◌, refl, sym}
use mathlib.Core.List.{List, [], ◌∷◌, ◌++◌, Permᴰ}
use mathlib.Core.Bool.{true, false, true≢false}
use Prim.Native.Nat.{ℕ, suc}
use native.Mathlib.Omega.{arith}
use lib.ListN.{replicate}
use Rattle.wire.specs.Bytes.{number_at}
use Rattle.utf8.specs.Ascii.{is_ascii}
use Rattle.utf8.specs.Utf8 as utf8
use Rattle.nts.specs.Refusal.{nothing}
use Rattle.nts.specs.Algorithm.{describe}
use Rattle.layout.specs.Table.{row_of, shape_of}
use Rattle.layout.specs.Profile.{asks_of, is_final, shape_in, knows, allows}
use Rattle.layout.specs.declared.Profile.TheVariants.{Usual}
use Rattle.record.specs.Record.{kind_of, critical_of, kind, critical, size, there, short, uneven, not_number, not_halves, not_utf8, first_of, not_name, fault_of, fault_by}
use Rattle.walk.specs.Walk.{Sighting, act_in, has, meet, judge, step, walk, behind, walked}
use Rattle.walk.specs.Judge.{room_for, Under, refused, accepted, finish, read_as}
use Rattle.walk.specs.Message.{Whole, Record, End, Each, message, Parts}
use Rattle.walk.specs.Table.{act_by}
use Rattle.walk.proofs.Demand3.{Showing}
use Rattle.request.specs.Request.{act, once, Form, key_exchange, fixed_key, support, keyed, fixed_by, decide, request}
use Rattle.request.proofs.Order.{shows, reading, request_ordered}

-- ---- records

abbrev pub end : List ℕ
end = 128 ∷ 0 ∷ 0 ∷ 0 ∷ []

-- protocol 0, and algorithm 15
abbrev pub protocols : List ℕ
protocols = 128 ∷ 1 ∷ 0 ∷ 2 ∷ 0 ∷ 0 ∷ []

abbrev pub algorithms : List ℕ
algorithms = 128 ∷ 4 ∷ 0 ∷ 2 ∷ 0 ∷ 15 ∷ []

-- the denied names "a" and "b"
abbrev name_a : List ℕ
name_a = 0 ∷ 13 ∷ 0 ∷ 1 ∷ 97 ∷ []

abbrev name_b : List ℕ
name_b = 0 ∷ 13 ∷ 0 ∷ 1 ∷ 98 ∷ []

-- "a" once more, with its bit set
abbrev name_a_set : List ℕ
name_a_set = 128 ∷ 13 ∷ 0 ∷ 1 ∷ 97 ∷ []

abbrev pub keep_alive : List ℕ
keep_alive = 0 ∷ 8 ∷ 0 ∷ 0 ∷ []

abbrev wanted_protocols : List ℕ
wanted_protocols = 128 ∷ 9 ∷ 0 ∷ 0 ∷ []

-- two keys of 32 bytes
abbrev two_keys : List ℕ
two_keys = replicate 32 1 ++ replicate 32 2

abbrev keys : List ℕ
keys = 128 ∷ 12 ∷ 0 ∷ 64 ∷ two_keys

-- "k"
abbrev authentication : List ℕ
authentication = 0 ∷ 14 ∷ 0 ∷ 1 ∷ 107 ∷ []

-- kind 16,384, with its bit clear and with its bit set
abbrev pub unknown : List ℕ
unknown = 64 ∷ 0 ∷ 0 ∷ 1 ∷ 7 ∷ []

abbrev pub unknown_set : List ℕ
unknown_set = 192 ∷ 0 ∷ 0 ∷ 1 ∷ 7 ∷ []

-- another tail
abbrev pub tail : List ℕ
tail = 1 ∷ 2 ∷ 3 ∷ []

-- under a limit of 100 bytes
abbrev pub asked : ℕ → Under
asked room = record { profile = Usual; limit = 100; terms = room_for room }

-- the usual profile asks nothing of what follows the end record
pub any_tail : {t : List ℕ} → is_final Usual ≡ true → tail ≡ t
unfolding is_final
any_tail e = absurd (true≢false (sym e))

pub a_record : (c : List ℕ) (k : ℕ) → Whole c → kind c ≡ suc k → Record c
a_record c k w e = (w, λ z. omega arith)

-- ---- messages, and another order of each

abbrev exchange : List (List ℕ)
exchange = protocols ∷ name_a ∷ algorithms ∷ name_b ∷ []

abbrev exchange' : List (List ℕ)
exchange' = name_a ∷ protocols ∷ name_b ∷ algorithms ∷ []

exchange_order : Permᴰ exchange exchange'
exchange_order = Permᴰ.trans (Permᴰ.swap refl refl) (Permᴰ.cons refl (Permᴰ.cons refl (Permᴰ.swap refl refl)))

abbrev fixed : List (List ℕ)
fixed = keys ∷ authentication ∷ protocols ∷ algorithms ∷ keep_alive ∷ []

abbrev fixed' : List (List ℕ)
fixed' = authentication ∷ keys ∷ protocols ∷ keep_alive ∷ algorithms ∷ []

fixed_order : Permᴰ fixed fixed'
fixed_order =
    Permᴰ.trans (Permᴰ.swap refl refl)
    (Permᴰ.cons refl (Permᴰ.cons refl (Permᴰ.cons refl (Permᴰ.swap refl refl))))

-- one name denied twice, by records with different bits: they may change places, since their bodies are the same
abbrev twice : List (List ℕ)
twice = protocols ∷ name_a ∷ name_a_set ∷ algorithms ∷ []

abbrev twice' : List (List ℕ)
twice' = protocols ∷ name_a_set ∷ name_a ∷ algorithms ∷ []

twice_order : Permᴰ twice twice'
twice_order = Permᴰ.cons refl (Permᴰ.swap refl refl)

abbrev lists : List (List ℕ)
lists = authentication ∷ wanted_protocols ∷ keep_alive ∷ []

abbrev lists' : List (List ℕ)
lists' = wanted_protocols ∷ authentication ∷ keep_alive ∷ []

lists_order : Permᴰ lists lists'
lists_order = Permᴰ.swap refl refl

-- ---- they are accepted

abbrev pub sighting : ℕ → ℕ → ℕ → Sighting
sighting k start n = record { of = k; start = start; len = n }

abbrev exchange_answer : Form Sighting
exchange_answer = key_exchange (sighting 1 4 2) (sighting 4 15 2) (sighting 13 10 1 ∷ sighting 13 21 1 ∷ [])

abbrev twice_answer : Form Sighting
twice_answer = key_exchange (sighting 1 4 2) (sighting 4 20 2) (sighting 13 10 1 ∷ sighting 13 15 1 ∷ [])

abbrev fixed_answer : Form Sighting
fixed_answer = fixed_key (sighting 14 72 1) (sighting 12 4 64) (sighting 4 83 2) (sighting 1 77 2) true

abbrev lists_answer : Form Sighting
lists_answer = support (sighting 14 4 1) true false true

computed : (request Usual (message exchange end []) 100 2 ≡ accepted exchange_answer)
    × (request Usual (message fixed end []) 100 0 ≡ accepted fixed_answer)
    × (request Usual (message lists end []) 100 0 ≡ accepted lists_answer)
    × (request Usual (message twice end []) 100 2 ≡ accepted twice_answer)
unfolding number_at utf8.tail utf8.rows utf8.fits utf8.char_size utf8.octets utf8.well_formed describe kind_of critical_of kind critical size there shape_of short uneven not_number not_halves not_utf8 first_of not_name fault_of fault_by act_in has meet judge step walk behind walked finish read_as asks_of is_final shape_in knows allows is_ascii row_of act_by act once keyed fixed_by decide request
computed = (refl, refl, refl, refl)

-- ---- key exchange, with two denied names

exchange_records : Each Record exchange
unfolding number_at kind_of kind size
exchange_records = (a_record protocols 0 refl refl, (a_record name_a 12 refl refl, (a_record algorithms 3 refl refl, (a_record name_b 12 refl refl, tt))))

pub the_end : End end
unfolding number_at kind_of kind size
the_end = (refl, refl)

exchange_other : exchange ≡ exchange' → ⊥
exchange_other e = let z : ◌≡◌ {A = ℕ} 128 0 = cc in omega arith

exchange_is : Parts Record End (message exchange end []) 100
unfolding request
exchange_is = request_ordered.accepted_is (message exchange end []) (asked 2) exchange_answer computed.0

exchange_reordered : Showing reading shows (message exchange' end tail) (asked 2) (key_exchange (0 ∷ 0 ∷ []) (0 ∷ 15 ∷ []) ((97 ∷ []) ∷ (98 ∷ []) ∷ []))
unfolding request number_at kind_of kind size there
exchange_reordered = request_ordered.reordered (asked 2) exchange exchange' end [] tail exchange_answer exchange_records the_end exchange_order any_tail refl refl computed.0

twice_records : Each Record twice
unfolding number_at kind_of kind size
twice_records = (a_record protocols 0 refl refl, (a_record name_a 12 refl refl, (a_record name_a_set 12 refl refl, (a_record algorithms 3 refl refl, tt))))

twice_other : twice ≡ twice' → ⊥
twice_other e = let z : ◌≡◌ {A = ℕ} 0 128 = cc in omega arith

twice_reordered : Showing reading shows (message twice' end tail) (asked 2) (key_exchange (0 ∷ 0 ∷ []) (0 ∷ 15 ∷ []) ((97 ∷ []) ∷ (97 ∷ []) ∷ []))
unfolding request number_at kind_of kind size there
twice_reordered = request_ordered.reordered (asked 2) twice twice' end [] tail twice_answer twice_records the_end twice_order any_tail refl refl computed.3

-- the unknown record stands just before the algorithms
exchange_inserted : Showing reading shows (message (protocols ∷ name_a ∷ unknown ∷ algorithms ∷ name_b ∷ []) end tail) (asked 2) (key_exchange (0 ∷ 0 ∷ []) (0 ∷ 15 ∷ []) ((97 ∷ []) ∷ (98 ∷ []) ∷ []))
unfolding request number_at kind_of critical_of kind critical size is_final knows shape_in asks_of shape_of row_of
exchange_inserted =
    request_ordered.inserted (asked 2) (protocols ∷ name_a ∷ []) (algorithms ∷ name_b ∷ []) unknown end [] tail exchange_answer exchange_records the_end any_tail refl refl refl (omega arith)
    computed.0

exchange_refused : request Usual (message (protocols ∷ name_a ∷ unknown_set ∷ algorithms ∷ name_b ∷ []) end tail) 100 2 ≡ refused (record { number = 3; beside = nothing; place = 11 })
unfolding request number_at kind_of critical_of kind critical size is_final knows shape_in asks_of shape_of row_of
exchange_refused =
    request_ordered.inserted_critical (asked 2) (protocols ∷ name_a ∷ []) (algorithms ∷ name_b ∷ []) unknown_set end [] tail exchange_answer exchange_records the_end refl refl refl (omega arith)
    computed.0

-- ---- fixed keys

fixed_records : Each Record fixed
unfolding number_at kind_of kind size
fixed_records = (a_record keys 11 refl refl, (a_record authentication 13 refl refl, (a_record protocols 0 refl refl, (a_record algorithms 3 refl refl, (a_record keep_alive 7 refl refl, tt)))))

fixed_other : fixed ≡ fixed' → ⊥
fixed_other e = let z : ◌≡◌ {A = ℕ} 128 0 = cc in omega arith

fixed_is : Parts Record End (message fixed end []) 100
unfolding request
fixed_is = request_ordered.accepted_is (message fixed end []) (asked 0) fixed_answer computed.1

fixed_reordered : Showing reading shows (message fixed' end tail) (asked 0) (fixed_key (107 ∷ []) two_keys (0 ∷ 15 ∷ []) (0 ∷ 0 ∷ []) true)
unfolding request number_at kind_of kind size there
fixed_reordered = request_ordered.reordered (asked 0) fixed fixed' end [] tail fixed_answer fixed_records the_end fixed_order any_tail refl refl computed.1

-- just before the end record
fixed_inserted : Showing reading shows (message (keys ∷ authentication ∷ protocols ∷ algorithms ∷ keep_alive ∷ unknown ∷ []) end tail) (asked 0) (fixed_key (107 ∷ []) two_keys (0 ∷ 15 ∷ []) (0 ∷ 0 ∷ []) true)
unfolding request number_at kind_of critical_of kind critical size is_final knows shape_in asks_of shape_of row_of
fixed_inserted = request_ordered.inserted (asked 0) fixed [] unknown end [] tail fixed_answer fixed_records the_end any_tail refl refl refl (omega arith) computed.1

fixed_refused : request Usual (message (keys ∷ authentication ∷ protocols ∷ algorithms ∷ keep_alive ∷ unknown_set ∷ []) end tail) 100 0 ≡ refused (record { number = 3; beside = nothing; place = 89 })
unfolding request number_at kind_of critical_of kind critical size is_final knows shape_in asks_of shape_of row_of
fixed_refused = request_ordered.inserted_critical (asked 0) fixed [] unknown_set end [] tail fixed_answer fixed_records the_end refl refl refl (omega arith) computed.1

-- ---- what is supported

lists_records : Each Record lists
unfolding number_at kind_of kind size
lists_records = (a_record authentication 13 refl refl, (a_record wanted_protocols 8 refl refl, (a_record keep_alive 7 refl refl, tt)))

lists_other : lists ≡ lists' → ⊥
lists_other e = let z : ◌≡◌ {A = ℕ} 0 128 = cc in omega arith

lists_is : Parts Record End (message lists end []) 100
unfolding request
lists_is = request_ordered.accepted_is (message lists end []) (asked 0) lists_answer computed.2

lists_reordered : Showing reading shows (message lists' end tail) (asked 0) (support (107 ∷ []) true false true)
unfolding request number_at kind_of kind size there
lists_reordered = request_ordered.reordered (asked 0) lists lists' end [] tail lists_answer lists_records the_end lists_order any_tail refl refl computed.2

-- as the first record
lists_inserted : Showing reading shows (message (unknown ∷ authentication ∷ wanted_protocols ∷ keep_alive ∷ []) end tail) (asked 0) (support (107 ∷ []) true false true)
unfolding request number_at kind_of critical_of kind critical size is_final knows shape_in asks_of shape_of row_of
lists_inserted = request_ordered.inserted (asked 0) [] lists unknown end [] tail lists_answer lists_records the_end any_tail refl refl refl (omega arith) computed.2

lists_refused : request Usual (message (unknown_set ∷ authentication ∷ wanted_protocols ∷ keep_alive ∷ []) end tail) 100 0 ≡ refused (record { number = 3; beside = nothing; place = 0 })
unfolding request number_at kind_of critical_of kind critical size is_final knows shape_in asks_of shape_of row_of
lists_refused = request_ordered.inserted_critical (asked 0) [] lists unknown_set end [] tail lists_answer lists_records the_end refl refl refl (omega arith) computed.2
