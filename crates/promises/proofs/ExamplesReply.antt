-- That demand 3's theorems are about replies that exist: one with all that a reply can have, computed to be accepted, and each theorem applied
-- to it, with an order that is not its own and an unknown record in its middle.
-- Assumes nothing.
use mathlib.Core.Path.{◌≡◌, refl}
use mathlib.Core.List.{List, [], ◌∷◌, Permᴰ}
use mathlib.Core.Bool.{true}
use Prim.Native.Nat.{ℕ}
use native.Mathlib.Omega.{arith}
use Rattle.wire.specs.Bytes.{number_at}
use Rattle.utf8.specs.Ascii.{is_ascii}
use Rattle.utf8.specs.Utf8 as utf8
use Rattle.nts.specs.Refusal.{nothing, code}
use Rattle.layout.specs.Table.{row_of, shape_of}
use Rattle.layout.specs.Profile.{asks_of, is_final, shape_in, knows, allows}
use Rattle.layout.specs.declared.Profile.TheVariants.{Usual, Strict}
use Rattle.record.specs.Record.{kind_of, critical_of, kind, critical, size, there, short, uneven, not_number, not_halves, not_utf8, first_of, not_name, fault_of, fault_by}
use Rattle.walk.specs.Walk.{Sighting, act_in, has, meet, judge, step, walk, behind, walked}
use Rattle.walk.specs.Judge.{Under, refused, accepted, finish, read_as}
use Rattle.walk.specs.Message.{Record, End, Each, message, Parts}
use Rattle.walk.specs.Table.{act_by}
use Rattle.walk.proofs.Demand3.{Showing}
use Rattle.reply.specs.Reply.{act, once, sent, Form, reply, decide, reply_of, offering}
use Rattle.reply.proofs.Order.{shows, reading, reply_ordered}
use Rattle.promises.proofs.Examples.{end, protocols, algorithms, keep_alive, unknown, unknown_set, tail, any_tail, a_record, the_end, sighting}

-- ---- records

-- the server "a", port 123, and two cookies
abbrev server : List ℕ
server = 128 ∷ 6 ∷ 0 ∷ 1 ∷ 97 ∷ []

abbrev port : List ℕ
port = 128 ∷ 7 ∷ 0 ∷ 2 ∷ 0 ∷ 123 ∷ []

abbrev cookie_1 : List ℕ
cookie_1 = 0 ∷ 5 ∷ 0 ∷ 1 ∷ 1 ∷ []

abbrev cookie_2 : List ℕ
cookie_2 = 0 ∷ 5 ∷ 0 ∷ 1 ∷ 2 ∷ []

-- ---- a message, and another order of it

abbrev full : List (List ℕ)
full = protocols ∷ algorithms ∷ server ∷ port ∷ keep_alive ∷ cookie_1 ∷ cookie_2 ∷ []

abbrev full' : List (List ℕ)
full' = algorithms ∷ protocols ∷ server ∷ port ∷ cookie_1 ∷ keep_alive ∷ cookie_2 ∷ []

full_order : Permᴰ full full'
full_order =
    Permᴰ.trans (Permᴰ.swap refl refl)
    (Permᴰ.cons refl (Permᴰ.cons refl (Permᴰ.cons refl (Permᴰ.cons refl (Permᴰ.swap refl refl)))))

full_other : full ≡ full' → ⊥
full_other e = let z : ◌≡◌ {A = ℕ} 1 4 = cc in omega arith

-- ---- it is accepted, by one who offered protocol 0 and algorithm 15

abbrev heard : ℕ → Under
heard room = record { profile = Usual; limit = 100; terms = offering (0 ∷ []) (15 ∷ []) room }

abbrev answer : Form Sighting
answer = reply (sighting 1 4 2) (sighting 4 10 2) (sent (sighting 6 16 1)) (sent (sighting 7 21 2)) true (sighting 5 31 1 ∷ sighting 5 36 1 ∷ [])

abbrev bodies : Form (List ℕ)
bodies = reply (0 ∷ 0 ∷ []) (0 ∷ 15 ∷ []) (sent (97 ∷ [])) (sent (0 ∷ 123 ∷ [])) true ((1 ∷ []) ∷ (2 ∷ []) ∷ [])

computed : reply_of Usual (message full end []) 100 (offering (0 ∷ []) (15 ∷ []) 2) ≡ accepted answer
unfolding number_at utf8.tail utf8.rows utf8.fits utf8.char_size utf8.octets utf8.well_formed kind_of critical_of kind critical size there shape_of short uneven not_number not_halves not_utf8 first_of not_name fault_of fault_by act_in has meet judge step walk behind walked finish read_as asks_of is_final shape_in knows allows is_ascii row_of act_by act once decide reply_of
computed = refl

-- ---- the theorems

full_records : Each Record full
unfolding number_at kind_of kind size
full_records =
    (a_record protocols 0 refl refl, (a_record algorithms 3 refl refl, (a_record server 5 refl refl, (a_record port 6 refl refl, (a_record keep_alive 7 refl refl, (a_record cookie_1 4 refl refl, (a_record cookie_2 4 refl refl, tt)))))))

full_is : Parts Record End (message full end []) 100
full_is = reply_ordered.accepted_is (message full end []) (heard 2) answer computed

full_reordered : Showing reading shows (message full' end tail) (heard 2) bodies
unfolding number_at kind_of kind size there
full_reordered = reply_ordered.reordered (heard 2) full full' end [] tail answer full_records the_end full_order any_tail refl refl computed

-- the unknown record stands just before the server
full_inserted : Showing reading shows (message (protocols ∷ algorithms ∷ unknown ∷ server ∷ port ∷ keep_alive ∷ cookie_1 ∷ cookie_2 ∷ []) end tail) (heard 2) bodies
unfolding number_at kind_of critical_of kind critical size is_final knows shape_in asks_of shape_of row_of
full_inserted =
    reply_ordered.inserted (heard 2) (protocols ∷ algorithms ∷ []) (server ∷ port ∷ keep_alive ∷ cookie_1 ∷ cookie_2 ∷ []) unknown end [] tail answer full_records the_end any_tail refl refl refl (omega arith)
    computed

full_refused : reply_of Usual (message (protocols ∷ algorithms ∷ unknown_set ∷ server ∷ port ∷ keep_alive ∷ cookie_1 ∷ cookie_2 ∷ []) end tail) 100 (offering (0 ∷ []) (15 ∷ []) 2) ≡ refused (record { number = 3; beside = nothing; place = 12 })
unfolding number_at kind_of critical_of kind critical size is_final knows shape_in asks_of shape_of row_of
full_refused =
    reply_ordered.inserted_critical (heard 2) (protocols ∷ algorithms ∷ []) (server ∷ port ∷ keep_alive ∷ cookie_1 ∷ cookie_2 ∷ []) unknown_set end [] tail answer full_records the_end refl refl refl (omega arith)
    computed

-- ---- 02, order 5: a row of the strict table

-- an error record alone, its bit clear: it is told in the usual profile, and is not allowed in the strict one
abbrev an_error : List ℕ
an_error = 0 ∷ 2 ∷ 0 ∷ 2 ∷ 0 ∷ 1 ∷ []

pub error_alone : (reply_of Usual an_error 100 (offering (0 ∷ []) (15 ∷ []) 2) ≡ refused (record { number = 11; beside = code 1; place = 0 }))
    × (reply_of Strict an_error 100 (offering (0 ∷ []) (15 ∷ []) 2) ≡ refused (record { number = 18; beside = nothing; place = 0 }))
unfolding number_at kind_of critical_of kind critical size there shape_of not_number fault_of fault_by act_in meet judge step walk behind walked finish read_as asks_of is_final shape_in knows allows row_of act_by act reply_of
error_alone = (refl, refl)
