-- Of each call that a host links, what it gives bears no other number than those of its set: from the definitions (Exact.antt, ExactFace.antt) to words and cells.
-- Assumes nothing.
use mathlib.Core.Path.{◌≡◌, refl, sym, ap, ◌∙◌}
use mathlib.Core.List.{List}
use Prim.Native.Nat.{ℕ, ◌<◌}
use native.Mathlib.Omega.{arith}
use lib.ListN.{length}
use Rattle.nts.specs.Refusal.{Refused}
use Rattle.nts.specs.Algorithm.{describe}
use Rattle.layout.specs.Write.{Count, bytes, refused, fitted}
use Rattle.layout.specs.declared.Profile.{Profile}
use Rattle.layout.specs.declared.Profile.TheVariants.{Usual, Strict}
use Rattle.record.specs.Record.{Told, read, read_at}
use Rattle.record.specs.Record as rec
use Rattle.walk.specs.Judge as judge
use Rattle.walk.specs.Judge.{Terms}
use Rattle.walk.specs.Finding.{Found}
use Rattle.request.specs.Request as requests
use Rattle.request.specs.Request.{request}
use Rattle.reply.specs.Reply as replies
use Rattle.reply.specs.Reply.{reply_of}
use Rattle.negotiation.specs.Negotiation as choice
use Rattle.plan.specs.Tray.{names_in, deny}
use Rattle.plan.specs.Plan as plan
use Rattle.plan.specs.declared.Plan.{Plan}
use Rattle.messages.specs.Messages.{request_checked}
use Rattle.listing.specs.Listing.{listing}
use Rattle.cells.specs.Cells.{Given, refuses, counted}
use Rattle.reading.specs.Read.{request_given, reply_given, record_given}
use Rattle.handing.specs.Handed.{choice_given, protocol_given, key_given}
use Rattle.planning.specs.Planned.{plan_in, changed, grown_given, appended, planned_length, planned_reply}
use Rattle.writing.specs.Given.{record_in, held_length, support_count}
use Rattle.promises.specs.Numbers.{Table, All, Number, of_count, of_read, of_answer, of_choice, of_protocol, of_appended, of_given, record_numbers, request_numbers, decide_numbers, reply_numbers, choice_numbers, protocol_numbers, key_numbers, plan_numbers, append_numbers, length_numbers, writer_numbers, reply_writer_numbers, room_numbers}
use Rattle.promises.proofs.Bearing.{Only}
use Rattle.promises.proofs.Exact.{record_exactly, request_exactly, decide_exactly, reply_exactly, choose_exactly, choose_protocol_exactly, deny_exactly, fixed_exactly, list_exactly, request_length_exactly, write_request_exactly}
use Rattle.promises.proofs.ExactFace.{key_exactly, change_exactly, cells_append_exactly, cells_length_exactly, cells_reply_exactly, support_count_exactly, support_written_exactly, held_length_exactly, held_written_exactly}
use Rattle.promises.proofs.Refusing.{Tells}

-- ---- what is given bears what the definition's answer bears

tells : {l : List ℕ} {g : Given} {b : Number} → All Table l → of_given g ≡ b → Only l b → Tells l g
tells t same only = record { table = t; only = λ n e. only n (sym same ∙ e) }

of_count_lem : (a : Count) → of_given (counted a) ≡ of_count a
of_count_lem (bytes n) = refl
of_count_lem (refused k b) = refl

of_request : (m : List ℕ) (a : judge.Answer requests.Form) → of_given (request_given (requests.told_by m a)) ≡ of_answer a
of_request m (judge.refused r) = refl
of_request m (judge.accepted (requests.key_exchange p a d)) = refl
of_request m (judge.accepted (requests.fixed_key u x a p k)) = refl
of_request m (judge.accepted (requests.support u p a k)) = refl

of_reply : (m : List ℕ) (a : judge.Answer replies.Form) → of_given (reply_given (replies.told_by m a)) ≡ of_answer a
of_reply m (judge.refused r) = refl
of_reply m (judge.accepted (replies.reply p a s t k c)) = refl

of_record : (t : Told) → of_given (record_given t) ≡ of_read t
of_record (read x bit next) = refl
of_record (rec.refused r) = refl

of_choice_lem : (t : choice.Told) → of_given (choice_given t) ≡ of_choice t
of_choice_lem (choice.chosen p a) = refl
of_choice_lem (choice.refused k b) = refl

of_protocol_lem : (t : choice.Protocol) → of_given (protocol_given t) ≡ of_protocol t
of_protocol_lem (choice.agreed p) = refl
of_protocol_lem (choice.refused_with k b) = refl

of_appended_lem : (t : plan.Told) → of_given (grown_given t) ≡ of_appended t
of_appended_lem (plan.grown x) = refl
of_appended_lem (plan.refused_with k b) = refl

-- ---- the readers

-- of each profile's numbers
request_table : (P : Profile) → All Table (request_numbers P)
request_table Usual = omega arith
request_table Strict = omega arith

reply_table : (P : Profile) → All Table (reply_numbers P)
reply_table Usual = omega arith
reply_table Strict = omega arith

pub request_tells : (P : Profile) (m : List ℕ) (n room : ℕ) → Tells (request_numbers P) (request_given (requests.told_by m (request P m n room)))
request_tells P m n room = tells (request_table P) (of_request m (request P m n room)) ((request_exactly P).only (record { message = m; limit = n; room = room }))

pub decide_tells : (f : Found) (m : List ℕ) (room : ℕ) → Tells decide_numbers (request_given (requests.told_by m (requests.decided f m room)))
decide_tells f m room = tells (omega arith) (of_request m (requests.decided f m room)) (decide_exactly.only (record { found = f; message = m; room = room }))

-- where the cells of a request tell a refusal, it is what is answered
pub request_given_lem : (m : List ℕ) (a : judge.Answer requests.Form) (y : Refused) → request_given (requests.told_by m a) ≡ refuses y → a ≡ judge.refused y
request_given_lem m (judge.refused r) y e = let z : r ≡ y = cc in ap judge.refused z
request_given_lem m (judge.accepted (requests.key_exchange p a d)) y e = let z : ◌≡◌ {A = ℕ} 0 1 = cc in absurd (omega arith)
request_given_lem m (judge.accepted (requests.fixed_key u x a p k)) y e = let z : ◌≡◌ {A = ℕ} 0 1 = cc in absurd (omega arith)
request_given_lem m (judge.accepted (requests.support u p a k)) y e = let z : ◌≡◌ {A = ℕ} 0 1 = cc in absurd (omega arith)

pub reply_tells : (P : Profile) (m : List ℕ) (n : ℕ) (x : Terms) → Tells (reply_numbers P) (reply_given (replies.told_by m (reply_of P m n x)))
reply_tells P m n x = tells (reply_table P) (of_reply m (reply_of P m n x)) ((reply_exactly P).only (record { message = m; limit = n; terms = x }))

pub record_tells : (m : List ℕ) (at : ℕ) → Tells record_numbers (record_given (read_at m at))
record_tells m at = tells (omega arith) (of_record (read_at m at)) (record_exactly.only (m, at))

-- ---- a choice, and the length of a key

pub choice_tells : (p a o b : List ℕ) → Tells choice_numbers (choice_given (choice.choose p a o b))
choice_tells p a o b =
    tells (omega arith) (of_choice_lem (choice.choose p a o b)) (choose_exactly.only (record { protocols = p; algorithms = a; own_protocols = o; own_algorithms = b }))

pub protocol_tells : (p o : List ℕ) → Tells protocol_numbers (protocol_given (choice.choose_protocol p o))
protocol_tells p o = tells (omega arith) (of_protocol_lem (choice.choose_protocol p o)) (choose_protocol_exactly.only (p, o))

pub key_tells : (n : ℕ) → Tells key_numbers (key_given n (describe n))
key_tells n = record { table = omega arith; only = key_exactly.only n }

-- ---- a plan

pub change_tells : (f : Plan → Plan) (c : List ℕ) → Tells plan_numbers (changed f (plan_in c))
change_tells f c = record { table = omega arith; only = (change_exactly f).only c }

pub append_tells : (c cookie tray : List ℕ) → Tells append_numbers (grown_given (appended (plan_in c) cookie tray))
append_tells c cookie tray =
    tells (omega arith) (of_appended_lem (appended (plan_in c) cookie tray)) (cells_append_exactly.only (record { cells = c; cookie = cookie; tray = tray }))

pub plan_length_tells : (c tray : List ℕ) → Tells plan_numbers (counted (planned_length (plan_in c) tray))
plan_length_tells c tray = tells (omega arith) (of_count_lem (planned_length (plan_in c) tray)) (cells_length_exactly.only (c, tray))

pub write_reply_tells : (c tray server : List ℕ) (room : ℕ) → Tells reply_writer_numbers (counted (planned_reply (plan_in c) tray server room))
write_reply_tells c tray server room =
    tells (omega arith) (of_count_lem (planned_reply (plan_in c) tray server room)) (cells_reply_exactly.only (record { cells = c; tray = tray; server = server; room = room }))

-- ---- the other writers and lengths, and a denied name appended

pub fixed_tells : (k : ℕ) → 0 < k → (room : ℕ) → Tells room_numbers (counted (fitted room (bytes k)))
fixed_tells k h room = tells (omega arith) (of_count_lem (fitted room (bytes k))) ((fixed_exactly k h).only room)

pub support_length_tells : (n : ℕ) (pairs protocols : List ℕ) → Tells length_numbers (counted (support_count n pairs protocols))
support_length_tells n pairs protocols =
    tells (omega arith) (of_count_lem (support_count n pairs protocols)) (support_count_exactly.only (record { asked = n; pairs = pairs; protocols = protocols }))

pub write_support_tells : (n : ℕ) (pairs protocols : List ℕ) (room : ℕ) → Tells writer_numbers (counted (fitted room (support_count n pairs protocols)))
write_support_tells n pairs protocols room =
    tells (omega arith) (of_count_lem (fitted room (support_count n pairs protocols))) (support_written_exactly.only (record { asked = n; pairs = pairs; protocols = protocols }, room))

pub request_length_tells : (protocols algorithms tray : List ℕ) (used : ℕ) → Tells length_numbers (counted (request_checked protocols algorithms (names_in used tray)))
request_length_tells protocols algorithms tray used =
    tells (omega arith) (of_count_lem (request_checked protocols algorithms (names_in used tray)))
    (request_length_exactly.only (record { protocols = protocols; algorithms = algorithms; tray = tray; used = used }))

pub write_request_tells : (protocols algorithms tray : List ℕ) (used room : ℕ)
    → Tells writer_numbers (counted (fitted room (request_checked protocols algorithms (names_in used tray))))
write_request_tells protocols algorithms tray used room =
    tells (omega arith) (of_count_lem (fitted room (request_checked protocols algorithms (names_in used tray))))
    (write_request_exactly.only (record { protocols = protocols; algorithms = algorithms; tray = tray; used = used }, room))

pub deny_tells : (used : ℕ) (name tray : List ℕ) → Tells writer_numbers (counted (deny used name tray))
deny_tells used name tray = tells (omega arith) (of_count_lem (deny used name tray)) (deny_exactly.only (record { used = used; name = name; tray = tray }))

pub record_length_tells : (c s : List ℕ) → Tells length_numbers (counted (held_length (record_in c) s))
record_length_tells c s = tells (omega arith) (of_count_lem (held_length (record_in c) s)) (held_length_exactly.only (c, s))

pub write_record_tells : (c s : List ℕ) (room : ℕ) → Tells writer_numbers (counted (fitted room (held_length (record_in c) s)))
write_record_tells c s room = tells (omega arith) (of_count_lem (fitted room (held_length (record_in c) s))) (held_written_exactly.only ((c, s), room))

-- ---- a listing

pub list_tells : (m : List ℕ) (n names room : ℕ) → Tells room_numbers (counted (fitted room (bytes (length (listing m n names)))))
list_tells m n names room =
    tells (omega arith) (of_count_lem (fitted room (bytes (length (listing m n names))))) (list_exactly.only (record { message = m; limit = n; room = names }, room))
