-- Demand 1, "A refusal bears its number from document 01": where the word of a call is not 0, it is that of the refusal which its definition tells (`gives_refused`,
-- cells/proofs/Lent.antt, for every contract of `Gives`). Here the other way round: a call returns 0 only where its definition refuses nothing, since no number of a
-- set is 0 (`sure_of`, Refusing.antt), and then what was lent holds what the definition gives. One theorem for each call that can refuse, over its own contract; for the
-- readers of whole messages `request_word` and `reply_word` (FaceKept.antt). Of the calls that feed a read in pieces also what 65,535 says, and that a close never gives it.
-- Assumes nothing.
use mathlib.Core.Path.{◌≡◌, refl}
use mathlib.Core.List.{List, [], ◌∷◌}
use mathlib.Core.Bool.{true, false}
use Prim.Native.Nat.{ℕ}
use native.Mathlib.Omega.{arith}
use lib.ListN.{length}
use Rattle.wire.specs.Over.{over}
use Rattle.nts.specs.Algorithm.{describe}
use Rattle.layout.specs.Write.{Count, bytes, fitted}
use Rattle.record.specs.Record.{read_at}
use Rattle.negotiation.specs.Negotiation as choices
use Rattle.plan.specs.Tray.{names_in, deny}
use Rattle.plan.specs.Plan as plans
use Rattle.plan.specs.declared.Port.TheVariants as ports
use Rattle.plan.specs.declared.NameLength.TheVariants as names
use Rattle.messages.specs.Messages.{message_of, bodies_of, no_protocol_records, no_algorithm_records, error_records, support_records, request_records, request_checked}
use Rattle.listing.specs.Listing.{listing}
use Rattle.walk.specs.Judge.{Terms, room_for}
use Rattle.reply.specs.Reply.{offering}
use Rattle.cells.specs.Cells.{Given, cells, cell}
use Rattle.cells.proofs.Lent.{gives_granted, counted_granted, writes_granted}
use Rattle.places.specs.Places.{room_of}
use Rattle.request.specs.Request.{told_by, decided}
use Rattle.pieces.specs.Pieces.{Brought, Read, nothing_yet, says}
use Rattle.pieces.specs.Reads.{request_read, reply_read}
use Rattle.reading.specs.Read.{request_given, reply_given, record_given}
use Rattle.feeding.specs.Fed.{is_connection, line_in, says_in}
use Rattle.feeding.proofs.Answering.{host_request, host_reply, request_eighteenth, reply_eighteenth, fed_granted, fed_waits}
use Rattle.promises.proofs.Closing.{closed_says}
use Rattle.handing.specs.Handed.{choice_given, protocol_given, key_given}
use Rattle.planning.specs.Planned.{plan_in, changed, grown_given, appended, planned_length, planned_reply, planned_bytes}
use Rattle.writing.specs.Given.{record_in, held_length, held_bytes, asked_of, support_count}
use Rattle.reading.proofs.ntske_read_record.Reads as read_record
use Rattle.deciding.specs.Given.{found_in}
use Rattle.deciding.proofs.ntske_decide_request.Reads as decide_request
use Rattle.feeding.proofs.ntske_feed_request.Reads as feed_request
use Rattle.feeding.proofs.ntske_close_request.Reads as close_request
use Rattle.feeding.proofs.ntske_feed_reply.Reads as feed_reply
use Rattle.feeding.proofs.ntske_close_reply.Reads as close_reply
use Rattle.handing.proofs.ntske_choose.Reads as choose
use Rattle.handing.proofs.ntske_choose_protocol.Reads as choose_protocol
use Rattle.handing.proofs.ntske_key_length.Reads as key_length
use Rattle.planning.proofs.ntske_plan_set_port.Reads as plan_set_port
use Rattle.planning.proofs.ntske_plan_clear_port.Reads as plan_clear_port
use Rattle.planning.proofs.ntske_plan_set_name_length.Reads as plan_set_name_length
use Rattle.planning.proofs.ntske_plan_clear_name_length.Reads as plan_clear_name_length
use Rattle.planning.proofs.ntske_plan_set_keep_alive.Reads as plan_set_keep_alive
use Rattle.planning.proofs.ntske_plan_clear_keep_alive.Reads as plan_clear_keep_alive
use Rattle.planning.proofs.ntske_plan_append.Reads as plan_append
use Rattle.planning.proofs.ntske_plan_length.Reads as plan_length
use Rattle.planning.proofs.ntske_write_reply.Reads as write_reply
use Rattle.writing.proofs.ntske_write_no_protocol.Reads as write_no_protocol
use Rattle.writing.proofs.ntske_write_no_algorithm.Reads as write_no_algorithm
use Rattle.writing.proofs.ntske_write_error.Reads as write_error
use Rattle.writing.proofs.ntske_write_support_reply.Reads as write_support_reply
use Rattle.writing.proofs.ntske_support_reply_length.Reads as support_reply_length
use Rattle.writing.proofs.ntske_write_request.Reads as write_request
use Rattle.writing.proofs.ntske_request_length.Reads as request_length
use Rattle.writing.proofs.ntske_append_denied.Reads as append_denied
use Rattle.writing.proofs.ntske_write_record.Reads as write_record
use Rattle.writing.proofs.ntske_record_length.Reads as record_length
use Rattle.showing.proofs.ntske_list.Reads as list
use Rattle.promises.proofs.Refusing.{sure_of}
use Rattle.promises.proofs.Telling.{record_tells, decide_tells, choice_tells, protocol_tells, key_tells, change_tells, append_tells, plan_length_tells, write_reply_tells, fixed_tells, support_length_tells, write_support_tells, request_length_tells, write_request_tells, deny_tells, record_length_tells, write_record_tells, list_tells}

-- ---- what 0 says

-- the definition gives cells, and they are those that were lent
abbrev pub Gave : Given → List ℕ → Type 0
Gave g after = g ≡ cells after

-- .. a count of bytes, and the cell holds it
abbrev pub Counted : Count → List ℕ → Type 0
Counted a after = (n : ℕ) × (a ≡ bytes n) × (after ≡ n ∷ [])

-- .. and the bytes b are at the output's front
abbrev pub Written : Count → List ℕ → List ℕ → List ℕ → List ℕ → Type 0
Written a b o o' after = (n : ℕ) × (a ≡ bytes n) × (o' ≡ over b o) × (after ≡ n ∷ [])

-- .. and of a read that is fed in pieces: the cells c hold a connection whose read is accepted, and f gives these for what is told of it
abbrev pub FedAccepted : (X : Read) → (X.Told → Given) → List ℕ → List ℕ → Brought → Terms → List ℕ → Type 0
FedAccepted X f c b h u after = (is_connection c ≡ true) × (x : X.Told) × (says_in X (line_in c) b h u ≡ says x) × (f x ≡ cells after)

-- 65,535: its read waits
abbrev pub FedWaits : Read → List ℕ → List ℕ → Brought → Terms → Type 0
FedWaits X c b h u = (is_connection c ≡ true) × (says_in X (line_in c) b h u ≡ nothing_yet)

-- ---- one record; a choice, and the length of a key

pub read_record_granted : (κs : _) (a : _) (r : _) (e : _) → read_record.Learnt κs a r e → r ≡ 0
    → Gave (record_given (read_at a.0.now a.1.0)) e.1.1.0.now
read_record_granted κs a r e p z = gives_granted p (sure_of (record_tells a.0.now a.1.0)) z

pub choose_granted : (κs : _) (a : _) (r : _) (e : _) → choose.Learnt κs a r e → r ≡ 0
    → Gave (choice_given (choices.choose a.0.now a.1.0.now a.1.1.0.now a.1.1.1.0.now)) e.1.1.1.1.0.now
choose_granted κs a r e p z = gives_granted p (sure_of (choice_tells a.0.now a.1.0.now a.1.1.0.now a.1.1.1.0.now)) z

pub choose_protocol_granted : (κs : _) (a : _) (r : _) (e : _) → choose_protocol.Learnt κs a r e → r ≡ 0
    → Gave (protocol_given (choices.choose_protocol a.0.now a.1.0.now)) e.1.1.0.now
choose_protocol_granted κs a r e p z = gives_granted p (sure_of (protocol_tells a.0.now a.1.0.now)) z

pub key_length_granted : (κs : _) (a : _) (r : _) (e : _) → key_length.Learnt κs a r e → r ≡ 0
    → Gave (key_given a.0 (describe a.0)) e.1.0.now
key_length_granted κs a r e p z = gives_granted p (sure_of (key_tells a.0)) z

-- ---- a decision from a finding

pub decide_request_granted : (κs : _) (a : _) (r : _) (e : _) → decide_request.Learnt κs a r e → r ≡ 0
    → Gave (request_given (told_by a.1.0.now (decided (found_in a.0.now) a.1.0.now (room_of a.1.1.0.now)))) e.1.1.1.0.now
decide_request_granted κs a r e p z = gives_granted p.gives (sure_of (decide_tells (found_in a.0.now) a.1.0.now (room_of a.1.1.0.now))) z

-- ---- a read that is fed in pieces

pub feed_request_granted : (κs : _) (a : _) (r : _) (e : _) → feed_request.Learnt κs a r e → r ≡ 0
    → FedAccepted request_read request_given a.0.now a.1.1.0.now (record { piece = a.1.0.now; closed = false }) (room_for (room_of a.1.1.1.0.now)) e.1.1.1.1.0.now
feed_request_granted κs a r e p z = fed_granted host_request request_eighteenth p z

pub feed_request_waits : (κs : _) (a : _) (r : _) (e : _) → feed_request.Learnt κs a r e → r ≡ 65535
    → FedWaits request_read a.0.now a.1.1.0.now (record { piece = a.1.0.now; closed = false }) (room_for (room_of a.1.1.1.0.now))
feed_request_waits κs a r e p z = fed_waits host_request request_eighteenth p z

pub close_request_granted : (κs : _) (a : _) (r : _) (e : _) → close_request.Learnt κs a r e → r ≡ 0
    → FedAccepted request_read request_given a.0.now a.1.0.now (record { piece = []; closed = true }) (room_for (room_of a.1.1.0.now)) e.1.1.1.0.now
close_request_granted κs a r e p z = fed_granted host_request request_eighteenth p z

pub close_request_decides : (κs : _) (a : _) (r : _) (e : _) → close_request.Learnt κs a r e → r ≡ 65535 → ⊥
close_request_decides κs a r e p z = closed_says request_read (line_in a.0.now) a.1.0.now (record { piece = []; closed = true }) refl _ (room_for (room_of a.1.1.0.now)) (fed_waits host_request request_eighteenth p z).1

pub feed_reply_granted : (κs : _) (a : _) (r : _) (e : _) → feed_reply.Learnt κs a r e → r ≡ 0
    → FedAccepted reply_read reply_given a.0.now a.1.1.1.1.0.now (record { piece = a.1.0.now; closed = false }) (offering a.1.1.0.now a.1.1.1.0.now (room_of a.1.1.1.1.1.0.now)) e.1.1.1.1.1.1.0.now
feed_reply_granted κs a r e p z = fed_granted host_reply reply_eighteenth p z

pub feed_reply_waits : (κs : _) (a : _) (r : _) (e : _) → feed_reply.Learnt κs a r e → r ≡ 65535
    → FedWaits reply_read a.0.now a.1.1.1.1.0.now (record { piece = a.1.0.now; closed = false }) (offering a.1.1.0.now a.1.1.1.0.now (room_of a.1.1.1.1.1.0.now))
feed_reply_waits κs a r e p z = fed_waits host_reply reply_eighteenth p z

pub close_reply_granted : (κs : _) (a : _) (r : _) (e : _) → close_reply.Learnt κs a r e → r ≡ 0
    → FedAccepted reply_read reply_given a.0.now a.1.1.1.0.now (record { piece = []; closed = true }) (offering a.1.0.now a.1.1.0.now (room_of a.1.1.1.1.0.now)) e.1.1.1.1.1.0.now
close_reply_granted κs a r e p z = fed_granted host_reply reply_eighteenth p z

pub close_reply_decides : (κs : _) (a : _) (r : _) (e : _) → close_reply.Learnt κs a r e → r ≡ 65535 → ⊥
close_reply_decides κs a r e p z = closed_says reply_read (line_in a.0.now) a.1.1.1.0.now (record { piece = []; closed = true }) refl _ (offering a.1.0.now a.1.1.0.now (room_of a.1.1.1.1.0.now)) (fed_waits host_reply reply_eighteenth p z).1

-- ---- a plan, its length and its reply

pub plan_set_port_granted : (κs : _) (a : _) (r : _) (e : _) → plan_set_port.Learnt κs a r e → r ≡ 0
    → Gave (changed (λ x. plans.with_port x (ports.Number a.1.0)) (plan_in a.0.now)) e.0.now
plan_set_port_granted κs a r e p z = gives_granted p (sure_of (change_tells (λ x. plans.with_port x (ports.Number a.1.0)) a.0.now)) z

pub plan_clear_port_granted : (κs : _) (a : _) (r : _) (e : _) → plan_clear_port.Learnt κs a r e → r ≡ 0
    → Gave (changed (λ x. plans.with_port x ports.None) (plan_in a.0.now)) e.0.now
plan_clear_port_granted κs a r e p z = gives_granted p (sure_of (change_tells (λ x. plans.with_port x ports.None) a.0.now)) z

pub plan_set_name_length_granted : (κs : _) (a : _) (r : _) (e : _) → plan_set_name_length.Learnt κs a r e → r ≡ 0
    → Gave (changed (λ x. plans.with_name x (names.Bytes a.1.0)) (plan_in a.0.now)) e.0.now
plan_set_name_length_granted κs a r e p z = gives_granted p (sure_of (change_tells (λ x. plans.with_name x (names.Bytes a.1.0)) a.0.now)) z

pub plan_clear_name_length_granted : (κs : _) (a : _) (r : _) (e : _) → plan_clear_name_length.Learnt κs a r e → r ≡ 0
    → Gave (changed (λ x. plans.with_name x names.None) (plan_in a.0.now)) e.0.now
plan_clear_name_length_granted κs a r e p z = gives_granted p (sure_of (change_tells (λ x. plans.with_name x names.None) a.0.now)) z

pub plan_set_keep_alive_granted : (κs : _) (a : _) (r : _) (e : _) → plan_set_keep_alive.Learnt κs a r e → r ≡ 0
    → Gave (changed (λ x. plans.with_keep_alive x true) (plan_in a.0.now)) e.0.now
plan_set_keep_alive_granted κs a r e p z = gives_granted p (sure_of (change_tells (λ x. plans.with_keep_alive x true) a.0.now)) z

pub plan_clear_keep_alive_granted : (κs : _) (a : _) (r : _) (e : _) → plan_clear_keep_alive.Learnt κs a r e → r ≡ 0
    → Gave (changed (λ x. plans.with_keep_alive x false) (plan_in a.0.now)) e.0.now
plan_clear_keep_alive_granted κs a r e p z = gives_granted p (sure_of (change_tells (λ x. plans.with_keep_alive x false) a.0.now)) z

pub plan_append_granted : (κs : _) (a : _) (r : _) (e : _) → plan_append.Learnt κs a r e → r ≡ 0
    → Gave (grown_given (appended (plan_in a.0.now) a.1.0.now a.1.1.0.now)) e.0.now
plan_append_granted κs a r e p z = gives_granted p.gives (sure_of (append_tells a.0.now a.1.0.now a.1.1.0.now)) z

pub plan_length_granted : (κs : _) (a : _) (r : _) (e : _) → plan_length.Learnt κs a r e → r ≡ 0
    → Counted (planned_length (plan_in a.0.now) a.1.0.now) e.1.1.0.now
plan_length_granted κs a r e p z = counted_granted p (sure_of (plan_length_tells a.0.now a.1.0.now)) z

pub write_reply_granted : (κs : _) (a : _) (r : _) (e : _) → write_reply.Learnt κs a r e → r ≡ 0
    → Written (planned_reply (plan_in a.0.now) a.1.0.now a.1.1.0.now (length a.1.1.1.0.now))
    (planned_bytes (plan_in a.0.now) a.1.0.now a.1.1.0.now) a.1.1.1.0.now e.1.1.1.0.now e.1.1.1.1.0.now
write_reply_granted κs a r e p z = writes_granted p (sure_of (write_reply_tells a.0.now a.1.0.now a.1.1.0.now (length a.1.1.1.0.now))) z

-- ---- the other writers and lengths, and a denied name appended

pub write_no_protocol_granted : (κs : _) (a : _) (r : _) (e : _) → write_no_protocol.Learnt κs a r e → r ≡ 0
    → Written (fitted (length a.0.now) (bytes 8)) (message_of no_protocol_records) a.0.now e.0.now e.1.0.now
write_no_protocol_granted κs a r e p z = writes_granted p (sure_of (fixed_tells 8 (omega arith) (length a.0.now))) z

pub write_no_algorithm_granted : (κs : _) (a : _) (r : _) (e : _) → write_no_algorithm.Learnt κs a r e → r ≡ 0
    → Written (fitted (length a.1.0.now) (bytes 14)) (message_of (no_algorithm_records a.0)) a.1.0.now e.1.0.now e.1.1.0.now
write_no_algorithm_granted κs a r e p z = writes_granted p (sure_of (fixed_tells 14 (omega arith) (length a.1.0.now))) z

pub write_error_granted : (κs : _) (a : _) (r : _) (e : _) → write_error.Learnt κs a r e → r ≡ 0
    → Written (fitted (length a.1.0.now) (bytes 10)) (message_of (error_records a.0)) a.1.0.now e.1.0.now e.1.1.0.now
write_error_granted κs a r e p z = writes_granted p (sure_of (fixed_tells 10 (omega arith) (length a.1.0.now))) z

pub write_support_reply_granted : (κs : _) (a : _) (r : _) (e : _) → write_support_reply.Learnt κs a r e → r ≡ 0
    → Written (fitted (length a.1.1.1.0.now) (support_count a.0 a.1.0.now a.1.1.0.now))
    (message_of (support_records (asked_of a.0) a.1.0.now a.1.1.0.now)) a.1.1.1.0.now e.1.1.1.0.now e.1.1.1.1.0.now
write_support_reply_granted κs a r e p z = writes_granted p (sure_of (write_support_tells a.0 a.1.0.now a.1.1.0.now (length a.1.1.1.0.now))) z

pub support_reply_length_granted : (κs : _) (a : _) (r : _) (e : _) → support_reply_length.Learnt κs a r e → r ≡ 0
    → Counted (support_count a.0 a.1.0.now a.1.1.0.now) e.1.1.1.0.now
support_reply_length_granted κs a r e p z = counted_granted p (sure_of (support_length_tells a.0 a.1.0.now a.1.1.0.now)) z

pub write_request_granted : (κs : _) (a : _) (r : _) (e : _) → write_request.Learnt κs a r e → r ≡ 0
    → Written (fitted (length a.1.1.1.1.0.now) (request_checked a.0.now a.1.0.now (names_in a.1.1.1.0 a.1.1.0.now)))
    (message_of (request_records a.0.now a.1.0.now (bodies_of (names_in a.1.1.1.0 a.1.1.0.now)))) a.1.1.1.1.0.now e.1.1.1.1.0.now e.1.1.1.1.1.0.now
write_request_granted κs a r e p z = writes_granted p (sure_of (write_request_tells a.0.now a.1.0.now a.1.1.0.now a.1.1.1.0 (length a.1.1.1.1.0.now))) z

pub request_length_granted : (κs : _) (a : _) (r : _) (e : _) → request_length.Learnt κs a r e → r ≡ 0
    → Counted (request_checked a.0.now a.1.0.now (names_in a.1.1.1.0 a.1.1.0.now)) e.1.1.1.1.0.now
request_length_granted κs a r e p z = counted_granted p (sure_of (request_length_tells a.0.now a.1.0.now a.1.1.0.now a.1.1.1.0)) z

pub append_denied_granted : (κs : _) (a : _) (r : _) (e : _) → append_denied.Learnt κs a r e → r ≡ 0
    → Counted (deny (cell a.1.1.0.now 0) a.0.now a.1.0.now) e.1.1.0.now
append_denied_granted κs a r e p z = counted_granted p.gives (sure_of (deny_tells (cell a.1.1.0.now 0) a.0.now a.1.0.now)) z

pub write_record_granted : (κs : _) (a : _) (r : _) (e : _) → write_record.Learnt κs a r e → r ≡ 0
    → Written (fitted (length a.1.1.0.now) (held_length (record_in a.0.now) a.1.0.now))
    (held_bytes (record_in a.0.now) a.1.0.now) a.1.1.0.now e.1.1.0.now e.1.1.1.0.now
write_record_granted κs a r e p z = writes_granted p (sure_of (write_record_tells a.0.now a.1.0.now (length a.1.1.0.now))) z

pub record_length_granted : (κs : _) (a : _) (r : _) (e : _) → record_length.Learnt κs a r e → r ≡ 0
    → Counted (held_length (record_in a.0.now) a.1.0.now) e.1.1.0.now
record_length_granted κs a r e p z = counted_granted p (sure_of (record_length_tells a.0.now a.1.0.now)) z

-- ---- a listing

pub list_granted : (κs : _) (a : _) (r : _) (e : _) → list.Learnt κs a r e → r ≡ 0
    → Written (fitted (length a.1.1.1.0.now) (bytes (length (listing a.0.now a.1.0 a.1.1.0))))
    (listing a.0.now a.1.0 a.1.1.0) a.1.1.1.0.now e.1.1.1.0.now e.1.1.1.1.0.now
list_granted κs a r e p z = writes_granted p (sure_of (list_tells a.0.now a.1.0 a.1.1.0 (length a.1.1.1.0.now))) z
