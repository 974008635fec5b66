-- Demand 1 for the calls between crates: "Every public call ends with an answer for every message, limit, list and buffer, and relies on no check by its caller. A
-- refusal bears its number from document 01 and changes no lent table or buffer." The calls that a host links: FaceKept.antt and FaceGranted.antt.
--
-- That a call ends with an answer is said by the function's own theorem, which the check proves of every function: its routine meets its contract, in every model of the
-- logic. The logic is one of total correctness: a triple holds only of code that ends, so a loop, or a function that calls itself, is proved with a measure that falls. What
-- that says of a run is the kit's theorem `adequate` (denote, Triple/Adequate): from any memory that holds what the parameters' types own, and in which the `requires` holds,
-- the routine's run returns, in a memory in which the `ensures` holds. The kit states no instance of it function by function (README, what is assumed). No public function has
-- a `requires` (.ci/promises), so this is for every message, limit, list and buffer, whatever its caller checked.
--
-- Here, of each call that can refuse, over its own contract: where it refuses, the number is one of the call's set (specs/Numbers.antt), and each thing that was lent for
-- writing is as it was. That no other number is ever told, and each of the set is, of the definition that the call's contract says
-- it answers: Exact.antt. The calls that bear no number of 01: docs/DECISIONS.md.
-- Assumes nothing.
use mathlib.Core.Path.{◌≡◌, sym, ap, ◌∙◌}
use native.Mathlib.Omega.{arith}
use lib.ListN.{length, take}
use Rattle.nts.specs.Refusal.{number_of, beside_of}
use Rattle.nts.specs.declared.NtsError.{NtsError}
use Rattle.nts.specs.declared.Refusal.{Refusal}
use Rattle.layout.specs.Write.{told_count}
use Rattle.layout.specs.declared.Profile.TheVariants.{Usual}
use Rattle.layout.specs.declared.ByteCount.{ByteCount}
use Rattle.layout.specs.declared.ByteCount.TheVariants as count
use Rattle.record.specs.Told.{told_parsed, told_looked}
use Rattle.record.specs.declared.Parsed.TheVariants as parsed
use Rattle.record.specs.declared.Looked.TheVariants as looked
use Rattle.walk.specs.Walk.{walked}
use Rattle.walk.specs.Rules.{reader_of}
use Rattle.walk.specs.Found.{way_by}
use Rattle.walk.specs.Finding.{Found, found_by, told_finding}
use Rattle.walk.specs.declared.Stop.TheVariants as stop
use Rattle.places.specs.Places.{room_of}
use Rattle.places.specs.declared.Filled.TheVariants as filled
use Rattle.request.specs.Request.{reader, request}
use Rattle.request.specs.declared.Answer.TheVariants as request_answer
use Rattle.reply.specs.Reply.{reply_of, offering}
use Rattle.reply.specs.declared.Answer.TheVariants as reply_answer
use Rattle.pieces.specs.Pieces.{told_state}
use Rattle.pieces.specs.declared.RequestAnswer.TheVariants as asked
use Rattle.pieces.specs.declared.ReplyAnswer.TheVariants as replied
use Rattle.pieces.specs.declared.Answer.TheVariants as handed
use Rattle.negotiation.specs.Negotiation.{told_choice, told_protocol}
use Rattle.negotiation.specs.declared.Choice.TheVariants as choice
use Rattle.negotiation.specs.declared.ProtocolChoice.TheVariants as protocol
use Rattle.plan.specs.declared.Appended.TheVariants as appended
use Rattle.cells.specs.Cells.{word, unplaced, returned, held, counted}
use Rattle.record.proofs.NtsRecord.parse.Reads as record_parse
use Rattle.record.proofs.Cursor.read.Reads as record_read
use Rattle.record.proofs.look.Reads as record_look
use Rattle.record.proofs.NtsRecord.serialize.Reads as record_serialize
use Rattle.record.proofs.NtsRecord.length.Reads as record_length
use Rattle.layout.proofs.Layout.write.Reads as layout_write
use Rattle.layout.proofs.Layout.length.Reads as layout_length
use Rattle.walk.proofs.walk.Reads as walk_walk
use Rattle.places.proofs.fill.Reads as places_fill
use Rattle.request.proofs.Request.parse.Reads as request_parse
use Rattle.request.proofs.Request.judge.Reads as request_judge
use Rattle.request.proofs.Request.walk.Reads as request_walk
use Rattle.request.proofs.Request.decide.Reads as request_decide
use Rattle.reply.proofs.KeyExchangeResponse.parse.Reads as reply_parse
use Rattle.reply.proofs.KeyExchangeResponse.judge.Reads as reply_judge
use Rattle.pieces.proofs.feed_request.Reads as pieces_feed_request
use Rattle.pieces.proofs.feed_reply.Reads as pieces_feed_reply
use Rattle.pieces.proofs.hand.Reads as pieces_hand
use Rattle.pieces.proofs.InPlace as pieces_hand_over
use Rattle.negotiation.proofs.choose.Reads as negotiation_choose
use Rattle.negotiation.proofs.choose_protocol.Reads as negotiation_choose_protocol
use Rattle.plan.proofs.Plan.append.Reads as plan_append
use Rattle.plan.proofs.Plan.length.Reads as plan_length
use Rattle.plan.proofs.append_denied.Reads as plan_append_denied
use Rattle.declining.proofs.write_no_protocol.Reads as declining_write_no_protocol
use Rattle.declining.proofs.write_no_algorithm.Reads as declining_write_no_algorithm
use Rattle.declining.proofs.write_error.Reads as declining_write_error
use Rattle.supporting.proofs.write_support_reply.Reads as supporting_write_support_reply
use Rattle.supporting.proofs.support_reply_length.Reads as supporting_support_reply_length
use Rattle.outgoing.proofs.write_reply.Reads as outgoing_write_reply
use Rattle.outgoing.proofs.write_request.Reads as outgoing_write_request
use Rattle.outgoing.proofs.request_length.Reads as outgoing_request_length
use Rattle.listing.proofs.list.Reads as listing_list
use Rattle.cells.proofs.give_count.Reads as cells_give_count
use Rattle.promises.specs.Numbers.{In, of_read, of_sight, of_choice, of_protocol, record_numbers, walk_numbers, request_numbers, stop_numbers, decide_numbers, reply_numbers, feed_request_numbers, feed_reply_numbers, expected_numbers, or_kept, fill_numbers, choice_numbers, protocol_numbers, length_numbers, writer_numbers, append_numbers, plan_numbers, reply_writer_numbers, room_numbers}
use Rattle.promises.proofs.Exact.{record_exactly, look_exactly, walk_exactly, request_exactly, stop_exactly, decide_exactly, reply_exactly, fill_exactly, choose_exactly, choose_protocol_exactly, length_exactly, layout_length_exactly, serialize_exactly, layout_write_exactly, append_exactly, plan_length_exactly, deny_exactly, fixed_exactly, list_exactly, write_reply_exactly, support_length_exactly, write_support_exactly, request_length_exactly, write_request_exactly}
use Rattle.promises.proofs.Refusing.{count_refuses, wrote_refuses, append_refuses, deny_refuses, fill_refuses, walk_refuses, judge_refuses, request_refuses, reply_answer_refuses, reply_refuses}
use Rattle.promises.proofs.RefusingFed.{feed_request_refuses, feed_reply_refuses, hands_over_refuses}

-- ---- one record

pub record_parse_refuses : (κs : _) (a : _) (r : _) (e : _) → record_parse.Learnt κs a r e → (y : Refusal) → r ≡ parsed.Refused y → In (number_of y.error) record_numbers
record_parse_refuses κs a r e p y h = record_exactly.only (a.0.now, a.1.0) (number_of y.error) (ap of_read (sym p ∙ ap told_parsed h))

pub record_read_refuses : (κs : _) (a : _) (r : _) (e : _) → record_read.Learnt κs a r e → (y : Refusal) → r ≡ parsed.Refused y → In (number_of y.error) record_numbers
record_read_refuses κs a r e p y h = record_exactly.only (a.1.0.now, a.0.at) (number_of y.error) (ap of_read (sym p ∙ ap told_parsed h))

-- in every profile
pub record_look_refuses : (κs : _) (a : _) (r : _) (e : _) → record_look.Learnt κs a r e → (y : Refusal) → r ≡ looked.Refused y → In (number_of y.error) record_numbers
record_look_refuses κs a r e p y h = (look_exactly a.0).only (a.1.0.now, a.1.1.0) (number_of y.error) (ap of_sight (sym p ∙ ap told_looked h))

pub record_serialize_refuses : (κs : _) (a : _) (r : _) (e : _) → record_serialize.Learnt κs a r e → (x : NtsError) → r ≡ count.Refused x → (e.1.1.0.now ≡ a.1.1.0.now) × In (number_of x) writer_numbers
record_serialize_refuses κs a r e p x h = wrote_refuses writer_numbers (serialize_exactly.only ((a.0, a.1.0.now), length a.1.1.0.now)) p x h

pub record_length_refuses : (κs : _) (a : _) (r : _) (e : _) → record_length.Learnt κs a r e → (x : NtsError) → r ≡ count.Refused x → In (number_of x) length_numbers
record_length_refuses κs a r e p x h = count_refuses length_numbers (length_exactly.only (a.0, a.1.0.now)) p x h

pub layout_write_refuses : (κs : _) (a : _) (r : _) (e : _) → layout_write.Learnt κs a r e → (x : NtsError) → r ≡ count.Refused x → (e.1.1.0.now ≡ a.1.1.0.now) × In (number_of x) writer_numbers
layout_write_refuses κs a r e p x h = wrote_refuses writer_numbers (layout_write_exactly.only ((a.0, a.1.0.now), length a.1.1.0.now)) p x h

pub layout_length_refuses : (κs : _) (a : _) (r : _) (e : _) → layout_length.Learnt κs a r e → (x : NtsError) → r ≡ count.Refused x → In (number_of x) length_numbers
layout_length_refuses κs a r e p x h = count_refuses length_numbers (layout_length_exactly.only (a.0, a.1.0.now)) p x h

-- ---- whole messages and their tables

-- in every profile and by every table of rules. The cells lent to it are its answer, which a walk that is refused fills as well (docs/DECISIONS.md)
pub walk_walk_refuses : (κs : _) (a : _) (r : _) (e : _) → walk_walk.Learnt κs a r e → (x : NtsError) → r.stop ≡ stop.Refused x → In (number_of x) (walk_numbers a.0)
unfolding found_by
walk_walk_refuses κs a r e p x h =
    walk_refuses (walk_numbers a.0) (walked (reader_of (record { profile = a.0; entries = a.1.0.now })) (take a.1.1.1.0 a.1.1.0.now))
    (record { number = number_of x; beside = beside_of x; place = r.place })
    ((walk_exactly a.0).only (a.1.0.now, take a.1.1.1.0 a.1.1.0.now)) (sym (ap (way_by r.place) h) ∙ ap (λ (f : Found). f.way) p)

pub places_fill_refuses : (κs : _) (a : _) (r : _) (e : _) → places_fill.Learnt κs a r e → (y : Refusal) → r ≡ filled.Refused y → (e.1.1.1.0.now ≡ a.1.1.1.0.now) × In (number_of y.error) fill_numbers
places_fill_refuses κs a r e p y h =
    fill_refuses fill_numbers (fill_exactly.only (record { kind = a.1.0; count = a.1.1.0; covered = a.0.now; room = room_of a.1.1.1.0.now })) p y h

pub request_parse_refuses : (κs : _) (a : _) (r : _) (e : _) → request_parse.Learnt κs a r e → (y : Refusal) → r ≡ request_answer.Refused y → (e.1.1.1.0.now ≡ a.1.1.1.0.now) × In (number_of y.error) (request_numbers a.0)
request_parse_refuses κs a r e p y h =
    request_refuses (request_numbers a.0) ((request_exactly a.0).only (record { message = a.1.0.now; limit = a.1.1.0; room = room_of a.1.1.1.0.now })) p y h

-- the request's own walk, in the usual profile
pub request_walk_refuses : (κs : _) (a : _) (r : _) (e : _) → request_walk.Learnt κs a r e → (x : NtsError) → r.stop ≡ stop.Refused x → In (number_of x) stop_numbers
unfolding found_by
request_walk_refuses κs a r e p x h =
    walk_refuses stop_numbers (walked (reader Usual) (take a.1.0 a.0.now)) (record { number = number_of x; beside = beside_of x; place = r.place })
    (stop_exactly.only (take a.1.0 a.0.now)) (sym (ap (way_by r.place) h) ∙ ap (λ (f : Found). f.way) p)

pub request_decide_refuses : (κs : _) (a : _) (r : _) (e : _) → request_decide.Learnt κs a r e → (y : Refusal) → r ≡ request_answer.Refused y → (e.1.1.0.now ≡ a.1.1.0.now) × In (number_of y.error) decide_numbers
request_decide_refuses κs a r e p y h =
    request_refuses decide_numbers (decide_exactly.only (record { found = told_finding a.0; message = a.1.0.now; room = room_of a.1.1.0.now })) p y h

pub request_judge_refuses : (κs : _) (a : _) (r : _) (e : _) → request_judge.Learnt κs a r e → (y : Refusal) → r.answer ≡ request_answer.Refused y → In (number_of y.error) (request_numbers a.0)
request_judge_refuses κs a r e p y h =
    (judge_refuses (request_numbers a.0) a.1.0.now (request a.0 a.1.0.now a.1.1.0 a.1.1.1.0)
    ((request_exactly a.0).only (record { message = a.1.0.now; limit = a.1.1.0; room = a.1.1.1.0 })) p.says y h).1

pub reply_parse_refuses : (κs : _) (a : _) (r : _) (e : _) → reply_parse.Learnt κs a r e → (y : Refusal) → r ≡ reply_answer.Refused y → (e.1.1.1.1.1.0.now ≡ a.1.1.1.1.1.0.now) × In (number_of y.error) (reply_numbers a.0)
reply_parse_refuses κs a r e p y h =
    reply_refuses (reply_numbers a.0)
    ((reply_exactly a.0).only (record { message = a.1.0.now; limit = a.1.1.0; terms = offering a.1.1.1.0.now a.1.1.1.1.0.now (room_of a.1.1.1.1.1.0.now) })) p y h

pub reply_judge_refuses : (κs : _) (a : _) (r : _) (e : _) → reply_judge.Learnt κs a r e → (y : Refusal) → r.answer ≡ reply_answer.Refused y → In (number_of y.error) (reply_numbers a.0)
reply_judge_refuses κs a r e p y h =
    let u = offering a.1.1.1.0.now a.1.1.1.1.0.now a.1.1.1.1.1.0 in
    (reply_answer_refuses (reply_numbers a.0) a.1.0.now (reply_of a.0 a.1.0.now a.1.1.0 u)
    ((reply_exactly a.0).only (record { message = a.1.0.now; limit = a.1.1.0; terms = u })) p.says y h).1

-- ---- a read that is fed in pieces: a refusal may change connection and buffer, and no cell of the table (02, order 1)

pub pieces_feed_request_refuses : (κs : _) (a : _) (r : _) (e : _) → pieces_feed_request.Learnt κs a r e → (y : Refusal) → r.answer ≡ asked.Refused y
    → (e.1.1.1.1.0.now ≡ a.1.1.1.1.0.now) × In (number_of y.error) (or_kept (told_state a.0.state) (feed_request_numbers a.0.profile))
pieces_feed_request_refuses κs a r e p y h = feed_request_refuses a.0 r p y h

pub pieces_feed_reply_refuses : (κs : _) (a : _) (r : _) (e : _) → pieces_feed_reply.Learnt κs a r e → (y : Refusal) → r.answer ≡ replied.Refused y
    → (e.1.1.1.1.1.1.0.now ≡ a.1.1.1.1.1.1.0.now) × In (number_of y.error) (or_kept (told_state a.0.state) (feed_reply_numbers a.0.profile))
pieces_feed_reply_refuses κs a r e p y h = feed_reply_refuses a.0 r a.1.1.1.0.now a.1.1.1.1.0.now p y h

pub pieces_hand_refuses : (κs : _) (a : _) (r : _) (e : _) → pieces_hand.Learnt κs a r e → (y : Refusal) → r.answer ≡ handed.Refused y
    → (e.1.1.1.1.1.1.1.0.now ≡ a.1.1.1.1.1.1.1.0.now) × In (number_of y.error) (or_kept (told_state a.0.state) (expected_numbers a.1.0 a.0.profile))
pieces_hand_refuses κs a r e p y h = hands_over_refuses a.0 a.1.0 _ _ _ _ _ _ r _ _ p y h

pub pieces_hand_over_refuses : (κs : _) (a : _) (r : _) (e : _) → pieces_hand_over.Learnt κs a r e → (y : Refusal) → r ≡ handed.Refused y
    → (e.1.1.1.1.1.1.1.0.now ≡ a.1.1.1.1.1.1.1.0.now) × In (number_of y.error) (or_kept (told_state a.0.now.state) (expected_numbers a.1.0 a.0.now.profile))
pieces_hand_over_refuses κs a r e p y h = hands_over_refuses a.0.now a.1.0 _ _ _ _ _ _ (record { connection = e.0.now; answer = r }) _ _ p y h

-- ---- a choice

pub negotiation_choose_refuses : (κs : _) (a : _) (r : _) (e : _) → negotiation_choose.Learnt κs a r e → (x : NtsError) → r ≡ choice.Refused x → In (number_of x) choice_numbers
negotiation_choose_refuses κs a r e p x h =
    choose_exactly.only (record { protocols = a.0.now; algorithms = a.1.0.now; own_protocols = a.1.1.0.now; own_algorithms = a.1.1.1.0.now })
    (number_of x) (ap of_choice (sym p ∙ ap told_choice h))

pub negotiation_choose_protocol_refuses : (κs : _) (a : _) (r : _) (e : _) → negotiation_choose_protocol.Learnt κs a r e → (x : NtsError) → r ≡ protocol.Refused x → In (number_of x) protocol_numbers
negotiation_choose_protocol_refuses κs a r e p x h =
    choose_protocol_exactly.only (a.0.now, a.1.0.now) (number_of x) (ap of_protocol (sym p ∙ ap told_protocol h))

-- ---- a plan and a tray

pub plan_append_refuses : (κs : _) (a : _) (r : _) (e : _) → plan_append.Learnt κs a r e → (x : NtsError) → r ≡ appended.Refused x → (e.1.1.0.now ≡ a.1.1.0.now) × In (number_of x) append_numbers
plan_append_refuses κs a r e p x h =
    append_refuses append_numbers (append_exactly.only (record { plan = a.0; cookie = a.1.0.now; tray = a.1.1.0.now })) p x h

pub plan_length_refuses : (κs : _) (a : _) (r : _) (e : _) → plan_length.Learnt κs a r e → (x : NtsError) → r ≡ count.Refused x → In (number_of x) plan_numbers
plan_length_refuses κs a r e p x h = count_refuses plan_numbers (plan_length_exactly.only (a.0, a.1.0.now)) p x h

pub plan_append_denied_refuses : (κs : _) (a : _) (r : _) (e : _) → plan_append_denied.Learnt κs a r e → (x : NtsError) → r ≡ count.Refused x → (e.1.0.now ≡ a.1.0.now) × In (number_of x) writer_numbers
plan_append_denied_refuses κs a r e p x h =
    deny_refuses writer_numbers (deny_exactly.only (record { used = a.1.1.0; name = a.0.now; tray = a.1.0.now })) p x h

-- ---- the writers of whole messages

pub declining_write_no_protocol_refuses : (κs : _) (a : _) (r : _) (e : _) → declining_write_no_protocol.Learnt κs a r e → (x : NtsError) → r ≡ count.Refused x → (e.0.now ≡ a.0.now) × In (number_of x) room_numbers
declining_write_no_protocol_refuses κs a r e p x h = wrote_refuses room_numbers ((fixed_exactly 8 (omega arith)).only (length a.0.now)) p x h

pub declining_write_no_algorithm_refuses : (κs : _) (a : _) (r : _) (e : _) → declining_write_no_algorithm.Learnt κs a r e → (x : NtsError) → r ≡ count.Refused x → (e.1.0.now ≡ a.1.0.now) × In (number_of x) room_numbers
declining_write_no_algorithm_refuses κs a r e p x h = wrote_refuses room_numbers ((fixed_exactly 14 (omega arith)).only (length a.1.0.now)) p x h

pub declining_write_error_refuses : (κs : _) (a : _) (r : _) (e : _) → declining_write_error.Learnt κs a r e → (x : NtsError) → r ≡ count.Refused x → (e.1.0.now ≡ a.1.0.now) × In (number_of x) room_numbers
declining_write_error_refuses κs a r e p x h = wrote_refuses room_numbers ((fixed_exactly 10 (omega arith)).only (length a.1.0.now)) p x h

pub supporting_write_support_reply_refuses : (κs : _) (a : _) (r : _) (e : _) → supporting_write_support_reply.Learnt κs a r e → (x : NtsError) → r ≡ count.Refused x → (e.1.1.1.0.now ≡ a.1.1.1.0.now) × In (number_of x) writer_numbers
supporting_write_support_reply_refuses κs a r e p x h =
    wrote_refuses writer_numbers (write_support_exactly.only (record { asked = a.0; pairs = a.1.0.now; protocols = a.1.1.0.now }, length a.1.1.1.0.now)) p x h

pub supporting_support_reply_length_refuses : (κs : _) (a : _) (r : _) (e : _) → supporting_support_reply_length.Learnt κs a r e → (x : NtsError) → r ≡ count.Refused x → In (number_of x) length_numbers
supporting_support_reply_length_refuses κs a r e p x h =
    count_refuses length_numbers (support_length_exactly.only (record { asked = a.0; pairs = a.1.0.now; protocols = a.1.1.0.now })) p x h

pub outgoing_write_reply_refuses : (κs : _) (a : _) (r : _) (e : _) → outgoing_write_reply.Learnt κs a r e → (x : NtsError) → r ≡ count.Refused x → (e.1.1.1.0.now ≡ a.1.1.1.0.now) × In (number_of x) reply_writer_numbers
outgoing_write_reply_refuses κs a r e p x h =
    wrote_refuses reply_writer_numbers (write_reply_exactly.only (record { plan = a.0; tray = a.1.0.now; server = a.1.1.0.now }, length a.1.1.1.0.now)) p x h

pub outgoing_write_request_refuses : (κs : _) (a : _) (r : _) (e : _) → outgoing_write_request.Learnt κs a r e → (x : NtsError) → r ≡ count.Refused x → (e.1.1.1.1.0.now ≡ a.1.1.1.1.0.now) × In (number_of x) writer_numbers
outgoing_write_request_refuses κs a r e p x h =
    wrote_refuses writer_numbers (write_request_exactly.only (record { protocols = a.0.now; algorithms = a.1.0.now; tray = a.1.1.0.now; used = a.1.1.1.0 }, length a.1.1.1.1.0.now)) p x h

pub outgoing_request_length_refuses : (κs : _) (a : _) (r : _) (e : _) → outgoing_request_length.Learnt κs a r e → (x : NtsError) → r ≡ count.Refused x → In (number_of x) length_numbers
outgoing_request_length_refuses κs a r e p x h =
    count_refuses length_numbers (request_length_exactly.only (record { protocols = a.0.now; algorithms = a.1.0.now; tray = a.1.1.0.now; used = a.1.1.1.0 })) p x h

pub listing_list_refuses : (κs : _) (a : _) (r : _) (e : _) → listing_list.Learnt κs a r e → (x : NtsError) → r ≡ count.Refused x → (e.1.1.1.0.now ≡ a.1.1.1.0.now) × In (number_of x) room_numbers
listing_list_refuses κs a r e p x h =
    wrote_refuses room_numbers (list_exactly.only (record { message = a.0.now; limit = a.1.0; room = a.1.1.0 }, length a.1.1.1.0.now)) p x h

-- ---- what the calls that a host links share: another call's answer as a word, and its count in a lent cell

pub cells_give_count_refuses : (κs : _) (a : _) (r : _) (e : _) → cells_give_count.Learnt κs a r e → (x : NtsError) → a.0 ≡ count.Refused x → (e.1.0.now ≡ a.1.0.now) × (r ≡ word (unplaced (number_of x) (beside_of x)))
cells_give_count_refuses κs a r e p x h =
    (p.left ∙ ap (λ (c : ByteCount). held (counted (told_count c)) a.1.0.now) h, p.says ∙ ap (λ (c : ByteCount). returned (counted (told_count c))) h)
