-- Demand 1 for every call that a host links and that has memory lent to it for writing: "A refusal bears its number from document 01 and changes no lent table or
-- buffer." Each call returns one word. The first theorems say what that word is of the readers of whole messages; those that follow say of each call, over its own
-- contract, that a word which is not 0 leaves all that was lent as it was, and that its number, the word's remainder by 256, is one of the call's set
-- (specs/Numbers.antt). Eight calls refuse nothing. Of the calls that feed a read in pieces a word that is neither 0 nor 65,535 refuses: neither it nor 65,535, which waits,
-- changes the table or the answer's cells; connection and buffer may change (02, order 1), and what changes nothing of them is said, too. That each number of a set is told:
-- Exact.antt, ExactFace.antt, and of a read in pieces, over the definition, ExactFed.antt. What a word that is 0 says: FaceGranted.antt.
-- Assumes nothing.
use mathlib.Core.Path.{◌≡◌, ap, ◌∙◌}
use mathlib.Core.List.{List}
use mathlib.Core.Bool.{true, false}
use Prim.Native.Nat.{ℕ, ◌/◌, ◌%◌, ◌<◌}
use native.Mathlib.Omega.{arith}
use lib.ListN.{length, get_or}
use Rattle.wire.specs.Over.{over}
use Rattle.wire.proofs.Over.{over_none}
use Rattle.nts.specs.Refusal.{code, beside_number, Refused}
use Rattle.nts.specs.Algorithm.{Described, known, unknown, describe}
use Rattle.layout.specs.declared.Profile.{Profile}
use Rattle.layout.specs.declared.Profile.TheVariants.{Usual, Strict}
use Rattle.walk.specs.Walk.{Sighting}
use Rattle.walk.specs.Judge.{refused, accepted}
use Rattle.walk.specs.Judge as judge
use Rattle.places.specs.Places.{cells, room_of}
use Rattle.request.specs.Request as requests
use Rattle.request.specs.Request.{request}
use Rattle.reply.specs.Reply as replies
use Rattle.reply.specs.Reply.{reply_of, offering}
use Rattle.plan.specs.Plan as plans
use Rattle.plan.specs.declared.Port.TheVariants as ports
use Rattle.plan.specs.declared.NameLength.TheVariants as names
use Rattle.cells.specs.Cells.{sort_of, word, unplaced, refuses, cell}
use Rattle.cells.proofs.Lent.{gives_refused, gives_kept, apart}
use Rattle.handing.specs.Handed.{key_given}
use Rattle.reading.specs.Read.{ReadsRequest, ReadsReply}
use Rattle.reading.proofs.ntske_read_request.Reads as read_request
use Rattle.reading.proofs.ntske_read_reply.Reads as read_reply
use Rattle.reading.proofs.ntske_read_request_strict.Reads as read_request_strict
use Rattle.reading.proofs.ntske_read_reply_strict.Reads as read_reply_strict
use Rattle.reading.proofs.ntske_read_record.Reads as read_record
use Rattle.deciding.specs.Given.{found_in}
use Rattle.deciding.proofs.ntske_walk_request.Reads as walk_request
use Rattle.deciding.proofs.ntske_decide_request.Reads as decide_request
use Rattle.feeding.proofs.ntske_connection_new.Reads as connection_new
use Rattle.feeding.proofs.ntske_connection_new_strict.Reads as connection_new_strict
use Rattle.feeding.proofs.ntske_feed_request.Reads as feed_request
use Rattle.feeding.proofs.ntske_close_request.Reads as close_request
use Rattle.feeding.proofs.ntske_feed_reply.Reads as feed_reply
use Rattle.feeding.proofs.ntske_close_reply.Reads as close_reply
use Rattle.pieces.specs.Pieces.{is_pending}
use Rattle.feeding.specs.Fed.{line_in}
use Rattle.feeding.proofs.Answering.{fed_again}
use Rattle.handing.proofs.ntske_part.Reads as part
use Rattle.handing.proofs.ntske_entry.Reads as entry
use Rattle.handing.proofs.ntske_number.Reads as number
use Rattle.handing.proofs.ntske_pair.Reads as pair
use Rattle.handing.proofs.ntske_choose.Reads as choose
use Rattle.handing.proofs.ntske_choose_protocol.Reads as choose_protocol
use Rattle.handing.proofs.ntske_key_length.Reads as key_length
use Rattle.planning.proofs.Kept.{appends_kept}
use Rattle.planning.proofs.ntske_plan_new.Reads as plan_new
use Rattle.planning.proofs.ntske_plan_set_port.Reads as plan_set_port
use Rattle.planning.proofs.ntske_plan_clear_port.Reads as plan_clear_port
use Rattle.planning.proofs.ntske_plan_set_name_length.Reads as plan_set_name_length
use Rattle.planning.proofs.ntske_plan_clear_name_length.Reads as plan_clear_name_length
use Rattle.planning.proofs.ntske_plan_set_keep_alive.Reads as plan_set_keep_alive
use Rattle.planning.proofs.ntske_plan_clear_keep_alive.Reads as plan_clear_keep_alive
use Rattle.planning.proofs.ntske_plan_append.Reads as plan_append
use Rattle.planning.proofs.ntske_plan_length.Reads as plan_length
use Rattle.planning.proofs.ntske_write_reply.Reads as write_reply
use Rattle.writing.proofs.Kept.{denies_kept}
use Rattle.writing.proofs.ntske_write_no_protocol.Reads as write_no_protocol
use Rattle.writing.proofs.ntske_write_no_algorithm.Reads as write_no_algorithm
use Rattle.writing.proofs.ntske_write_error.Reads as write_error
use Rattle.writing.proofs.ntske_write_support_reply.Reads as write_support_reply
use Rattle.writing.proofs.ntske_support_reply_length.Reads as support_reply_length
use Rattle.writing.proofs.ntske_write_request.Reads as write_request
use Rattle.writing.proofs.ntske_request_length.Reads as request_length
use Rattle.writing.proofs.ntske_append_denied.Reads as append_denied
use Rattle.writing.proofs.ntske_write_record.Reads as write_record
use Rattle.writing.proofs.ntske_record_length.Reads as record_length
use Rattle.showing.proofs.ntske_list.Reads as list
use Rattle.promises.specs.Numbers.{In, of_answer, record_numbers, request_numbers, decide_numbers, reply_numbers, feed_request_numbers, feed_reply_numbers, or_held, choice_numbers, protocol_numbers, key_numbers, plan_numbers, append_numbers, length_numbers, writer_numbers, reply_writer_numbers, room_numbers}
use Rattle.promises.proofs.Exact.{request_exactly, reply_exactly}
use Rattle.promises.proofs.Refusing.{number_of_lem, given_refuses, writes_refuses}
use Rattle.promises.proofs.Telling.{request_tells, decide_tells, request_given_lem, reply_tells, record_tells, choice_tells, protocol_tells, key_tells, change_tells, append_tells, plan_length_tells, write_reply_tells, fixed_tells, support_length_tells, write_support_tells, request_length_tells, write_request_tells, deny_tells, record_length_tells, write_record_tells, list_tells}
use Rattle.promises.proofs.Hosted.{granted, bears, told_apart, kept}
use Rattle.promises.proofs.HostedRequest.{hosted_request}
use Rattle.promises.proofs.HostedReply.{hosted_reply}
use Rattle.promises.proofs.HostedFed.{fed_request_refuses, fed_reply_refuses}

-- ---- the readers' word

-- ntske_read_request, and in the strict profile ntske_read_request_strict, on the message m under the limit n
module _ (P : Profile) (m : List ℕ) (n : ℕ) (table lent : List ℕ) (r : ℕ) (table' after : List ℕ) (c : ReadsRequest P m n table lent r table' after) where
  -- it is 0 only where nothing is refused ..
  pub request_word : r ≡ 0 → (q : requests.Form Sighting) × (request P m n (room_of table) ≡ accepted q)
  request_word = granted (hosted_request P) c

  -- .. and otherwise that of the refusal, whose number is one of these ..
  pub request_bears : (r ≡ 0 → ⊥) → (y : Refused) × (request P m n (room_of table) ≡ refused y) × (r ≡ word y) × In y.number (request_numbers P)
  request_bears h =
      let y = bears (hosted_request P) c h in
      (y.0, y.1, y.2, (request_exactly P).only (record { message = m; limit = n; room = room_of table }) y.0.number (ap of_answer y.1))

  -- .. and which it tells whole: the number, the number beside it, and the place. A message is bytes
  pub request_told : (y : Refused) → request P m n (room_of table) ≡ refused y → ((i : ℕ) → get_or m i 0 < 256)
      → (r % 256 ≡ y.number) × (r / 256 % 256 ≡ sort_of y.beside) × (r / 65536 % 65536 ≡ beside_number y.beside) × (r / 4294967296 ≡ y.place)
  request_told = told_apart (hosted_request P) c

-- ntske_read_reply and ntske_read_reply_strict in the same way
module _ (P : Profile) (m : List ℕ) (n : ℕ) (ps qs table lent : List ℕ) (r : ℕ) (table' after : List ℕ) (c : ReadsReply P m n ps qs table lent r table' after) where
  pub reply_word : r ≡ 0 → (q : replies.Form Sighting) × (reply_of P m n (offering ps qs (room_of table)) ≡ accepted q)
  reply_word = granted (hosted_reply P) {e = (ps, qs)} c

  pub reply_bears : (r ≡ 0 → ⊥) → (y : Refused) × (reply_of P m n (offering ps qs (room_of table)) ≡ refused y) × (r ≡ word y) × In y.number (reply_numbers P)
  reply_bears h =
      let y = bears (hosted_reply P) {e = (ps, qs)} c h in
      (y.0, y.1, y.2, (reply_exactly P).only (record { message = m; limit = n; terms = offering ps qs (room_of table) }) y.0.number (ap of_answer y.1))

  pub reply_told : (y : Refused) → reply_of P m n (offering ps qs (room_of table)) ≡ refused y → ((i : ℕ) → get_or m i 0 < 256)
      → (r % 256 ≡ y.number) × (r / 256 % 256 ≡ sort_of y.beside) × (r / 65536 % 65536 ≡ beside_number y.beside) × (r / 4294967296 ≡ y.place)
  reply_told = told_apart (hosted_reply P) {e = (ps, qs)} c

-- ntske_key_length, where it refuses: 5, the algorithm's number beside it, which has sixteen bits, and no place
pub key_length_told : (κs : _) (a : _) (r : _) (e : _) → key_length.Learnt κs a r e → a.0 < 65536 → (r ≡ 0 → ⊥)
    → (r % 256 ≡ 5) × (r / 256 % 256 ≡ 0) × (r / 65536 % 65536 ≡ a.0) × (r / 4294967296 ≡ 0)
key_length_told κs a r e p small h =
    let y = gives_refused p h in
    rw (y.2, go a.0 y.0 (describe a.0) y.1) (apart (unplaced 5 (code a.0)) (omega arith) small)
  where
    go : (n : ℕ) (y : Refused) (d : Described) → key_given n d ≡ refuses y → y ≡ unplaced 5 (code n)
    go n y unknown w = cc
    go n y (known m size) w = let z : ◌≡◌ {A = ℕ} 0 1 = cc in absurd (omega arith)

-- ---- the calls of `reading`: the table of names or cookies, and the cells

-- in any profile
request_kept : {P : Profile} {m : List ℕ} {n : ℕ} {table lent : List ℕ} {r : ℕ} {table' after : List ℕ} → ReadsRequest P m n table lent r table' after → (r ≡ 0 → ⊥) → (table' ≡ table) × (after ≡ lent) × In (r % 256) (request_numbers P)
request_kept {P} {m} {n} {table} p h = let k = kept (hosted_request P) p h in (k.0, k.1, number_of_lem (request_tells P m n (room_of table)) p.gives h)

reply_kept : {P : Profile} {m : List ℕ} {n : ℕ} (ps qs : List ℕ) {table lent : List ℕ} {r : ℕ} {table' after : List ℕ} → ReadsReply P m n ps qs table lent r table' after → (r ≡ 0 → ⊥)
    → (table' ≡ table) × (after ≡ lent) × In (r % 256) (reply_numbers P)
reply_kept {P} {m} {n} ps qs {table} p h = let k = kept (hosted_reply P) {e = (ps, qs)} p h in (k.0, k.1, number_of_lem (reply_tells P m n (offering ps qs (room_of table))) p.gives h)

pub ntske_read_request_refuses : (κs : _) (a : _) (r : _) (e : _) → read_request.Learnt κs a r e → (r ≡ 0 → ⊥) → (e.1.1.0.now ≡ a.1.1.0.now) × (e.1.1.1.0.now ≡ a.1.1.1.0.now) × In (r % 256) (request_numbers Usual)
ntske_read_request_refuses κs a r e p h = request_kept p h

pub ntske_read_request_strict_refuses : (κs : _) (a : _) (r : _) (e : _) → read_request_strict.Learnt κs a r e → (r ≡ 0 → ⊥) → (e.1.1.0.now ≡ a.1.1.0.now) × (e.1.1.1.0.now ≡ a.1.1.1.0.now) × In (r % 256) (request_numbers Strict)
ntske_read_request_strict_refuses κs a r e p h = request_kept p h

pub ntske_read_reply_refuses : (κs : _) (a : _) (r : _) (e : _) → read_reply.Learnt κs a r e → (r ≡ 0 → ⊥) → (e.1.1.1.1.0.now ≡ a.1.1.1.1.0.now) × (e.1.1.1.1.1.0.now ≡ a.1.1.1.1.1.0.now) × In (r % 256) (reply_numbers Usual)
ntske_read_reply_refuses κs a r e p h = reply_kept a.1.1.0.now a.1.1.1.0.now p h

pub ntske_read_reply_strict_refuses : (κs : _) (a : _) (r : _) (e : _) → read_reply_strict.Learnt κs a r e → (r ≡ 0 → ⊥) → (e.1.1.1.1.0.now ≡ a.1.1.1.1.0.now) × (e.1.1.1.1.1.0.now ≡ a.1.1.1.1.1.0.now) × In (r % 256) (reply_numbers Strict)
ntske_read_reply_strict_refuses κs a r e p h = reply_kept a.1.1.0.now a.1.1.1.0.now p h

pub ntske_read_record_refuses : (κs : _) (a : _) (r : _) (e : _) → read_record.Learnt κs a r e → (r ≡ 0 → ⊥) → (e.1.1.0.now ≡ a.1.1.0.now) × In (r % 256) record_numbers
ntske_read_record_refuses κs a r e p h = given_refuses (record_tells a.0.now a.1.0) p h

-- ---- of `deciding`: the table of names, and the answer's cells

pub ntske_walk_request_refuses_nothing : (κs : _) (a : _) (r : _) (e : _) → walk_request.Learnt κs a r e → r ≡ 0
ntske_walk_request_refuses_nothing κs a r e p = p.says

pub ntske_decide_request_refuses : (κs : _) (a : _) (r : _) (e : _) → decide_request.Learnt κs a r e → (r ≡ 0 → ⊥) → (e.1.1.0.now ≡ a.1.1.0.now) × (e.1.1.1.0.now ≡ a.1.1.1.0.now) × In (r % 256) decide_numbers
unfolding requests.table_after
ntske_decide_request_refuses κs a r e p h =
    let y = gives_refused p.gives h in
    let x = request_given_lem a.1.0.now (requests.decided (found_in a.0.now) a.1.0.now (room_of a.1.1.0.now)) y.0 y.1 in (
      p.left ∙ ap (λ (o : judge.Answer requests.Form). over (cells (requests.names_of o)) a.1.1.0.now) x ∙ over_none a.1.1.0.now,
      gives_kept p.gives h,
      number_of_lem (decide_tells (found_in a.0.now) a.1.0.now (room_of a.1.1.0.now)) p.gives h,
    )

-- ---- of `feeding`: the table of names or cookies, and the answer's cells

pub ntske_connection_new_refuses_nothing : (κs : _) (a : _) (r : _) (e : _) → connection_new.Learnt κs a r e → r ≡ 0
ntske_connection_new_refuses_nothing κs a r e p = p.says

pub ntske_connection_new_strict_refuses_nothing : (κs : _) (a : _) (r : _) (e : _) → connection_new_strict.Learnt κs a r e → r ≡ 0
ntske_connection_new_strict_refuses_nothing κs a r e p = p.says

-- in the profile that the cells hold
pub ntske_feed_request_refuses : (κs : _) (a : _) (r : _) (e : _) → feed_request.Learnt κs a r e → (r ≡ 0 → ⊥) → (e.1.1.1.0.now ≡ a.1.1.1.0.now) × (e.1.1.1.1.0.now ≡ a.1.1.1.1.0.now) × ((r ≡ 65535 → ⊥) → In (r % 256) (or_held a.0.now (feed_request_numbers (line_in a.0.now).profile)))
ntske_feed_request_refuses κs a r e p h = fed_request_refuses p h

pub ntske_close_request_refuses : (κs : _) (a : _) (r : _) (e : _) → close_request.Learnt κs a r e → (r ≡ 0 → ⊥) → (e.1.1.0.now ≡ a.1.1.0.now) × (e.1.1.1.0.now ≡ a.1.1.1.0.now) × ((r ≡ 65535 → ⊥) → In (r % 256) (or_held a.0.now (feed_request_numbers (line_in a.0.now).profile)))
ntske_close_request_refuses κs a r e p h = fed_request_refuses p h

pub ntske_feed_reply_refuses : (κs : _) (a : _) (r : _) (e : _) → feed_reply.Learnt κs a r e → (r ≡ 0 → ⊥) → (e.1.1.1.1.1.0.now ≡ a.1.1.1.1.1.0.now) × (e.1.1.1.1.1.1.0.now ≡ a.1.1.1.1.1.1.0.now) × ((r ≡ 65535 → ⊥) → In (r % 256) (or_held a.0.now (feed_reply_numbers (line_in a.0.now).profile)))
ntske_feed_reply_refuses κs a r e p h = fed_reply_refuses p h

pub ntske_close_reply_refuses : (κs : _) (a : _) (r : _) (e : _) → close_reply.Learnt κs a r e → (r ≡ 0 → ⊥) → (e.1.1.1.1.0.now ≡ a.1.1.1.1.0.now) × (e.1.1.1.1.1.0.now ≡ a.1.1.1.1.1.0.now) × ((r ≡ 65535 → ⊥) → In (r % 256) (or_held a.0.now (feed_reply_numbers (line_in a.0.now).profile)))
ntske_close_reply_refuses κs a r e p h = fed_reply_refuses p h

-- 9, and an answer that is there, change nothing: connection, buffer and table stay, and of an answer given again the answer's cells alone are put. Nine cells is what the
-- calls' arrays have

pub ntske_feed_request_again : (κs : _) (a : _) (r : _) (e : _) → feed_request.Learnt κs a r e → length a.0.now ≡ 9 → is_pending (line_in a.0.now) a.1.1.0.now ≡ false
    → (e.0.now ≡ a.0.now) × (e.1.1.0.now ≡ a.1.1.0.now) × (e.1.1.1.0.now ≡ a.1.1.1.0.now)
ntske_feed_request_again κs a r e p l q = fed_again p l q

pub ntske_close_request_again : (κs : _) (a : _) (r : _) (e : _) → close_request.Learnt κs a r e → length a.0.now ≡ 9 → is_pending (line_in a.0.now) a.1.0.now ≡ false
    → (e.0.now ≡ a.0.now) × (e.1.0.now ≡ a.1.0.now) × (e.1.1.0.now ≡ a.1.1.0.now)
ntske_close_request_again κs a r e p l q = fed_again p l q

pub ntske_feed_reply_again : (κs : _) (a : _) (r : _) (e : _) → feed_reply.Learnt κs a r e → length a.0.now ≡ 9 → is_pending (line_in a.0.now) a.1.1.1.1.0.now ≡ false
    → (e.0.now ≡ a.0.now) × (e.1.1.1.1.0.now ≡ a.1.1.1.1.0.now) × (e.1.1.1.1.1.0.now ≡ a.1.1.1.1.1.0.now)
ntske_feed_reply_again κs a r e p l q = fed_again p l q

pub ntske_close_reply_again : (κs : _) (a : _) (r : _) (e : _) → close_reply.Learnt κs a r e → length a.0.now ≡ 9 → is_pending (line_in a.0.now) a.1.1.1.0.now ≡ false
    → (e.0.now ≡ a.0.now) × (e.1.1.1.0.now ≡ a.1.1.1.0.now) × (e.1.1.1.1.0.now ≡ a.1.1.1.1.0.now)
ntske_close_reply_again κs a r e p l q = fed_again p l q

-- ---- of `handing`: the cells

pub ntske_part_refuses_nothing : (κs : _) (a : _) (r : _) (e : _) → part.Learnt κs a r e → r ≡ 0
ntske_part_refuses_nothing κs a r e p = p.says

pub ntske_entry_refuses_nothing : (κs : _) (a : _) (r : _) (e : _) → entry.Learnt κs a r e → r ≡ 0
ntske_entry_refuses_nothing κs a r e p = p.says

pub ntske_number_refuses_nothing : (κs : _) (a : _) (r : _) (e : _) → number.Learnt κs a r e → r ≡ 0
ntske_number_refuses_nothing κs a r e p = p.says

pub ntske_pair_refuses_nothing : (κs : _) (a : _) (r : _) (e : _) → pair.Learnt κs a r e → r ≡ 0
ntske_pair_refuses_nothing κs a r e p = p.says

pub ntske_choose_refuses : (κs : _) (a : _) (r : _) (e : _) → choose.Learnt κs a r e → (r ≡ 0 → ⊥) → (e.1.1.1.1.0.now ≡ a.1.1.1.1.0.now) × In (r % 256) choice_numbers
ntske_choose_refuses κs a r e p h = given_refuses (choice_tells a.0.now a.1.0.now a.1.1.0.now a.1.1.1.0.now) p h

pub ntske_choose_protocol_refuses : (κs : _) (a : _) (r : _) (e : _) → choose_protocol.Learnt κs a r e → (r ≡ 0 → ⊥) → (e.1.1.0.now ≡ a.1.1.0.now) × In (r % 256) protocol_numbers
ntske_choose_protocol_refuses κs a r e p h = given_refuses (protocol_tells a.0.now a.1.0.now) p h

pub ntske_key_length_refuses : (κs : _) (a : _) (r : _) (e : _) → key_length.Learnt κs a r e → (r ≡ 0 → ⊥) → (e.1.0.now ≡ a.1.0.now) × In (r % 256) key_numbers
ntske_key_length_refuses κs a r e p h = given_refuses (key_tells a.0) p h

-- ---- of `planning`: the plan's cells; of an append, these and the tray; of a length, its cell; of a writer, the output and the cell of its count

pub ntske_plan_new_refuses_nothing : (κs : _) (a : _) (r : _) (e : _) → plan_new.Learnt κs a r e → r ≡ 0
ntske_plan_new_refuses_nothing κs a r e p = p.says

pub ntske_plan_set_port_refuses : (κs : _) (a : _) (r : _) (e : _) → plan_set_port.Learnt κs a r e → (r ≡ 0 → ⊥) → (e.0.now ≡ a.0.now) × In (r % 256) plan_numbers
ntske_plan_set_port_refuses κs a r e p h = given_refuses (change_tells (λ x. plans.with_port x (ports.Number a.1.0)) a.0.now) p h

pub ntske_plan_clear_port_refuses : (κs : _) (a : _) (r : _) (e : _) → plan_clear_port.Learnt κs a r e → (r ≡ 0 → ⊥) → (e.0.now ≡ a.0.now) × In (r % 256) plan_numbers
ntske_plan_clear_port_refuses κs a r e p h = given_refuses (change_tells (λ x. plans.with_port x ports.None) a.0.now) p h

pub ntske_plan_set_name_length_refuses : (κs : _) (a : _) (r : _) (e : _) → plan_set_name_length.Learnt κs a r e → (r ≡ 0 → ⊥) → (e.0.now ≡ a.0.now) × In (r % 256) plan_numbers
ntske_plan_set_name_length_refuses κs a r e p h = given_refuses (change_tells (λ x. plans.with_name x (names.Bytes a.1.0)) a.0.now) p h

pub ntske_plan_clear_name_length_refuses : (κs : _) (a : _) (r : _) (e : _) → plan_clear_name_length.Learnt κs a r e → (r ≡ 0 → ⊥) → (e.0.now ≡ a.0.now) × In (r % 256) plan_numbers
ntske_plan_clear_name_length_refuses κs a r e p h = given_refuses (change_tells (λ x. plans.with_name x names.None) a.0.now) p h

pub ntske_plan_set_keep_alive_refuses : (κs : _) (a : _) (r : _) (e : _) → plan_set_keep_alive.Learnt κs a r e → (r ≡ 0 → ⊥) → (e.0.now ≡ a.0.now) × In (r % 256) plan_numbers
ntske_plan_set_keep_alive_refuses κs a r e p h = given_refuses (change_tells (λ x. plans.with_keep_alive x true) a.0.now) p h

pub ntske_plan_clear_keep_alive_refuses : (κs : _) (a : _) (r : _) (e : _) → plan_clear_keep_alive.Learnt κs a r e → (r ≡ 0 → ⊥) → (e.0.now ≡ a.0.now) × In (r % 256) plan_numbers
ntske_plan_clear_keep_alive_refuses κs a r e p h = given_refuses (change_tells (λ x. plans.with_keep_alive x false) a.0.now) p h

pub ntske_plan_append_refuses : (κs : _) (a : _) (r : _) (e : _) → plan_append.Learnt κs a r e → (r ≡ 0 → ⊥) → (e.0.now ≡ a.0.now) × (e.1.1.0.now ≡ a.1.1.0.now) × In (r % 256) append_numbers
ntske_plan_append_refuses κs a r e p h = let k = appends_kept p h in (k.0, k.1, number_of_lem (append_tells a.0.now a.1.0.now a.1.1.0.now) p.gives h)

pub ntske_plan_length_refuses : (κs : _) (a : _) (r : _) (e : _) → plan_length.Learnt κs a r e → (r ≡ 0 → ⊥) → (e.1.1.0.now ≡ a.1.1.0.now) × In (r % 256) plan_numbers
ntske_plan_length_refuses κs a r e p h = given_refuses (plan_length_tells a.0.now a.1.0.now) p h

pub ntske_write_reply_refuses : (κs : _) (a : _) (r : _) (e : _) → write_reply.Learnt κs a r e → (r ≡ 0 → ⊥) → (e.1.1.1.0.now ≡ a.1.1.1.0.now) × (e.1.1.1.1.0.now ≡ a.1.1.1.1.0.now) × In (r % 256) reply_writer_numbers
ntske_write_reply_refuses κs a r e p h = writes_refuses (write_reply_tells a.0.now a.1.0.now a.1.1.0.now (length a.1.1.1.0.now)) p h

-- ---- of `writing`: the output and the cell of its count; of a length, its cell; of an append, the cell of the used length and the tray

pub ntske_write_no_protocol_refuses : (κs : _) (a : _) (r : _) (e : _) → write_no_protocol.Learnt κs a r e → (r ≡ 0 → ⊥) → (e.0.now ≡ a.0.now) × (e.1.0.now ≡ a.1.0.now) × In (r % 256) room_numbers
ntske_write_no_protocol_refuses κs a r e p h = writes_refuses (fixed_tells 8 (omega arith) (length a.0.now)) p h

pub ntske_write_no_algorithm_refuses : (κs : _) (a : _) (r : _) (e : _) → write_no_algorithm.Learnt κs a r e → (r ≡ 0 → ⊥) → (e.1.0.now ≡ a.1.0.now) × (e.1.1.0.now ≡ a.1.1.0.now) × In (r % 256) room_numbers
ntske_write_no_algorithm_refuses κs a r e p h = writes_refuses (fixed_tells 14 (omega arith) (length a.1.0.now)) p h

pub ntske_write_error_refuses : (κs : _) (a : _) (r : _) (e : _) → write_error.Learnt κs a r e → (r ≡ 0 → ⊥) → (e.1.0.now ≡ a.1.0.now) × (e.1.1.0.now ≡ a.1.1.0.now) × In (r % 256) room_numbers
ntske_write_error_refuses κs a r e p h = writes_refuses (fixed_tells 10 (omega arith) (length a.1.0.now)) p h

pub ntske_write_support_reply_refuses : (κs : _) (a : _) (r : _) (e : _) → write_support_reply.Learnt κs a r e → (r ≡ 0 → ⊥) → (e.1.1.1.0.now ≡ a.1.1.1.0.now) × (e.1.1.1.1.0.now ≡ a.1.1.1.1.0.now) × In (r % 256) writer_numbers
ntske_write_support_reply_refuses κs a r e p h = writes_refuses (write_support_tells a.0 a.1.0.now a.1.1.0.now (length a.1.1.1.0.now)) p h

pub ntske_support_reply_length_refuses : (κs : _) (a : _) (r : _) (e : _) → support_reply_length.Learnt κs a r e → (r ≡ 0 → ⊥) → (e.1.1.1.0.now ≡ a.1.1.1.0.now) × In (r % 256) length_numbers
ntske_support_reply_length_refuses κs a r e p h = given_refuses (support_length_tells a.0 a.1.0.now a.1.1.0.now) p h

pub ntske_write_request_refuses : (κs : _) (a : _) (r : _) (e : _) → write_request.Learnt κs a r e → (r ≡ 0 → ⊥) → (e.1.1.1.1.0.now ≡ a.1.1.1.1.0.now) × (e.1.1.1.1.1.0.now ≡ a.1.1.1.1.1.0.now) × In (r % 256) writer_numbers
ntske_write_request_refuses κs a r e p h = writes_refuses (write_request_tells a.0.now a.1.0.now a.1.1.0.now a.1.1.1.0 (length a.1.1.1.1.0.now)) p h

pub ntske_request_length_refuses : (κs : _) (a : _) (r : _) (e : _) → request_length.Learnt κs a r e → (r ≡ 0 → ⊥) → (e.1.1.1.1.0.now ≡ a.1.1.1.1.0.now) × In (r % 256) length_numbers
ntske_request_length_refuses κs a r e p h = given_refuses (request_length_tells a.0.now a.1.0.now a.1.1.0.now a.1.1.1.0) p h

pub ntske_append_denied_refuses : (κs : _) (a : _) (r : _) (e : _) → append_denied.Learnt κs a r e → (r ≡ 0 → ⊥) → (e.1.1.0.now ≡ a.1.1.0.now) × (e.1.0.now ≡ a.1.0.now) × In (r % 256) writer_numbers
ntske_append_denied_refuses κs a r e p h = let k = denies_kept p h in (k.0, k.1, number_of_lem (deny_tells (cell a.1.1.0.now 0) a.0.now a.1.0.now) p.gives h)

pub ntske_write_record_refuses : (κs : _) (a : _) (r : _) (e : _) → write_record.Learnt κs a r e → (r ≡ 0 → ⊥) → (e.1.1.0.now ≡ a.1.1.0.now) × (e.1.1.1.0.now ≡ a.1.1.1.0.now) × In (r % 256) writer_numbers
ntske_write_record_refuses κs a r e p h = writes_refuses (write_record_tells a.0.now a.1.0.now (length a.1.1.0.now)) p h

pub ntske_record_length_refuses : (κs : _) (a : _) (r : _) (e : _) → record_length.Learnt κs a r e → (r ≡ 0 → ⊥) → (e.1.1.0.now ≡ a.1.1.0.now) × In (r % 256) length_numbers
ntske_record_length_refuses κs a r e p h = given_refuses (record_length_tells a.0.now a.1.0.now) p h

-- ---- of `showing`: the output and the cell of its count

pub ntske_list_refuses : (κs : _) (a : _) (r : _) (e : _) → list.Learnt κs a r e → (r ≡ 0 → ⊥) → (e.1.1.1.0.now ≡ a.1.1.1.0.now) × (e.1.1.1.1.0.now ≡ a.1.1.1.1.0.now) × In (r % 256) room_numbers
ntske_list_refuses κs a r e p h = writes_refuses (list_tells a.0.now a.1.0 a.1.1.0 (length a.1.1.1.0.now)) p h
