-- `pieces::pending_request` meets its contract: what was gathered, and where it decides the whole-message reader's answer over it.
use mathlib.Core.Path.{refl, sym, ap, ◌∙◌}
use Rattle.request.specs.Request as requests
use Rattle.request.proofs.Reader.{table_reader_lem}
use Rattle.pieces.specs.Reads.{request_read}
use Rattle.pieces.specs.declared.State.TheVariants as state
use Rattle.pieces.proofs.Feeding.{gathered_inside, hands_waiting, hands_full, hands_followed, hands_decided}
use Rattle.pieces.proofs.Sorts.{request_stands, request_telling, request_accepts}
use Rattle.pieces.proofs.pending_request.Goals as goal

pub slice_bounds-parse-end : goal.slice_bounds-parse-end
slice_bounds-parse-end c = gathered_inside request_read request_telling _ table_reader_lem _ _ _ _ c.requires _ _ c.come-came.ensures

pub returns-in-Waiting : goal.returns-in-Waiting
returns-in-Waiting c = hands_waiting request_read request_telling _ table_reader_lem _ _ _ _ c.requires _ _ c.come-came.ensures _ _ c.in-Waiting.is _ c.carried.ensures

pub returns-in-NoRoom : goal.returns-in-NoRoom
returns-in-NoRoom c = hands_full request_read request_telling _ table_reader_lem _ _ _ _ c.requires _ _ c.come-came.ensures _ _ c.in-NoRoom.is _ _ c.no_room.ensures c.no_room-in-NoRoom.ensures _ c.carried-in-NoRoom.ensures

pub returns-in-Followed : goal.returns-in-Followed
returns-in-Followed c = hands_followed request_read request_telling _ table_reader_lem _ _ _ _ c.requires _ _ c.come-came.ensures _ _ c.in-Followed.is _ _ c.not_allowed.ensures c.not_allowed-in-Followed.ensures _ c.carried-in-Followed.ensures

pub returns-in-Accepted : goal.returns-in-Accepted
unfolding requests.request
returns-in-Accepted c = hands_decided request_read request_telling _ table_reader_lem _ _ _ _ c.requires _ _ c.come-came.ensures _ _ c.in-Decided.is _ _ (sym (ap requests.told_answer c.in-Accepted.is) ∙ c.parse-answer.ensures.says) c.parse-answer.ensures.left state.Accepted (request_accepts c.in-Accepted.x) _ c.carried-in-Accepted.ensures

pub returns-in-Refused : goal.returns-in-Refused
unfolding requests.request request_telling request_stands
returns-in-Refused c = hands_decided request_read request_telling _ table_reader_lem _ _ _ _ c.requires _ _ c.come-came.ensures _ _ c.in-Decided.is _ _ (sym (ap requests.told_answer c.in-Refused.is) ∙ c.parse-answer.ensures.says) c.parse-answer.ensures.left (state.Refused _) refl _ c.carried-in-Refused.ensures
