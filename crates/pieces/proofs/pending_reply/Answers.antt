-- `pieces::pending_reply` meets its contract: what was gathered, and where it decides the whole-message reader's answer over it.
use mathlib.Core.Path.{refl, sym, ap, ◌∙◌}
use Rattle.reply.specs.Reply as replies
use Rattle.reply.proofs.Reader.{table_reader_lem}
use Rattle.pieces.specs.Reads.{reply_read}
use Rattle.pieces.specs.declared.State.TheVariants as state
use Rattle.pieces.proofs.Feeding.{gathered_inside, hands_waiting, hands_full, hands_followed, hands_decided}
use Rattle.pieces.proofs.Sorts.{reply_stands, reply_telling}
use Rattle.pieces.proofs.pending_reply.Goals as goal

pub slice_bounds-parse-end : goal.slice_bounds-parse-end
slice_bounds-parse-end c = gathered_inside reply_read reply_telling _ table_reader_lem _ _ _ _ c.requires _ _ c.come-came.ensures

pub returns-in-Waiting : goal.returns-in-Waiting
returns-in-Waiting c = hands_waiting reply_read reply_telling _ table_reader_lem _ _ _ _ c.requires _ _ c.come-came.ensures _ _ c.in-Waiting.is _ c.carried.ensures

pub returns-in-NoRoom : goal.returns-in-NoRoom
returns-in-NoRoom c = hands_full reply_read reply_telling _ table_reader_lem _ _ _ _ c.requires _ _ c.come-came.ensures _ _ c.in-NoRoom.is _ _ c.no_room.ensures c.no_room-in-NoRoom.ensures _ c.carried-in-NoRoom.ensures

pub returns-in-Followed : goal.returns-in-Followed
returns-in-Followed c = hands_followed reply_read reply_telling _ table_reader_lem _ _ _ _ c.requires _ _ c.come-came.ensures _ _ c.in-Followed.is _ _ c.not_allowed.ensures c.not_allowed-in-Followed.ensures _ c.carried-in-Followed.ensures

pub returns-in-Accepted : goal.returns-in-Accepted
unfolding replies.reply_of reply_telling reply_stands
returns-in-Accepted c = hands_decided reply_read reply_telling _ table_reader_lem _ _ _ _ c.requires _ _ c.come-came.ensures _ _ c.in-Decided.is _ _ (sym (ap replies.told_answer c.in-Accepted.is) ∙ c.parse-answer.ensures.says) c.parse-answer.ensures.left state.Accepted refl _ c.carried-in-Accepted.ensures

pub returns-in-Refused : goal.returns-in-Refused
unfolding replies.reply_of reply_telling reply_stands
returns-in-Refused c = hands_decided reply_read reply_telling _ table_reader_lem _ _ _ _ c.requires _ _ c.come-came.ensures _ _ c.in-Decided.is _ _ (sym (ap replies.told_answer c.in-Refused.is) ∙ c.parse-answer.ensures.says) c.parse-answer.ensures.left (state.Refused _) refl _ c.carried-in-Refused.ensures
