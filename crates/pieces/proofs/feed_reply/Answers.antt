-- `pieces::feed_reply` meets its contract: by whether the connection counts too much, and then by its state.
use mathlib.Core.Path.{sym, ap, ◌∙◌}
use Rattle.pieces.specs.Pieces.{broken, told_state}
use Rattle.pieces.specs.Code.{counts}
use Rattle.pieces.specs.Reads.{reply_read}
use Rattle.pieces.proofs.Inside.{counted_inside}
use Rattle.pieces.proofs.Feeding.{hands_broken, hands_refused, hands_accepted}
use Rattle.pieces.proofs.feed_reply.Goals as goal

pub returns-then-is_broken : goal.returns-then-is_broken
unfolding counts broken
returns-then-is_broken c = hands_broken reply_read _ _ _ _ _ (sym c.is_broken.ensures ∙ c.if-is_broken.true) _ c.no_connection.ensures

pub pending_reply-requires : goal.pending_reply-requires
unfolding counts broken
pending_reply-requires c = (sym c.is_broken.ensures ∙ c.if-is_broken.false, c.in-Pending.is)

pub reply_again-requires : goal.reply_again-requires
unfolding counts broken
reply_again-requires c = counted_inside c.args.connection c.args.buffer.now (sym c.is_broken.ensures ∙ c.if-is_broken.false)

pub returns-in-Accepted : goal.returns-in-Accepted
unfolding counts broken
returns-in-Accepted c = hands_accepted reply_read _ _ _ _ _ (sym c.is_broken.ensures ∙ c.if-is_broken.false) (ap told_state c.in-Accepted.is) _ c.reply_again.ensures

pub returns-in-Refused : goal.returns-in-Refused
unfolding counts broken
returns-in-Refused c = hands_refused reply_read _ _ _ _ _ (sym c.is_broken.ensures ∙ c.if-is_broken.false) _ (ap told_state c.in-Refused.is)
