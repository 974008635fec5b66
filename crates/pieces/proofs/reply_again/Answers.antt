-- `pieces::reply_again` meets its contract: it hands on what the whole-message reader answers over the bytes gathered, as to one who offered
-- just what the reply names.
use mathlib.Core.Path.{sym, ap, ◌∙◌}
use Rattle.reply.specs.Reply as replies
use Rattle.reply.proofs.Offered.{told_own}
use Rattle.pieces.specs.Reads.{reply_read}
use Rattle.pieces.proofs.Feeding.{again_says}
use Rattle.pieces.proofs.reply_again.Goals as goal

pub returns-in-Accepted : goal.returns-in-Accepted
unfolding replies.reply_of
returns-in-Accepted c = again_says reply_read c.args.connection c.args.buffer.now _ (sym (ap replies.told_answer c.in-Accepted.is) ∙ c.judge-judged.ensures.says ∙ told_own _ _ _ _ c.named-named.ensures _)

pub returns-in-Refused : goal.returns-in-Refused
unfolding replies.reply_of
returns-in-Refused c = again_says reply_read c.args.connection c.args.buffer.now _ (sym (ap replies.told_answer c.in-Refused.is) ∙ c.judge-judged.ensures.says ∙ told_own _ _ _ _ c.named-named.ensures _)
