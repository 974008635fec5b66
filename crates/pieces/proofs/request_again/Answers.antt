-- `pieces::request_again` meets its contract: it hands on what the whole-message reader answers over the bytes gathered.
use mathlib.Core.Path.{sym, ap, ◌∙◌}
use Rattle.request.specs.Request as requests
use Rattle.pieces.specs.Reads.{request_read}
use Rattle.pieces.proofs.Feeding.{again_says}
use Rattle.pieces.proofs.request_again.Goals as goal

pub returns-in-Accepted : goal.returns-in-Accepted
unfolding requests.request
returns-in-Accepted c = again_says request_read c.args.connection c.args.buffer.now _ (sym (ap requests.told_answer c.in-Accepted.is) ∙ c.judge-judged.ensures.says)

pub returns-in-Refused : goal.returns-in-Refused
unfolding requests.request
returns-in-Refused c = again_says request_read c.args.connection c.args.buffer.now _ (sym (ap requests.told_answer c.in-Refused.is) ∙ c.judge-judged.ensures.says)
