-- `reply::port_of` meets its contract: the test is the definition's.
use mathlib.Core.Path.{ap, ◌∙◌}
use borrow.Author.Tests.{eq-eqb, ne_eqb}
use Rattle.walk.proofs.Verdicts.{taken, left}
use Rattle.reply.specs.Reply.{sent}
use Rattle.reply.specs.Code.{sent_in}
use Rattle.reply.proofs.port_of.Goals as goal

pub returns-then-seen-eq0 : goal.returns-then-seen-eq0
unfolding sent_in
returns-then-seen-eq0 c = taken _ _ _ (eq-eqb _ _ c.if-seen-eq0.true)

pub returns : goal.returns
unfolding sent_in
returns c = ap sent c.number_in.ensures ∙ left _ _ _ (ne_eqb _ _ c.if-seen-eq0.false)
