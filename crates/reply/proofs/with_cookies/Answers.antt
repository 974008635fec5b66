-- `reply::with_cookies` meets its contract: the tests are the definition's, in its order.
use mathlib.Core.Path.{ap, ◌∙◌}
use borrow.Author.Tests.{eq-eqb, ne_eqb, lt-ltb, le-ltb}
use Rattle.layout.specs.Table.{row_of, shape_of}
use Rattle.walk.specs.Shown.{slot_of}
use Rattle.walk.specs.declared.Seen.{Seen}
use Rattle.walk.proofs.Verdicts.{taken, left}
use Rattle.reply.specs.Reply.{told_answer}
use Rattle.reply.proofs.Decided.{cookies_is}
use Rattle.reply.proofs.with_cookies.Goals as goal

pub returns-then-cookies-eq0 : goal.returns-then-cookies-eq0
unfolding slot_of shape_of row_of
returns-then-cookies-eq0 c =
    ap told_answer c.refused.ensures
    ∙ taken _ _ _ (eq-eqb _ _ c.if-cookies-eq0.true)
    ∙ cookies_is _ _ _ _ _ _ _ (ap (λ (x : Seen). x.count) c.found-cookies.ensures)

pub returns-then-room-cookies : goal.returns-then-room-cookies
unfolding slot_of shape_of row_of
returns-then-room-cookies c =
    ap told_answer c.refused-then-room-cookies.ensures
    ∙ taken _ _ _ (lt-ltb _ _ c.if-room-cookies.true)
    ∙ left _ _ _ (ne_eqb _ _ c.if-cookies-eq0.false)
    ∙ cookies_is _ _ _ _ _ _ _ (ap (λ (x : Seen). x.count) c.found-cookies.ensures)

pub returns : goal.returns
unfolding slot_of shape_of row_of
returns c =
    c.accepted.ensures
    ∙ left _ _ _ (le-ltb _ _ c.if-room-cookies.false)
    ∙ left _ _ _ (ne_eqb _ _ c.if-cookies-eq0.false)
    ∙ cookies_is _ _ _ _ _ _ _ (ap (λ (x : Seen). x.count) c.found-cookies.ensures)
