-- `request::decide_support` meets its contract: the tests are the definition's, in its order.
use mathlib.Core.Path.{sym, ap, ◌∙◌}
use Rattle.layout.specs.Table.{row_of, shape_of}
use Rattle.walk.specs.Shown.{slot_of}
use Rattle.request.specs.Request.{told_answer}
use Rattle.request.proofs.Decided.{support_none, support_not, support_is_lem}
use Rattle.request.proofs.decide_support.Goals as goal

pub returns-then-authentication-eq0 : goal.returns-then-authentication-eq0
unfolding slot_of shape_of row_of
returns-then-authentication-eq0 c = λ m. ap told_answer c.refused.ensures ∙ support_none _ _ m _ c.found-authentication.ensures c.if-authentication-eq0.true

pub returns-then-is_there : goal.returns-then-is_there
unfolding slot_of shape_of row_of
returns-then-is_there c = λ m. ap told_answer c.refused-then-is_there.ensures ∙ support_not _ _ m _ c.found-authentication.ensures c.if-authentication-eq0.false (rw (sym c.is_there.ensures ∙ c.if-is_there.true))

pub returns-then-is_there-2 : goal.returns-then-is_there-2
unfolding slot_of shape_of row_of
returns-then-is_there-2 c = λ m. ap told_answer c.refused-then-is_there-2.ensures ∙ support_not _ _ m _ c.found-authentication.ensures c.if-authentication-eq0.false (rw (sym c.is_there.ensures ∙ c.if-is_there.false, sym c.is_there-2.ensures ∙ c.if-is_there-2.true))

pub returns-then-is_there-3 : goal.returns-then-is_there-3
unfolding slot_of shape_of row_of
returns-then-is_there-3 c = λ m. ap told_answer c.refused-then-is_there-3.ensures ∙ support_not _ _ m _ c.found-authentication.ensures c.if-authentication-eq0.false (rw (sym c.is_there.ensures ∙ c.if-is_there.false, sym c.is_there-2.ensures ∙ c.if-is_there-2.false, sym c.is_there-3.ensures ∙ c.if-is_there-3.true))

pub returns : goal.returns
unfolding slot_of shape_of row_of
returns c = λ m. rw (c.is_there-4.ensures, c.is_there-5.ensures, c.is_there-6.ensures) (support_is_lem _ _ m _ c.found-authentication.ensures c.if-authentication-eq0.false (rw (sym c.is_there.ensures ∙ c.if-is_there.false, sym c.is_there-2.ensures ∙ c.if-is_there-2.false, sym c.is_there-3.ensures ∙ c.if-is_there-3.false)) _ c.body.ensures)
