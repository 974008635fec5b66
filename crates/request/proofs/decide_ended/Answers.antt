-- `request::decide_ended` meets its contract: the tests are the definition's, in its order.
use mathlib.Core.Path.{sym, ◌∙◌}
use Rattle.layout.specs.Table.{row_of, shape_of}
use Rattle.walk.specs.Shown.{slot_of}
use Rattle.request.proofs.Decided.{by_support, by_keys, by_exchange}
use Rattle.request.proofs.decide_ended.Goals as goal

pub returns-then-is_there : goal.returns-then-is_there
unfolding slot_of shape_of row_of
returns-then-is_there c = c.decide_support.ensures _ ∙ by_support _ _ _ _ (rw (sym c.is_there.ensures ∙ c.if-is_there.true))

pub returns-then-is_there-2 : goal.returns-then-is_there-2
unfolding slot_of shape_of row_of
returns-then-is_there-2 c = c.decide_support-then-is_there-2.ensures _ ∙ by_support _ _ _ _ (rw (sym c.is_there.ensures ∙ c.if-is_there.false, sym c.is_there-2.ensures ∙ c.if-is_there-2.true))

pub returns-then-is_there-3 : goal.returns-then-is_there-3
unfolding slot_of shape_of row_of
returns-then-is_there-3 c = c.decide_fixed.ensures ∙ by_keys _ _ _ _ (rw (sym c.is_there.ensures ∙ c.if-is_there.false, sym c.is_there-2.ensures ∙ c.if-is_there-2.false)) (sym c.is_there-3.ensures ∙ c.if-is_there-3.true)

pub returns : goal.returns
unfolding slot_of shape_of row_of
returns c = c.decide_exchange.ensures _ ∙ by_exchange _ _ _ _ (rw (sym c.is_there.ensures ∙ c.if-is_there.false, sym c.is_there-2.ensures ∙ c.if-is_there-2.false)) (sym c.is_there-3.ensures ∙ c.if-is_there-3.false)
