-- `request::decide_exchange` meets its contract: the tests are the definition's, in its order.
use mathlib.Core.Path.{ap, ◌∙◌}
use Rattle.layout.specs.Table.{row_of, shape_of}
use Rattle.walk.specs.Shown.{slot_of}
use Rattle.request.specs.Request.{told_answer}
use Rattle.request.proofs.Decided.{exchange_none, exchange_half, exchange_full, exchange_is}
use Rattle.request.proofs.decide_exchange.Goals as goal

pub returns-then-protocols-eq0 : goal.returns-then-protocols-eq0
unfolding slot_of shape_of row_of
returns-then-protocols-eq0 c = λ m. ap told_answer c.refused.ensures ∙ exchange_none _ _ m _ _ _ _ c.found-protocols.ensures c.found-algorithms.ensures c.found-denied.ensures c.if-protocols-eq0.true

pub returns-then-algorithms-eq0 : goal.returns-then-algorithms-eq0
unfolding slot_of shape_of row_of
returns-then-algorithms-eq0 c = λ m. ap told_answer c.refused-then-algorithms-eq0.ensures ∙ exchange_half _ _ m _ _ _ _ c.found-protocols.ensures c.found-algorithms.ensures c.found-denied.ensures c.if-protocols-eq0.false c.if-algorithms-eq0.true

pub returns-then-room-denied : goal.returns-then-room-denied
unfolding slot_of shape_of row_of
returns-then-room-denied c = λ m. ap told_answer c.refused-then-room-denied.ensures ∙ exchange_full _ _ m _ _ _ _ c.found-protocols.ensures c.found-algorithms.ensures c.found-denied.ensures c.if-protocols-eq0.false c.if-algorithms-eq0.false c.if-room-denied.true

pub returns : goal.returns
unfolding slot_of shape_of row_of
returns c = λ m. exchange_is _ _ m _ _ _ _ c.found-protocols.ensures c.found-algorithms.ensures c.found-denied.ensures c.if-protocols-eq0.false c.if-algorithms-eq0.false c.if-room-denied.false _ _ c.body.ensures c.body-2.ensures
