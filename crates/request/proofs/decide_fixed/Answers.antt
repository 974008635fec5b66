-- `request::decide_fixed` meets its contract: the tests are the definition's, in its order.
use mathlib.Core.Path.{sym, ap, ◌∙◌}
use Rattle.layout.specs.Table.{row_of, shape_of}
use Rattle.walk.specs.Shown.{slot_of}
use Rattle.request.specs.Request.{told_answer}
use Rattle.request.specs.Code.{is_one}
use Rattle.request.proofs.Decided.{keys_by_lem, one_entry}
use Rattle.request.proofs.decide_fixed.Goals as goal

pub decide_keys-requires : goal.decide_keys-requires
unfolding slot_of shape_of row_of
decide_keys-requires c = (c.requires, one_entry _ (sym (ap is_one c.found-protocols.ensures) ∙ sym c.is_one.ensures ∙ c.if-is_one.true), one_entry _ (sym (ap is_one c.found-algorithms.ensures) ∙ sym c.is_one-then-is_one.ensures ∙ c.if-is_one-2.true))

pub returns-then-is_one-2 : goal.returns-then-is_one-2
unfolding slot_of shape_of row_of
returns-then-is_one-2 c = c.decide_keys.ensures ∙ sym (keys_by_lem _ _ _ c.requires ∙ rw (sym c.is_there.ensures ∙ c.if-is_there.true, sym (ap is_one c.found-protocols.ensures) ∙ sym c.is_one.ensures ∙ c.if-is_one.true, sym (ap is_one c.found-algorithms.ensures) ∙ sym c.is_one-then-is_one.ensures ∙ c.if-is_one-2.true))

pub returns-then-is_one : goal.returns-then-is_one
unfolding slot_of shape_of row_of
returns-then-is_one c = ap told_answer c.refused.ensures ∙ sym (keys_by_lem _ _ _ c.requires ∙ rw (sym c.is_there.ensures ∙ c.if-is_there.true, sym (ap is_one c.found-protocols.ensures) ∙ sym c.is_one.ensures ∙ c.if-is_one.true, sym (ap is_one c.found-algorithms.ensures) ∙ sym c.is_one-then-is_one.ensures ∙ c.if-is_one-2.false))

pub returns-then-is_there : goal.returns-then-is_there
unfolding slot_of shape_of row_of
returns-then-is_there c = ap told_answer c.refused-then-is_there.ensures ∙ sym (keys_by_lem _ _ _ c.requires ∙ rw (sym c.is_there.ensures ∙ c.if-is_there.true, sym (ap is_one c.found-protocols.ensures) ∙ sym c.is_one.ensures ∙ c.if-is_one.false))

pub returns : goal.returns
unfolding slot_of shape_of row_of
returns c = ap told_answer c.refused-2.ensures ∙ sym (keys_by_lem _ _ _ c.requires ∙ rw (sym c.is_there.ensures ∙ c.if-is_there.false))
