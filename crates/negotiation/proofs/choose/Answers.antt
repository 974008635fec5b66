-- `negotiation::choose` meets its contract: 9 for the algorithms' list, and what follows from the protocol alone.
use mathlib.Core.Path.{sym, ap, ◌∙◌}
use mathlib.Core.Bool.{or-true}
use Rattle.negotiation.specs.Negotiation.{choose, told_protocol}
use Rattle.negotiation.proofs.Verdict.{judged}
use Rattle.negotiation.proofs.choose.Goals as goal

pub returns-then-is_odd : goal.returns-then-is_odd
unfolding choose
returns-then-is_odd c = rw (sym c.is_odd.ensures ∙ c.if-is_odd.true, or-true)

pub returns-in-Chosen : goal.returns-in-Chosen
returns-in-Chosen c = c.with_algorithm.ensures ∙ judged _ _ _ _ _ (sym (ap told_protocol c.in-Chosen.is) ∙ c.choose_protocol-choice.ensures) (sym c.if-is_odd.false ∙ c.is_odd.ensures)

pub returns-in-Refused : goal.returns-in-Refused
returns-in-Refused c = judged _ _ _ _ _ (sym (ap told_protocol c.in-Refused.is) ∙ c.choose_protocol-choice.ensures) (sym c.if-is_odd.false ∙ c.is_odd.ensures)
