-- `negotiation::choose_protocol` meets its contract: each return is one case of the definition.
use mathlib.Core.Path.{sym, ap, ◌∙◌}
use Rattle.negotiation.specs.Code.{told_first}
use Rattle.negotiation.specs.Negotiation.{protocol_from, choose_protocol}
use Rattle.negotiation.proofs.choose_protocol.Goals as goal

pub returns-then-is_odd : goal.returns-then-is_odd
unfolding choose_protocol
returns-then-is_odd c = rw (sym c.is_odd.ensures ∙ c.if-is_odd.true)

pub returns-in-Number : goal.returns-in-Number
unfolding choose_protocol
returns-in-Number c = rw (sym c.is_odd.ensures ∙ c.if-is_odd.false) (ap protocol_from (ap told_first (sym c.in-Number.is) ∙ c.first_common-first.ensures))

pub returns-in-Nothing : goal.returns-in-Nothing
unfolding choose_protocol
returns-in-Nothing c = rw (sym c.is_odd.ensures ∙ c.if-is_odd.false) (ap protocol_from (ap told_first (sym c.in-Nothing.is) ∙ c.first_common-first.ensures))
