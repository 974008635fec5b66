-- `handing::ntske_choose_protocol` meets its contract: each arm knows what was chosen.
use mathlib.Core.Path.{refl, sym, ap, ◌∙◌}
use Rattle.negotiation.specs.Negotiation.{told_protocol}
use Rattle.handing.specs.Handed.{protocol_given}
use Rattle.cells.proofs.Lent.{given}
use Rattle.handing.proofs.ntske_choose_protocol.Goals as goal

pub returns-in-Chosen : goal.returns-in-Chosen
returns-in-Chosen c = given protocol_given (sym (ap told_protocol c.in-Chosen.is) ∙ c.choose_protocol-choice.ensures) (record { says = refl; left = refl })

pub returns-in-Refused : goal.returns-in-Refused
returns-in-Refused c = given protocol_given (sym (ap told_protocol c.in-Refused.is) ∙ c.choose_protocol-choice.ensures) (record { says = c.refused.ensures; left = refl })
