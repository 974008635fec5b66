-- `handing::ntske_choose` meets its contract: each arm knows what was chosen.
use mathlib.Core.Path.{refl, sym, ap, ◌∙◌}
use Rattle.negotiation.specs.Negotiation.{told_choice}
use Rattle.handing.specs.Handed.{choice_given}
use Rattle.cells.proofs.Lent.{given}
use Rattle.handing.proofs.ntske_choose.Goals as goal

pub returns-in-Chosen : goal.returns-in-Chosen
returns-in-Chosen c = given choice_given (sym (ap told_choice c.in-Chosen.is) ∙ c.choose-choice.ensures) (record { says = refl; left = refl })

pub returns-in-Refused : goal.returns-in-Refused
returns-in-Refused c = given choice_given (sym (ap told_choice c.in-Refused.is) ∙ c.choose-choice.ensures) (record { says = c.refused.ensures; left = refl })
