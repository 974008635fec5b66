-- `handing::ntske_key_length` meets its contract: each arm knows what is known of the algorithm.
use mathlib.Core.Path.{refl, sym, ap, ◌∙◌}
use Rattle.nts.specs.Algorithm.{told_description}
use Rattle.handing.specs.Handed.{key_given}
use Rattle.cells.proofs.Lent.{given}
use Rattle.handing.proofs.ntske_key_length.Goals as goal

pub returns-in-Known : goal.returns-in-Known
returns-in-Known c = given (key_given _) (sym (ap told_description c.in-Known.is) ∙ c.description-description.ensures) (record { says = refl; left = refl })

pub returns-in-Unknown : goal.returns-in-Unknown
returns-in-Unknown c = given (key_given _) (sym (ap told_description c.in-Unknown.is) ∙ c.description-description.ensures) (record { says = c.refused.ensures; left = refl })
