-- `negotiation::with_algorithm` meets its contract: each arm knows what was found.
use mathlib.Core.Path.{sym, ap, ◌∙◌}
use Rattle.negotiation.specs.Code.{told_first}
use Rattle.negotiation.specs.Negotiation.{with_algorithm}
use Rattle.negotiation.proofs.with_algorithm.Goals as goal

pub returns-in-Number : goal.returns-in-Number
returns-in-Number c = ap (with_algorithm _) (ap told_first (sym c.in-Number.is) ∙ c.first_common-first.ensures)

pub returns-in-Nothing : goal.returns-in-Nothing
returns-in-Nothing c = ap (with_algorithm _) (ap told_first (sym c.in-Nothing.is) ∙ c.first_common-first.ensures)
