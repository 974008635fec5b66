-- `planning::ntske_plan_length` meets its contract: what the plan's call answered is given, where the cells hold a plan.
use mathlib.Core.Path.{refl, sym, ap, ◌∙◌}
use Rattle.cells.specs.Cells.{counted}
use Rattle.cells.proofs.Lent.{given}
use Rattle.planning.specs.Planned.{planned_length}
use Rattle.planning.specs.Code.{told_held}
use Rattle.planning.proofs.ntske_plan_length.Goals as goal

pub returns-in_default : goal.returns-in_default
returns-in_default c = given (λ h. counted (planned_length h c.args.tray.now)) (ap told_held (sym c.in_default.is) ∙ c.plan_in-held.ensures) (record { says = c.refused.ensures; left = refl })

pub returns : goal.returns
returns c = given (λ h. counted (planned_length h c.args.tray.now)) (ap told_held (sym c.in-Plan.is) ∙ c.plan_in-held.ensures) (given counted c.length-answer.ensures c.give_count.ensures)
