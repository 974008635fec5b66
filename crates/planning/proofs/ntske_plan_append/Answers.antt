-- `planning::ntske_plan_append` meets its contract: the plan that the cells hold is asked, and its answer is put.
use mathlib.Core.Path.{refl, sym, ap, ◌∙◌}
use Rattle.plan.specs.Plan.{told_appended}
use Rattle.cells.proofs.Lent.{given}
use Rattle.planning.specs.Planned.{grown_given}
use Rattle.planning.specs.Code.{told_held}
use Rattle.planning.proofs.Holding.{appends}
use Rattle.planning.proofs.ntske_plan_append.Goals as goal

pub returns-in_default : goal.returns-in_default
returns-in_default c = appends (ap told_held (sym c.in_default.is) ∙ c.plan_in-held.ensures) (record { says = c.refused.ensures; left = refl }) refl

pub returns-in-Plan-answer : goal.returns-in-Plan-answer
returns-in-Plan-answer c = let a = c.append-answer.ensures in appends (ap told_held (sym c.in-Plan.is) ∙ c.plan_in-held.ensures) (given grown_given (ap told_appended (sym c.in-Plan-answer.is) ∙ a.says) (record { says = refl; left = c.plan_cells.ensures })) a.left

pub returns-in-Refused : goal.returns-in-Refused
returns-in-Refused c = let a = c.append-answer.ensures in appends (ap told_held (sym c.in-Plan.is) ∙ c.plan_in-held.ensures) (given grown_given (ap told_appended (sym c.in-Refused.is) ∙ a.says) (record { says = c.refused-in-Refused.ensures; left = refl })) a.left
