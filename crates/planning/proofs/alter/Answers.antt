-- `planning::alter` meets its contract: the plan that the cells hold is changed and put again.
use mathlib.Core.Path.{refl, sym, ap, ◌∙◌}
use Rattle.cells.proofs.Lent.{given}
use Rattle.planning.specs.Planned.{plan_cells, changed}
use Rattle.planning.specs.Code.{told_held}
use Rattle.planning.proofs.alter.Goals as goal

pub returns-in_default : goal.returns-in_default
returns-in_default c = given (changed _) (ap told_held (sym c.in_default.is) ∙ c.plan_in-held.ensures) (record { says = c.refused.ensures; left = refl })

pub returns : goal.returns
returns c = given (changed _) (ap told_held (sym c.in-Plan.is) ∙ c.plan_in-held.ensures) (record { says = refl; left = c.plan_cells.ensures ∙ ap plan_cells c.changed_by.ensures })
