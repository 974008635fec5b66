-- `planning::ntske_plan_new` meets its contract: the new plan is put.
use mathlib.Core.Path.{refl, ap, ◌∙◌}
use Rattle.planning.specs.Planned.{plan_cells}
use Rattle.planning.proofs.ntske_plan_new.Goals as goal

pub returns : goal.returns
returns c = record { says = refl; left = c.plan_cells.ensures ∙ ap plan_cells c.new.ensures }
