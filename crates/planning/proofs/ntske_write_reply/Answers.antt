-- `planning::ntske_write_reply` meets its contract: what the library's call answered and left is given, where the cells hold a plan.
use mathlib.Core.Path.{refl, sym, ap, ◌∙◌}
use Rattle.layout.specs.Write.{left_by}
use Rattle.cells.proofs.Lent.{wrote}
use Rattle.planning.specs.Code.{told_held}
use Rattle.planning.proofs.Holding.{writes}
use Rattle.planning.proofs.ntske_write_reply.Goals as goal

pub returns-in_default : goal.returns-in_default
unfolding left_by
returns-in_default c = writes _ _ (ap told_held (sym c.in_default.is) ∙ c.plan_in-held.ensures) (record { gives = record { says = c.refused.ensures; left = refl }; wrote = refl })

pub returns : goal.returns
returns c = writes _ _ (ap told_held (sym c.in-Plan.is) ∙ c.plan_in-held.ensures) (wrote c.write_reply-answer.ensures c.give_count.ensures)
