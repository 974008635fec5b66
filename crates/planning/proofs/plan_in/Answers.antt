-- `planning::plan_in` meets its contract: where the cells are a plan's, each is read whole.
use mathlib.Core.Path.{sym, ◌∙◌}
use native.Mathlib.Omega.{arith}
use Rattle.planning.specs.Planned.{plan_in}
use Rattle.planning.proofs.Holding.{plan_sound}
use Rattle.planning.proofs.plan_in.Goals as goal

pub overflow_cast-c : goal.overflow_cast-c
overflow_cast-c c = let s = plan_sound _ (sym c.is_plan.ensures ∙ c.if-is_plan.true) in omega arith

pub overflow_cast-c-then-is_plan : goal.overflow_cast-c-then-is_plan
overflow_cast-c-then-is_plan c = let s = plan_sound _ (sym c.is_plan.ensures ∙ c.if-is_plan.true) in omega arith

pub overflow_cast-result : goal.overflow_cast-result
overflow_cast-result c = let s = plan_sound _ (sym c.is_plan.ensures ∙ c.if-is_plan.true) in omega arith

pub overflow_cast-result-then-is_plan : goal.overflow_cast-result-then-is_plan
overflow_cast-result-then-is_plan c = let s = plan_sound _ (sym c.is_plan.ensures ∙ c.if-is_plan.true) in omega arith

pub returns-then-is_plan : goal.returns-then-is_plan
unfolding plan_in
returns-then-is_plan c = rw (sym c.is_plan.ensures ∙ c.if-is_plan.true, c.port_in-port.ensures, c.name_in-name.ensures)

pub returns : goal.returns
unfolding plan_in
returns c = rw (sym c.is_plan.ensures ∙ c.if-is_plan.false)
