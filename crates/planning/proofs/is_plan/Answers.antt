-- `planning::is_plan` meets its contract: the tests are those of the definition.
use borrow.Author.Rules.{rules}
use Rattle.planning.specs.Planned.{is_plan}
use Rattle.planning.proofs.is_plan.Goals as goal

pub returns : goal.returns
unfolding is_plan
returns c = search rules
