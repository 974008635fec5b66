-- `feeding::is_mark` meets its contract: the tests are those of the definition.
use borrow.Author.Rules.{rules}
use Rattle.feeding.specs.Fed.{is_mark}
use Rattle.feeding.proofs.is_mark.Goals as goal

pub returns : goal.returns
unfolding is_mark
returns c = search rules
