-- `feeding::has_beside` meets its contract: the tests are those of the definition.
use borrow.Author.Rules.{rules}
use Rattle.feeding.specs.Fed.{has_beside}
use Rattle.feeding.proofs.has_beside.Goals as goal

pub returns : goal.returns
unfolding has_beside
returns c = search rules
