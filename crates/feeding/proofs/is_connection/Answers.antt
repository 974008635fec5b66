-- `feeding::is_connection` meets its contract: the tests are those of the definition.
use Rattle.feeding.specs.Fed.{is_connection}
use Rattle.feeding.proofs.is_connection.Goals as goal

pub returns : goal.returns
unfolding is_connection
returns c = rw c.is_state.ensures
