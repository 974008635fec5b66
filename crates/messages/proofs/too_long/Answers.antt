-- `messages::too_long` meets its contract: a body of two bytes a cell is longer than 65,535 exactly with more than 32,767 cells.
use lib.ListN.{length}
use Rattle.messages.proofs.Putting.{half_tested}
use Rattle.messages.proofs.too_long.Goals as goal

pub returns : goal.returns
returns c = half_tested (length c.args.cells.now)
