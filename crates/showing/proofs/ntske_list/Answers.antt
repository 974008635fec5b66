-- `showing::ntske_list` meets its contract: what the library's call answered and left is given.
use Rattle.cells.proofs.Lent.{wrote}
use Rattle.showing.proofs.ntske_list.Goals as goal

pub returns : goal.returns
returns c = wrote c.list-answer.ensures c.give_count.ensures
