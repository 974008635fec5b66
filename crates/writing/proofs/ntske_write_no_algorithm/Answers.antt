-- `writing::ntske_write_no_algorithm` meets its contract: what the library's call answered and left is given.
use Rattle.cells.proofs.Lent.{wrote}
use Rattle.writing.proofs.ntske_write_no_algorithm.Goals as goal

pub returns : goal.returns
returns c = wrote c.write_no_algorithm-answer.ensures c.give_count.ensures
