-- `writing::ntske_write_request` meets its contract: what the library's call answered and left is given.
use Rattle.cells.proofs.Lent.{wrote}
use Rattle.writing.proofs.ntske_write_request.Goals as goal

pub returns : goal.returns
returns c = wrote c.write_request-answer.ensures c.give_count.ensures
