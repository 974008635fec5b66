-- `writing::ntske_request_length` meets its contract: what the library's call answered is given.
use Rattle.cells.specs.Cells.{counted}
use Rattle.cells.proofs.Lent.{given}
use Rattle.writing.proofs.ntske_request_length.Goals as goal

pub returns : goal.returns
returns c = given counted c.request_length-answer.ensures c.give_count.ensures
