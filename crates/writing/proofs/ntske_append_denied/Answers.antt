-- `writing::ntske_append_denied` meets its contract: what the library's call answered and left is given.
use Rattle.cells.specs.Cells.{counted}
use Rattle.cells.proofs.Lent.{given}
use Rattle.writing.proofs.ntske_append_denied.Goals as goal

pub returns : goal.returns
returns c = let d = c.append_denied-answer.ensures in record { gives = given counted d.says c.give_count.ensures; left = d.left }
