-- `walk::same_error` meets its contract: both are asked for their number and for what is beside it.
use Rattle.walk.proofs.same_error.Goals as goal

pub returns : goal.returns
returns c = rw (c.number.ensures, c.number-2.ensures, c.same_code.ensures, c.code.ensures, c.code-2.ensures)
