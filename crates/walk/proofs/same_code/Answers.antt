-- `walk::same_code` meets its contract: sort and number are compared.
use Rattle.walk.proofs.same_code.Goals as goal

pub returns : goal.returns
returns c = rw (c.sort_of.ensures, c.sort_of-2.ensures, c.number_of.ensures, c.number_of-2.ensures)
