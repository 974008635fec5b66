-- `walk::Finding::is_same` meets its contract: limits, stops and cells are compared.
use Rattle.walk.specs.Finding.{same_found}
use Rattle.walk.proofs.Finding.is_same.Goals as goal

pub returns : goal.returns
unfolding same_found
returns c = rw (c.same_stop.ensures, c.same_numbers.ensures)
