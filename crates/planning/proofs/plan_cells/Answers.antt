-- `planning::plan_cells` meets its contract: each cell is what the definition puts there.
use Rattle.planning.proofs.plan_cells.Goals as goal

pub returns : goal.returns
returns c = rw (c.port_there.ensures, c.port_number.ensures, c.name_there.ensures, c.name_number.ensures, c.flag_of.ensures)
