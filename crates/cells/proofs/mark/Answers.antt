-- `cells::mark` meets its contract: it adds up what the definition adds up, of eight bits each.
use Rattle.cells.proofs.mark.Goals as goal

pub returns : goal.returns
returns c = rw (c.number.ensures, c.sort.ensures, c.code.ensures)
