-- `reading::reply_cells` meets its contract: each cell is what its own function says.
use Rattle.reading.proofs.reply_cells.Goals as goal

pub returns : goal.returns
returns c = rw (c.server_there.ensures, c.name_of-name.ensures, c.port_there.ensures, c.port_number.ensures, c.flag_of.ensures)
