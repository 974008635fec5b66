-- `reading::request_cells` meets its contract: each arm knows which request it is.
use Rattle.reading.proofs.request_cells.Goals as goal

pub returns-in-KeyExchange : goal.returns-in-KeyExchange
returns-in-KeyExchange c = rw c.in-KeyExchange.is

pub returns-in-FixedKey : goal.returns-in-FixedKey
returns-in-FixedKey c = rw (c.in-FixedKey.is, c.flag_of-k.ensures)

pub returns-in-Support : goal.returns-in-Support
returns-in-Support c = rw (c.in-Support.is, c.flag_of-p.ensures, c.flag_of-a.ensures, c.flag_of-k-in-Support.ensures)
