-- `feeding::connection_cells` meets its contract: each arm knows whether there is an answer.
use Rattle.feeding.proofs.connection_cells.Goals as goal

pub returns-in-Pending : goal.returns-in-Pending
returns-in-Pending c = rw (c.in-Pending.is, c.profile_cell-p.ensures)

pub returns-in-Accepted : goal.returns-in-Accepted
returns-in-Accepted c = rw (c.in-Accepted.is, c.profile_cell-p.ensures)

pub returns-in-Refused : goal.returns-in-Refused
returns-in-Refused c = rw (c.in-Refused.is, c.mark-n.ensures, c.beside-c.ensures, c.profile_cell-p.ensures)
