-- `reading::name_of` meets its contract: each arm knows whether a name was sent.
use Rattle.reading.proofs.name_of.Goals as goal

pub returns-in-NotSent : goal.returns-in-NotSent
returns-in-NotSent c = rw c.in-NotSent.is
