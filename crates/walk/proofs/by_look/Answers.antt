-- `walk::by_look` meets its contract: each case is the definition's.
use Rattle.walk.proofs.by_look.Goals as goal

pub returns-in-Refused : goal.returns-in-Refused
returns-in-Refused c = rw c.in-Refused.is
