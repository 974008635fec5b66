-- `walk::same_stop` meets its contract: case by case.
use Rattle.walk.proofs.same_stop.Goals as goal

pub returns-in-End-other : goal.returns-in-End-other
returns-in-End-other c = rw (c.in-End.is, c.in-End-other.is)

pub returns-in-End-other-2 : goal.returns-in-End-other-2
returns-in-End-other-2 c = rw (c.in-Refused.is, c.in-End-other-2.is)

pub returns-in-Refused-other-2 : goal.returns-in-Refused-other-2
returns-in-Refused-other-2 c = rw (c.in-Refused.is, c.in-Refused-other-2.is, c.same_error.ensures)
