-- `pieces::of_reply` meets its contract: case by case.
use mathlib.Core.Path.{sym, ap}
use Rattle.pieces.specs.Reads.{of_reply}
use Rattle.pieces.proofs.of_reply.Goals as goal

pub returns-in-Accepted : goal.returns-in-Accepted
returns-in-Accepted c = sym (ap of_reply c.in-Accepted.is)

pub returns-in-Refused : goal.returns-in-Refused
returns-in-Refused c = sym (ap of_reply c.in-Refused.is)
