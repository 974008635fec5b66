-- `planning::port_in` meets its contract: there is a port where its flag is 1.
use borrow.Author.Tests.{eq-eqb, ne_eqb}
use Rattle.planning.proofs.port_in.Goals as goal

pub returns-then-there-eq1 : goal.returns-then-there-eq1
returns-then-there-eq1 c = rw (eq-eqb _ _ c.if-there-eq1.true)

pub returns : goal.returns
returns c = rw (ne_eqb _ _ c.if-there-eq1.false)
