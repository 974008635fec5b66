-- `feeding::profile_in` meets its contract: the test is that of the definition.
use borrow.Author.Tests.{eq-eqb, ne_eqb}
use Rattle.feeding.proofs.profile_in.Goals as goal

pub returns-then-cell-eq0 : goal.returns-then-cell-eq0
returns-then-cell-eq0 c = rw (eq-eqb _ _ c.if-cell-eq0.true)

pub returns : goal.returns
returns c = rw (ne_eqb _ _ c.if-cell-eq0.false)
