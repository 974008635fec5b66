use borrow.Author.Tests.{ne_eqb}
use Rattle.walk.proofs.count_more.Goals as goal

pub returns-then-before-eq0 : goal.returns-then-before-eq0
returns-then-before-eq0 c = rw c.if-before-eq0.true

pub returns-else-before-eq0 : goal.returns-else-before-eq0
returns-else-before-eq0 c = rw (ne_eqb _ _ c.if-before-eq0.false)
