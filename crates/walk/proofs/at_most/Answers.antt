use Rattle.walk.specs.Code.{at_most}
use borrow.Author.Tests.{lt-ltb, le-ltb}
use Rattle.walk.proofs.at_most.Goals as goal

pub returns-then-limit-count : goal.returns-then-limit-count
unfolding at_most
returns-then-limit-count c = simp (lt-ltb _ _ c.if-limit-count.true)

pub returns : goal.returns
unfolding at_most
returns c = simp (le-ltb _ _ c.if-limit-count.false)
