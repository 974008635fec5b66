-- `pieces::smaller` meets its contract: its test is the definition's.
use borrow.Author.Tests.{lt-ltb, le-ltb}
use Rattle.pieces.specs.Code.{smaller_of}
use Rattle.pieces.proofs.smaller.Goals as goal

pub returns-then-b-a : goal.returns-then-b-a
unfolding smaller_of
returns-then-b-a c = simp (lt-ltb _ _ c.if-b-a.true)

pub returns : goal.returns
unfolding smaller_of
returns c = simp (le-ltb _ _ c.if-b-a.false)
