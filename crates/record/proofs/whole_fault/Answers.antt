-- `record::whole_fault` meets its contract: the test is the definition's.
use borrow.Author.Tests.{lt-ltb, le-ltb}
use Rattle.record.specs.Record.{short}
use Rattle.record.proofs.whole_fault.Goals as goal

pub returns-then-there-size : goal.returns-then-there-size
unfolding short
returns-then-there-size c = simp (lt-ltb _ _ c.if-there-size.true)

pub returns : goal.returns
unfolding short
returns c = simp (le-ltb _ _ c.if-there-size.false)
