-- `record::halves_fault` meets its contract: the tests are the definition's.
use borrow.Author.Tests.{lt-ltb, le-ltb, eq-eqb, ne_eqb}
use Rattle.record.specs.Record.{not_halves}
use Rattle.record.proofs.halves_fault.Goals as goal

pub returns-then-there-size : goal.returns-then-there-size
unfolding not_halves
returns-then-there-size c = simp (lt-ltb _ _ c.if-there-size.true)

pub returns-then-size-eq0 : goal.returns-then-size-eq0
unfolding not_halves
returns-then-size-eq0 c = simp (le-ltb _ _ c.if-there-size.false, eq-eqb _ _ c.if-size-eq0.true)

pub returns : goal.returns
unfolding not_halves
returns c = simp (le-ltb _ _ c.if-there-size.false, ne_eqb _ _ c.if-size-eq0.false)
