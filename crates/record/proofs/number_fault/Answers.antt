-- `record::number_fault` meets its contract: the tests are the definition's.
use borrow.Author.Tests.{lt-ltb, le-ltb, eq-eqb, ne_eqb}
use Rattle.record.specs.Record.{not_number}
use Rattle.record.proofs.number_fault.Goals as goal

pub returns-then-there-lt2 : goal.returns-then-there-lt2
unfolding not_number
returns-then-there-lt2 c = simp (lt-ltb _ _ c.if-there-lt2.true)

pub returns-then-size-eq2 : goal.returns-then-size-eq2
unfolding not_number
returns-then-size-eq2 c = simp (le-ltb _ _ c.if-there-lt2.false, eq-eqb _ _ c.if-size-eq2.true)

pub returns : goal.returns
unfolding not_number
returns c = simp (le-ltb _ _ c.if-there-lt2.false, ne_eqb _ _ c.if-size-eq2.false)
