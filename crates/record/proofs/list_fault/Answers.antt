-- `record::list_fault` meets its contract: the test is the definition's.
use borrow.Author.Tests.{eq-eqb, ne_eqb}
use Rattle.record.specs.Record.{uneven}
use Rattle.record.proofs.list_fault.Goals as goal

pub returns-then-size-unit-eq0 : goal.returns-then-size-unit-eq0
unfolding uneven
returns-then-size-unit-eq0 c = simp (eq-eqb _ _ c.if-size-unit-eq0.true) c.whole_fault.ensures

pub returns : goal.returns
unfolding uneven
returns c = simp (ne_eqb _ _ c.if-size-unit-eq0.false)
