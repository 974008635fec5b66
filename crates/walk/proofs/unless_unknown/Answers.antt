use borrow.Author.Tests.{eq-eqb, ne_eqb}
use Rattle.walk.specs.Code.{unknown_of}
use Rattle.walk.proofs.unless_unknown.Goals as goal

pub returns-then-critical : goal.returns-then-critical
unfolding unknown_of
returns-then-critical c = simp (eq-eqb _ _ c.if-slot-eq-UNKNOWN.true, c.if-critical.true)

pub returns-then-slot-eq-UNKNOWN : goal.returns-then-slot-eq-UNKNOWN
unfolding unknown_of
returns-then-slot-eq-UNKNOWN c = simp (eq-eqb _ _ c.if-slot-eq-UNKNOWN.true, c.if-critical.false)

pub returns : goal.returns
unfolding unknown_of
returns c = simp (ne_eqb _ _ c.if-slot-eq-UNKNOWN.false)
