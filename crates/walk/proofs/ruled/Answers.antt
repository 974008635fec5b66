use borrow.Author.Tests.{eq-eqb, ne_eqb}
use Rattle.walk.specs.Code.{ruled_of}
use Rattle.walk.proofs.ruled.Goals as goal

pub returns-then-before-eq0 : goal.returns-then-before-eq0
unfolding ruled_of
returns-then-before-eq0 c = simp (c.in-4.is, eq-eqb _ _ c.if-before-eq0.true) c.at_most-then-before-eq0.ensures

pub returns-in-0 : goal.returns-in-0
unfolding ruled_of
returns-in-0 c = rw c.in-0.is

pub returns-in-1 : goal.returns-in-1
unfolding ruled_of
returns-in-1 c = rw c.in-1.is

pub returns-in-2 : goal.returns-in-2
unfolding ruled_of
returns-in-2 c = rw c.in-2.is

pub returns-in-3 : goal.returns-in-3
unfolding ruled_of
returns-in-3 c = rw c.in-3.is c.at_most.ensures

pub returns-else-before-eq0 : goal.returns-else-before-eq0
unfolding ruled_of
returns-else-before-eq0 c = simp (c.in-4.is, ne_eqb _ _ c.if-before-eq0.false)

pub returns-in-5 : goal.returns-in-5
unfolding ruled_of
returns-in-5 c = rw (c.in-5.is, c.told-error.ensures, c.number_at.ensures)

pub returns-in_default : goal.returns-in_default
unfolding ruled_of
returns-in_default c = let k = c.in_default.in_default-own.rest in simp (ne_eqb _ _ k.1, ne_eqb _ _ k.0.1, ne_eqb _ _ k.0.0.1, ne_eqb _ _ k.0.0.0.1, ne_eqb _ _ k.0.0.0.0.1, ne_eqb _ _ k.0.0.0.0.0.1)
