use borrow.Author.Tests.{ne_eqb}
use Rattle.walk.specs.Code.{error_of}
use Rattle.walk.proofs.told.Goals as goal

pub returns-in-2 : goal.returns-in-2
unfolding error_of
returns-in-2 c = rw c.in-2.is

pub returns-in-3 : goal.returns-in-3
unfolding error_of
returns-in-3 c = rw c.in-3.is

pub returns-in_default : goal.returns-in_default
unfolding error_of
returns-in_default c = let k = c.in_default.in_default-own.rest in simp (ne_eqb _ _ k.1, ne_eqb _ _ k.0.1)
