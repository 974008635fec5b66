-- `nts::AeadAlgorithm::description` meets its contract: the tests on the way are the definition's.
use borrow.Author.Tests.{ne_eqb}
use Rattle.nts.specs.Algorithm.{describe}
use Rattle.nts.proofs.AeadAlgorithm.description.Goals as goal

pub returns-then-self : goal.returns-then-self
unfolding describe
returns-then-self c = rw c.if-self.true

pub returns-then-self-2 : goal.returns-then-self-2
unfolding describe
returns-then-self-2 c = rw c.if-self-2.true

pub returns : goal.returns
unfolding describe
returns c = simp (ne_eqb _ _ c.if-self.false, ne_eqb _ _ c.if-self-2.false)
