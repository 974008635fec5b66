-- `request::is_one` meets its contract: the tests are the definition's.
use borrow.Author.Tests.{eq-eqb, ne_eqb}
use Rattle.request.specs.Code.{is_one}
use Rattle.request.proofs.is_one.Goals as goal

pub returns-then-list-eq0 : goal.returns-then-list-eq0
unfolding is_one
returns-then-list-eq0 c = rw (eq-eqb _ _ c.if-list-eq0.true)

pub returns : goal.returns
unfolding is_one
returns c = rw (ne_eqb _ _ c.if-list-eq0.false)
