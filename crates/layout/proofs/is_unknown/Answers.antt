-- `layout::is_unknown` meets its contract: its tests are for the numbers that the table calls unknown.
use borrow.Author.Tests.{eq-eqb, ne_eqb}
use Rattle.layout.proofs.Table.{unknown_numbers}
use Rattle.layout.proofs.is_unknown.Goals as goal

pub returns-then-kind-eq-KIND_WITHOUT_NAME : goal.returns-then-kind-eq-KIND_WITHOUT_NAME
returns-then-kind-eq-KIND_WITHOUT_NAME c = rw (unknown_numbers, eq-eqb _ _ c.if-kind-eq-KIND_WITHOUT_NAME.true)

pub returns : goal.returns
returns c = rw (unknown_numbers, ne_eqb _ _ c.if-kind-eq-KIND_WITHOUT_NAME.false)
