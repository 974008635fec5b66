-- `writing::record_in` meets its contract: its tests are the definition's, in the definition's order.
use borrow.Author.Tests.{le-leb, lt-leb}
use mathlib.Core.Path.{ap}
use Rattle.writing.specs.Given.{is_record, record_in, held}
use Rattle.writing.proofs.record_in.Goals as goal

pub returns-then-c-gt65535 : goal.returns-then-c-gt65535
unfolding record_in is_record
returns-then-c-gt65535 c = rw (lt-leb _ _ c.if-c-gt65535.true)

pub returns-then-c-gt1 : goal.returns-then-c-gt1
unfolding record_in is_record
returns-then-c-gt1 c = rw (le-leb _ _ c.if-c-gt65535.false, lt-leb _ _ c.if-c-gt1.true)

pub returns-then-c-gt65535-2 : goal.returns-then-c-gt65535-2
unfolding record_in is_record
returns-then-c-gt65535-2 c = rw (le-leb _ _ c.if-c-gt65535.false, le-leb _ _ c.if-c-gt1.false, lt-leb _ _ c.if-c-gt65535-2.true)

pub returns : goal.returns
unfolding record_in is_record
returns c = rw (le-leb _ _ c.if-c-gt65535.false, le-leb _ _ c.if-c-gt1.false, le-leb _ _ c.if-c-gt65535-2.false) (ap held c.item_of.ensures)
