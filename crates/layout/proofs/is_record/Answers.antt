-- `layout::is_record` meets its contract: the tests on the way are the definition's, in its order.
use mathlib.Core.Path.{sym, ◌∙◌}
use borrow.Author.Tests.{le-leb, lt-leb}
use Rattle.layout.specs.Write.{is_record}
use Rattle.layout.proofs.is_record.Goals as goal

pub returns-then-layout-gt-KIND_BITS : goal.returns-then-layout-gt-KIND_BITS
unfolding is_record
returns-then-layout-gt-KIND_BITS c = rw (lt-leb _ _ c.if-layout-gt-KIND_BITS.true)

pub returns-then-is_inside-2 : goal.returns-then-is_inside-2
unfolding is_record
returns-then-is_inside-2 c = rw (le-leb _ _ c.if-layout-gt-KIND_BITS.false, sym c.is_inside.ensures ∙ c.if-is_inside.true, sym c.is_inside-then-is_inside.ensures ∙ c.if-is_inside-2.true) c.is_sound.ensures

pub returns-then-is_inside : goal.returns-then-is_inside
unfolding is_record
returns-then-is_inside c = rw (le-leb _ _ c.if-layout-gt-KIND_BITS.false, sym c.is_inside.ensures ∙ c.if-is_inside.true, sym c.is_inside-then-is_inside.ensures ∙ c.if-is_inside-2.false)

pub returns : goal.returns
unfolding is_record
returns c = rw (le-leb _ _ c.if-layout-gt-KIND_BITS.false, sym c.is_inside.ensures ∙ c.if-is_inside.false)
