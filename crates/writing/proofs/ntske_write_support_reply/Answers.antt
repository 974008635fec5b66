-- `writing::ntske_write_support_reply` meets its contract: what the library's call answered and left is given, where the number asks for a reply.
use borrow.Author.Tests.{le-leb, lt-leb}
use mathlib.Core.Path.{refl}
use Rattle.layout.specs.Write.{fitted, left_by}
use Rattle.cells.proofs.Lent.{wrote}
use Rattle.writing.specs.Given.{support_count}
use Rattle.writing.proofs.Giving.{support_asked}
use Rattle.writing.proofs.ntske_write_support_reply.Goals as goal

pub returns-then-asked-gt7 : goal.returns-then-asked-gt7
unfolding fitted left_by support_count
returns-then-asked-gt7 c = rw (lt-leb _ 7 c.if-asked-gt7.true) (record { gives = record { says = c.refused.ensures; left = refl }; wrote = refl })

pub returns : goal.returns
unfolding support_count
returns c = rw (le-leb _ 7 c.if-asked-gt7.false) (support_asked _ _ c.asked_of.ensures (wrote c.write_support_reply-answer.ensures c.give_count.ensures))
