-- `writing::ntske_support_reply_length` meets its contract: what the library's call answered is given, where the number asks for a reply.
use borrow.Author.Tests.{le-leb, lt-leb}
use mathlib.Core.Path.{refl}
use Rattle.cells.specs.Cells.{counted}
use Rattle.cells.proofs.Lent.{given}
use Rattle.writing.specs.Given.{support_count}
use Rattle.writing.proofs.ntske_support_reply_length.Goals as goal

pub returns-then-asked-gt7 : goal.returns-then-asked-gt7
unfolding support_count
returns-then-asked-gt7 c = rw (lt-leb _ 7 c.if-asked-gt7.true) (record { says = c.refused.ensures; left = refl })

pub returns : goal.returns
unfolding support_count
returns c = rw (le-leb _ 7 c.if-asked-gt7.false, ← c.asked_of.ensures) (given counted c.support_reply_length-answer.ensures c.give_count.ensures)
