-- `layout::body_size` meets its contract: the test is the definition's.
use mathlib.Core.Path.{sym, ◌∙◌}
use Rattle.layout.specs.Write.{body_size}
use Rattle.layout.proofs.body_size.Goals as goal

pub returns-then-is_number : goal.returns-then-is_number
unfolding body_size
returns-then-is_number c = rw (sym c.is_number.ensures ∙ c.if-is_number.true)

pub returns : goal.returns
unfolding body_size
returns c = rw (sym c.is_number.ensures ∙ c.if-is_number.false)
