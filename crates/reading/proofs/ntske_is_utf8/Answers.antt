-- `reading::ntske_is_utf8` meets its contract: the flag of what the test says.
use mathlib.Core.Path.{sym, ap, ◌∙◌}
use Rattle.cells.specs.Cells.{flag}
use Rattle.reading.proofs.ntske_is_utf8.Goals as goal

pub returns-then-is_utf8 : goal.returns-then-is_utf8
returns-then-is_utf8 c = ap flag (sym c.if-is_utf8.true ∙ c.is_utf8.ensures)

pub returns-else-is_utf8 : goal.returns-else-is_utf8
returns-else-is_utf8 c = ap flag (sym c.if-is_utf8.false ∙ c.is_utf8.ensures)
