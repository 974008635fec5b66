-- `reading::ntske_bit_named` meets its contract: each arm knows which bit the table names.
use mathlib.Core.Path.{sym, ap, ◌∙◌}
use Rattle.reading.specs.Read.{bit_cell}
use Rattle.reading.proofs.ntske_bit_named.Goals as goal

pub returns-in-Clear : goal.returns-in-Clear
returns-in-Clear c = ap bit_cell (sym c.in-Clear.is ∙ c.bit_named-bit.ensures)

pub returns-in-Set : goal.returns-in-Set
returns-in-Set c = ap bit_cell (sym c.in-Set.is ∙ c.bit_named-bit.ensures)

pub returns-in-Given : goal.returns-in-Given
returns-in-Given c = ap bit_cell (sym c.in-Given.is ∙ c.bit_named-bit.ensures)
