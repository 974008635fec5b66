-- `record::write::bit_of` meets its contract: the bit that the table names, and where that is the one given, false.
use mathlib.Core.Path.{sym, ap, ◌∙◌}
use mathlib.Core.Bool.{false}
use Rattle.layout.specs.Table.{bit_by, bit_of}
use Rattle.layout.specs.declared.Bit.{Bit}
use Rattle.record.proofs.write.bit_of.Goals as goal

pub returns-in-Set : goal.returns-in-Set
unfolding bit_of
returns-in-Set c = ap (λ (b : Bit). bit_by b false) (sym c.in-Set.is ∙ c.bit_named-bit.ensures)

pub returns-in-Clear : goal.returns-in-Clear
unfolding bit_of
returns-in-Clear c = ap (λ (b : Bit). bit_by b false) (sym c.in-Clear.is ∙ c.bit_named-bit.ensures)

pub returns-in-Given : goal.returns-in-Given
unfolding bit_of
returns-in-Given c = ap (λ (b : Bit). bit_by b false) (sym c.in-Given.is ∙ c.bit_named-bit.ensures)
