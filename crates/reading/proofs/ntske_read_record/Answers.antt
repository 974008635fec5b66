-- `reading::ntske_read_record` meets its contract: the cells of the record, or its refusal.
use mathlib.Core.Path.{refl, sym, ap, ◌∙◌}
use Rattle.record.specs.Told.{told_parsed}
use Rattle.cells.proofs.Lent.{given}
use Rattle.reading.specs.Read.{record_given}
use Rattle.reading.proofs.ntske_read_record.Goals as goal

pub returns-in-Read : goal.returns-in-Read
returns-in-Read c = given record_given (sym (ap told_parsed c.in-Read.is) ∙ c.parse-read.ensures) (record { says = refl; left = rw c.flag_of.ensures at c.record_cells.ensures })

pub returns-in-Refused : goal.returns-in-Refused
returns-in-Refused c = given record_given (sym (ap told_parsed c.in-Refused.is) ∙ c.parse-read.ensures) (record { says = c.refused.ensures; left = refl })
