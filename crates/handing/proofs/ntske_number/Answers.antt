-- `handing::ntske_number` meets its contract: each arm knows what stands at the index.
use mathlib.Core.Path.{refl, sym, ap, ◌∙◌}
use Rattle.record.specs.Told.{told_protocol}
use Rattle.handing.specs.Handed.{number_cells}
use Rattle.cells.specs.Cells.{cells}
use Rattle.cells.proofs.Lent.{given}
use Rattle.handing.proofs.ntske_number.Goals as goal

pub returns-in-Protocol : goal.returns-in-Protocol
returns-in-Protocol c = given (λ e. cells (number_cells e)) (sym (ap told_protocol c.in-Protocol.is) ∙ c.protocol_at-entry.ensures) (record { says = refl; left = refl })

pub returns-in-Nothing : goal.returns-in-Nothing
returns-in-Nothing c = given (λ e. cells (number_cells e)) (sym (ap told_protocol c.in-Nothing.is) ∙ c.protocol_at-entry.ensures) (record { says = refl; left = refl })
