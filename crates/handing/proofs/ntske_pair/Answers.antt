-- `handing::ntske_pair` meets its contract: each arm knows what stands at the index.
use mathlib.Core.Path.{refl, sym, ap, ◌∙◌}
use Rattle.record.specs.Told.{told_pair}
use Rattle.handing.specs.Handed.{number_cells}
use Rattle.cells.specs.Cells.{cells}
use Rattle.cells.proofs.Lent.{given}
use Rattle.handing.proofs.ntske_pair.Goals as goal

pub returns-in-Description : goal.returns-in-Description
returns-in-Description c = given (λ e. cells (number_cells e)) (sym (ap told_pair c.in-Description.is) ∙ c.description_at-entry.ensures) (record { says = refl; left = refl })

pub returns-in-Nothing : goal.returns-in-Nothing
returns-in-Nothing c = given (λ e. cells (number_cells e)) (sym (ap told_pair c.in-Nothing.is) ∙ c.description_at-entry.ensures) (record { says = refl; left = refl })
