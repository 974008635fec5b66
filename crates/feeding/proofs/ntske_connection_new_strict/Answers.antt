-- `feeding::ntske_connection_new_strict` meets its contract: the cells of the connection that was started.
use mathlib.Core.Path.{refl, ap, ◌∙◌}
use Rattle.feeding.specs.Fed.{line_cells}
use Rattle.feeding.proofs.ntske_connection_new_strict.Goals as goal

pub returns : goal.returns
returns c = record { says = refl; left = c.connection_cells.ensures ∙ ap line_cells c.start.ensures }
