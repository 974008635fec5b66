-- `record::shape_of` meets its contract: it is the body of the kind's row.
use mathlib.Core.Path.{ap}
use Rattle.layout.specs.Table.{shape_of}
use Rattle.layout.specs.declared.Row.{Row}
use Rattle.record.proofs.shape_of.Goals as goal

pub returns : goal.returns
unfolding shape_of
returns c = ap (λ (r : Row). r.body) c.row_of.ensures
