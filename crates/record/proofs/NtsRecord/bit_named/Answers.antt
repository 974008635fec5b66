-- `record::NtsRecord::bit_named` meets its contract: it is the bit of the kind's row.
use mathlib.Core.Path.{ap}
use Rattle.layout.specs.declared.Row.{Row}
use Rattle.record.proofs.NtsRecord.bit_named.Goals as goal

pub returns : goal.returns
returns c = ap (λ (r : Row). r.bit) c.row_of.ensures
