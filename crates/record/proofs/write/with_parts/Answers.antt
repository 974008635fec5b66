-- `record::write::with_parts` meets its contract: shape and bit are the table's by the two calls.
use Rattle.record.proofs.write.with_parts.Goals as goal

pub returns : goal.returns
returns c = cc
