-- `record::NtsRecord::serialize` meets its contract: the record laid out is written.
use Rattle.record.proofs.NtsRecord.serialize.Goals as goal

pub returns : goal.returns
returns c = rw c.layout_of.ensures at c.write.ensures
