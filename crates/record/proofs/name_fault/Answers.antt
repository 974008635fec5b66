-- `record::name_fault` meets its contract: it puts the two faults in the definition's order.
use Rattle.record.specs.Record.{not_name}
use Rattle.record.proofs.name_fault.Goals as goal

pub returns : goal.returns
unfolding not_name
returns c = cc
