-- `record::fault_of` meets its contract: each arm knows the shape, and the definition computes at it.
use Rattle.record.specs.Record.{fault_of}
use Rattle.record.proofs.fault_of.Goals as goal

pub returns-in-Skipped : goal.returns-in-Skipped
unfolding fault_of
returns-in-Skipped c = rw c.in-Skipped.is c.whole_fault.ensures

pub returns-in-Numbers : goal.returns-in-Numbers
unfolding fault_of
returns-in-Numbers c = rw c.in-Numbers.is c.list_fault.ensures

pub returns-in-Number : goal.returns-in-Number
unfolding fault_of
returns-in-Number c = rw c.in-Number.is c.number_fault.ensures

pub returns-in-Bytes : goal.returns-in-Bytes
unfolding fault_of
returns-in-Bytes c = rw c.in-Bytes.is c.whole_fault-in-Bytes.ensures

pub returns-in-Name : goal.returns-in-Name
unfolding fault_of
returns-in-Name c = rw c.in-Name.is c.name_fault.ensures

pub returns-in-Pairs : goal.returns-in-Pairs
unfolding fault_of
returns-in-Pairs c = rw c.in-Pairs.is c.list_fault-in-Pairs.ensures

pub returns-in-Halves : goal.returns-in-Halves
unfolding fault_of
returns-in-Halves c = rw c.in-Halves.is c.halves_fault.ensures

pub returns-in-Unknown : goal.returns-in-Unknown
unfolding fault_of
returns-in-Unknown c = rw c.in-Unknown.is c.whole_fault-in-Unknown.ensures
