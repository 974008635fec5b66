-- `record::first_of` meets its contract: each arm knows the fault, and the definition computes at it.
use Rattle.record.specs.Record.{first_of}
use Rattle.record.proofs.first_of.Goals as goal

pub returns-in-None : goal.returns-in-None
unfolding first_of
returns-in-None c = rw c.in-None.is

pub returns-in-Short : goal.returns-in-Short
unfolding first_of
returns-in-Short c = rw c.in-Short.is

pub returns-in-IllFormed : goal.returns-in-IllFormed
unfolding first_of
returns-in-IllFormed c = rw c.in-IllFormed.is
