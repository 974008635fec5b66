-- `outgoing::put_port` meets its contract: each arm knows whether a port is planned.
use Rattle.layout.specs.Table.{row_of, bit_of}
use Rattle.layout.specs.Write.{word_of}
use Rattle.outgoing.proofs.Laid.{port_record_lem, no_port}
use Rattle.outgoing.proofs.put_port.Goals as goal

pub returns-in-Number : goal.returns-in-Number
unfolding word_of bit_of row_of
returns-in-Number c = port_record_lem _ _ _ c.in-Number.is c.put_one.ensures

pub returns-in-None : goal.returns-in-None
returns-in-None c = no_port _ _ c.in-None.is
