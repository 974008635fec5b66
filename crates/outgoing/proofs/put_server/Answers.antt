-- `outgoing::put_server` meets its contract: each arm knows whether a name is planned.
use native.Mathlib.Omega.{arith}
use Rattle.layout.specs.Table.{row_of, bit_of}
use Rattle.layout.specs.Write.{word_of}
use Rattle.outgoing.proofs.Laid.{server_record_lem, no_server}
use Rattle.outgoing.proofs.put_server.Goals as goal

pub returns-in-Bytes : goal.returns-in-Bytes
unfolding word_of bit_of row_of
returns-in-Bytes c = server_record_lem _ _ _ _ c.in-Bytes.is c.requires (omega arith) c.put_body.ensures

pub returns-in-None : goal.returns-in-None
returns-in-None c = no_server _ _ _ c.in-None.is
