-- `outgoing::put_options` meets its contract: each record is put into what the last left of the output.
use mathlib.Core.Path.{refl}
use native.Mathlib.Omega.{arith}
use mathlib.Core.List.{[]}
use Rattle.wire.proofs.Over.{put_as, tried_put, try_then}
use Rattle.messages.specs.Messages.{record_with, if_asked, server_record, port_record}
use Rattle.outgoing.proofs.Laid.{laid_options}
use Rattle.outgoing.proofs.put_options.Goals as goal

pub returns : goal.returns
returns c = let x = c.args.plan in let h = c.requires.1 in tried_put h (put_as (try_then (try_then (c.put_server-at1.ensures.room (omega (arith, h))) c.put_port.ensures (omega (arith, h))) c.put_keep_alive.ensures h) refl (laid_options (server_record x.name c.args.server.now) (port_record x.port) (if_asked x.keep_alive (record_with 8 []))))
