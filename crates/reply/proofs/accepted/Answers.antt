-- `reply::accepted` meets its contract: field by field.
use mathlib.Core.Path.{ap, ◌∙◌}
use Rattle.layout.specs.Table.{row_of, shape_of}
use Rattle.walk.specs.Shown.{slot_of}
use Rattle.walk.specs.declared.Seen.{Seen}
use Rattle.reply.specs.Code.{number_in, sent_in, accepted_in}
use Rattle.reply.proofs.accepted.Goals as goal

pub returns : goal.returns
unfolding accepted_in slot_of shape_of row_of
returns c =
    let server = c.server_of-server.ensures ∙ ap (λ (x : Seen). sent_in x (record { start = x.start; len = x.len })) c.found.ensures in
    let port = c.port_of-port.ensures ∙ ap (λ (x : Seen). sent_in x (number_in c.args.message.now x)) c.found-2.ensures in
    cc (server, port, c.is_there-keep_alive.ensures)
