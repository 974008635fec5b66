-- `outgoing::write_request` meets its contract: what was judged is put.
use mathlib.Core.Path.{sym, ap, ◌∙◌}
use native.Mathlib.Omega.{arith}
use Rattle.wire.proofs.Over.{put_as}
use Rattle.layout.specs.Write.{told_count}
use Rattle.plan.specs.Tray.{Fields}
use Rattle.messages.specs.Messages.{bodies_of, message_of, request_records}
use Rattle.messages.proofs.Putting.{judged_no, judged_short, judged_room}
use Rattle.messages.proofs.Cleared.{request_cleared}
use Rattle.outgoing.proofs.write_request.Goals as goal

pub returns-in_default : goal.returns-in_default
returns-in_default c = judged_no _ _ _ _ _ c.request_length-checked.ensures c.in_default.is

pub returns-then-out-n : goal.returns-then-out-n
returns-then-out-n c = judged_short _ _ _ _ _ c.request_length-checked.ensures c.in-Bytes.is c.if-out-n.true

pub put_request-requires : goal.put_request-requires
put_request-requires c = let k = request_cleared _ _ _ _ (sym c.request_length-checked.ensures ∙ ap told_count c.in-Bytes.is) in (k.bodies, k.are, k.short, k.short_2, omega (arith, k.long, c.if-out-n.false))

pub returns : goal.returns
returns c = let k = request_cleared _ _ _ _ (sym c.request_length-checked.ensures ∙ ap told_count c.in-Bytes.is) in judged_room _ _ _ c.request_length-checked.ensures c.in-Bytes.is c.if-out-n.false (put_as (c.put_request.ensures k.bodies k.are) (sym k.long) (ap (λ (f : Fields). message_of (request_records c.args.protocols.now c.args.algorithms.now (bodies_of f))) (sym k.are)))
