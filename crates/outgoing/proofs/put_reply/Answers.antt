-- `outgoing::put_reply` meets its contract: each record is put into what the last left of the output.
use mathlib.Core.Path.{sym, ap, ◌∙◌}
use native.Mathlib.Omega.{arith}
use mathlib.Core.List.{List, [], map}
use Prim.Native.Nat.{ℕ}
use Rattle.wire.specs.Over.{bytes_of}
use Rattle.wire.proofs.Over.{put_as, rest_room, put_then, try_then}
use Rattle.layout.specs.Table.{row_of, bit_of}
use Rattle.layout.specs.Write.{word_of}
use Rattle.plan.specs.Plan.{reply_length}
use Rattle.plan.proofs.Counting.{cookies_are}
use Rattle.messages.specs.Messages.{record_with, if_asked, end_record, message_of, server_record, port_record, reply_records}
use Rattle.outgoing.proofs.Laid.{laid_reply, same_held}
use Rattle.outgoing.proofs.put_reply.Goals as goal

pub put_options-requires : goal.put_options-requires
unfolding reply_length
put_options-requires c = let h = c.requires.3 in (c.requires.2, rest_room (try_then (c.put_one-at1.ensures.room (omega (arith, h))) c.put_one.ensures (omega (arith, h))) (omega (arith, h)))

pub put_fields-requires : goal.put_fields-requires
unfolding reply_length
put_fields-requires c = let p = c.requires in let h = p.3 in (1, p.0, (cookies_are _ _ p.0 p.1).are, rest_room (try_then (try_then (c.put_one-at1.ensures.room (omega (arith, h))) c.put_one.ensures (omega (arith, h))) c.put_options.ensures (omega (arith, h))) (omega (arith, h)))

pub returns : goal.returns
unfolding reply_length word_of bit_of row_of
returns c = λ l e. let a = c.args in let p = c.requires in let h = p.3 in let s = same_held p.0 l (sym p.1 ∙ e) in put_as (try_then (put_then (try_then (try_then (c.put_one-at1.ensures.room (omega (arith, h))) c.put_one.ensures (omega (arith, h))) c.put_options.ensures (omega (arith, h))) (c.put_fields.ensures.1 1 p.0 (cookies_are _ _ p.0 p.1).are) (omega (arith, h))) c.put_empty.ensures (omega (arith, h))) ((omega arith) ∙ ap (reply_length a.plan) s) (laid_reply (record_with 1 (bytes_of a.plan.protocol.0)) (record_with 4 (bytes_of a.plan.algorithm.0)) (server_record a.plan.name a.server.now) (port_record a.plan.port) (if_asked a.plan.keep_alive (record_with 8 [])) (map (record_with 5) p.0) end_record ∙ ap (λ (k : List (List ℕ)). message_of (reply_records a.plan a.server.now k)) s)
