-- `outgoing::put_request` meets its contract: each record is put into what the last left of the output.
use mathlib.Core.Path.{sym, ap, ◌∙◌}
use native.Mathlib.Omega.{arith}
use mathlib.Core.List.{List, map}
use Prim.Native.Nat.{ℕ}
use Rattle.wire.proofs.Over.{put_as, rest_room, put_then, try_then}
use Rattle.layout.specs.Table.{row_of, bit_of}
use Rattle.layout.specs.Write.{word_of}
use Rattle.plan.specs.Tray.{names_in}
use Rattle.messages.specs.Messages.{record_with, cell_bytes, end_record, message_of, request_records, request_length}
use Rattle.messages.proofs.Putting.{list_tried}
use Rattle.outgoing.proofs.Laid.{laid_lists, same_held}
use Rattle.outgoing.proofs.put_request.Goals as goal

pub put_fields-requires : goal.put_fields-requires
unfolding request_length names_in
put_fields-requires c = let a = c.args in let p = c.requires in let h = p.4 in (2, p.0, p.1, rest_room (try_then ((list_tried _ a.protocols.now p.2 c.put_list-at1.ensures).room (omega (arith, h))) (list_tried _ a.algorithms.now p.3 c.put_list.ensures) (omega (arith, h))) (omega (arith, h)))

pub returns : goal.returns
unfolding request_length word_of bit_of row_of names_in
returns c = λ l e. let a = c.args in let p = c.requires in let h = p.4 in let s = same_held p.0 l (sym p.1 ∙ e) in put_as (try_then (put_then (try_then ((list_tried _ a.protocols.now p.2 c.put_list-at1.ensures).room (omega (arith, h))) (list_tried _ a.algorithms.now p.3 c.put_list.ensures) (omega (arith, h))) (c.put_fields.ensures.1 2 p.0 p.1) (omega (arith, h))) c.put_empty.ensures h) (ap (request_length a.protocols.now a.algorithms.now) s) (laid_lists (record_with 1 (cell_bytes a.protocols.now)) (record_with 4 (cell_bytes a.algorithms.now)) (map (record_with 13) p.0) end_record ∙ ap (λ (k : List (List ℕ)). message_of (request_records a.protocols.now a.algorithms.now k)) s)
