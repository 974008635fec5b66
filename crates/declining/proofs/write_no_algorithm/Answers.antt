-- `declining::write_no_algorithm` meets its contract: each record is put into what the last left of the output.
use mathlib.Core.Path.{refl}
use native.Mathlib.Omega.{arith}
use Rattle.wire.proofs.Over.{put_as, try_then}
use mathlib.Core.List.{[]}
use Rattle.wire.specs.Over.{bytes_of}
use Rattle.messages.specs.Messages.{record_with, end_record}
use Rattle.layout.specs.Table.{row_of, bit_of}
use Rattle.layout.specs.Write.{word_of}
use Rattle.messages.proofs.Putting.{no_room, room}
use Rattle.declining.proofs.Laid.{laid_two}
use Rattle.declining.proofs.write_no_algorithm.Goals as goal

pub returns-then-out : goal.returns-then-out
returns-then-out c = no_room _ _ _ c.if-out.true

pub returns : goal.returns
unfolding word_of bit_of row_of
returns c = room c.if-out.false (put_as (try_then (try_then (c.put_one-at.ensures.room (omega arith)) c.put_empty.ensures (omega (arith, c.if-out.false))) c.put_empty-2.ensures c.if-out.false) refl (laid_two (record_with 1 (bytes_of c.args.protocol.0)) (record_with 4 []) end_record))
