-- `declining::write_no_protocol` meets its contract: the end record is put behind the empty list.
use mathlib.Core.Path.{refl}
use native.Mathlib.Omega.{arith}
use Rattle.wire.proofs.Over.{put_as, try_then}
use mathlib.Core.List.{[]}
use Rattle.messages.specs.Messages.{record_with, end_record}
use Rattle.layout.specs.Table.{row_of, bit_of}
use Rattle.layout.specs.Write.{word_of}
use Rattle.messages.proofs.Putting.{no_room, room}
use Rattle.declining.proofs.Laid.{laid_one}
use Rattle.declining.proofs.write_no_protocol.Goals as goal

pub returns-then-out : goal.returns-then-out
returns-then-out c = no_room _ _ _ c.if-out.true

pub returns : goal.returns
unfolding word_of bit_of row_of
returns c = room c.if-out.false (put_as (try_then (c.put_empty-at.ensures.room (omega arith)) c.put_empty.ensures c.if-out.false) refl (laid_one (record_with 1 []) end_record))
