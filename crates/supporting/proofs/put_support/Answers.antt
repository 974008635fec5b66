-- `supporting::put_support` meets its contract: each record is put into what the last left of the output.
use mathlib.Core.Path.{refl}
use native.Mathlib.Omega.{arith}
use Rattle.wire.proofs.Over.{put_as, try_then}
use Rattle.layout.specs.Table.{row_of, bit_of}
use Rattle.layout.specs.Write.{word_of}
use Rattle.messages.specs.Messages.{support_length}
use Rattle.supporting.proofs.Laid.{laid_support}
use Rattle.supporting.proofs.put_support.Goals as goal

pub returns : goal.returns
unfolding support_length word_of bit_of row_of
returns c = let h = c.requires.2 in put_as (try_then (try_then (try_then (c.put_list_if-at1.ensures.room (omega (arith, h))) c.put_list_if.ensures (omega (arith, h))) c.put_keep_alive.ensures (omega (arith, h))) c.put_empty.ensures h) refl (laid_support c.args.asked c.args.pairs.now c.args.protocols.now)
