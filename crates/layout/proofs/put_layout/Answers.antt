-- `layout::put_layout` meets its contract: the body is put into what the header leaves of the output.
use native.Mathlib.Omega.{arith}
use Rattle.wire.proofs.Over.{rest_room}
use Rattle.layout.proofs.Writing.{sound, parts_fit, put_record}
use Rattle.layout.proofs.put_layout.Goals as goal

pub word_of-word-requires : goal.word_of-word-requires
word_of-word-requires c = (sound _ _ c.requires.0).kind

pub body_size-size-requires : goal.body_size-size-requires
body_size-size-requires c = parts_fit _ c.args.source.now (omega arith) c.requires.0

pub put_body-requires : goal.put_body-requires
put_body-requires c = (c.requires.0, rest_room (c.put_header-at.ensures.room (omega arith)) c.requires.2)

pub returns : goal.returns
returns c = put_record _ _ c.word_of-word.ensures c.body_size-size.ensures (c.put_header-at.ensures.room (omega arith)) c.put_body.ensures c.requires.2
