-- `messages::put_one` meets its contract: the number is put into what the header leaves of the output.
use mathlib.Core.Path.{refl}
use native.Mathlib.Omega.{arith}
use Rattle.wire.specs.Over.{bytes_of}
use Rattle.wire.proofs.Over.{tried_not, tried_put}
use Rattle.messages.proofs.Putting.{body_record}
use Rattle.messages.proofs.put_one.Goals as goal

pub returns-then-out-lt-NUMBER_RECORD : goal.returns-then-out-lt-NUMBER_RECORD
returns-then-out-lt-NUMBER_RECORD c = tried_not c.if-out-lt-NUMBER_RECORD.true

pub returns : goal.returns
unfolding bytes_of
returns c = tried_put c.if-out-lt-NUMBER_RECORD.false (body_record _ (c.put_header-at.ensures.room (omega arith)) refl c.put_number.ensures (omega arith))
