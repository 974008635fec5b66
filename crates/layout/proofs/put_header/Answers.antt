-- `layout::put_header` meets its contract: with room for both, one number is put after the other.
use native.Mathlib.Omega.{arith}
use Rattle.layout.specs.Write.{header}
use Rattle.wire.proofs.Over.{try_then, tried_not, tried_put}
use Rattle.layout.proofs.put_header.Goals as goal

pub returns-then-out-lt-HEADER : goal.returns-then-out-lt-HEADER
returns-then-out-lt-HEADER c = tried_not c.if-out-lt-HEADER.true

pub returns : goal.returns
unfolding header
returns c = tried_put (omega arith) (try_then (c.put_number-at.ensures.room (omega arith)) c.put_number.ensures (omega arith))
