-- `pieces::is_broken` meets its contract: by its two tests.
use mathlib.Core.Path.{refl}
use borrow.Author.Tests.{lt-ltb, le-ltb}
use Rattle.pieces.specs.Code.{counts}
use Rattle.pieces.proofs.is_broken.Goals as goal

pub returns-then-room-connection : goal.returns-then-room-connection
unfolding counts
returns-then-room-connection c = rw (lt-ltb _ _ c.if-room-connection.true) refl

pub returns : goal.returns
unfolding counts
returns c = rw (le-ltb _ _ c.if-room-connection.false) refl
