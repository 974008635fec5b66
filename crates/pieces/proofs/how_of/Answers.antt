-- `pieces::how_of` meets its contract: its tests are the definition's, in their order.
use Rattle.pieces.specs.Code.{how_of}
use Rattle.pieces.proofs.how_of.Goals as goal

pub returns-then-reached : goal.returns-then-reached
unfolding how_of
returns-then-reached c = rw c.if-reached.true

pub returns-then-more : goal.returns-then-more
unfolding how_of
returns-then-more c = rw (c.if-reached.false, c.if-more.true)

pub returns-then-closed : goal.returns-then-closed
unfolding how_of
returns-then-closed c = rw (c.if-reached.false, c.if-more.false, c.if-closed.true)

pub returns : goal.returns
unfolding how_of
returns c = rw (c.if-reached.false, c.if-more.false, c.if-closed.false)
