-- `pieces::how_after` meets its contract: its tests are the definition's.
use mathlib.Core.Bool.{or-true}
use borrow.Author.Tests.{lt-ltb, le-ltb, eq-eqb, ne_eqb}
use Rattle.pieces.specs.Pieces.{how_after}
use Rattle.pieces.proofs.how_after.Goals as goal

pub returns-then-through-long : goal.returns-then-through-long
unfolding how_after
returns-then-through-long c = rw (lt-ltb _ _ c.if-through-long.true)

pub returns-then-through-limit : goal.returns-then-through-limit
unfolding how_after
returns-then-through-limit c = rw (le-ltb _ _ c.if-through-long.false, eq-eqb _ _ c.if-through-limit.true)

pub returns-then-closed : goal.returns-then-closed
unfolding how_after
returns-then-closed c = rw (le-ltb _ _ c.if-through-long.false, c.if-closed.true, or-true)

pub returns : goal.returns
unfolding how_after
returns c = rw (le-ltb _ _ c.if-through-long.false, ne_eqb _ _ c.if-through-limit.false, c.if-closed.false)
