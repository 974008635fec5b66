-- `listing::put_lines` meets its contract. The loop's invariant: what is written so far, with the lines from here on, is all the lines.
-- The measure is what is left of the message.
use native.Mathlib.Omega.{arith}
use Rattle.listing.proofs.Passes.{writing_start, writing_none, writing_last, writing_on}
use Rattle.listing.proofs.put_lines.Goals as goal

pub loop-x-init : goal.loop-x-init
loop-x-init c = writing_start _ _ _ c.requires.0

pub returns-in-None : goal.returns-in-None
returns-in-None c = writing_none c.requires.1 c.loop-x.invariant c.line_at-line.ensures c.in-None.is

pub returns-in-Last : goal.returns-in-Last
returns-in-Last c = writing_last c.requires.1 c.loop-x.invariant c.line_at-line.ensures _ c.in-Last.is c.put_line.ensures

pub loop-x-smaller : goal.loop-x-smaller
loop-x-smaller c = omega (arith, c.line_at-line.ensures.onward _ _ c.in-More.is)

pub loop-x-preserved : goal.loop-x-preserved
loop-x-preserved c = writing_on c.requires.1 c.loop-x.invariant c.line_at-line.ensures _ _ c.in-More.is c.put_line-to.ensures
