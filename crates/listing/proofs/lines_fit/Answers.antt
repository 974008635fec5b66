-- `listing::lines_fit` meets its contract. The loop's invariant: what the lines passed so far took of the room is their length. The measure
-- is what is left of the message.
use native.Mathlib.Omega.{arith}
use Rattle.listing.proofs.Passes.{fitting_start, fits_none, fits_last, fits_not, fits_on}
use Rattle.listing.proofs.lines_fit.Goals as goal

pub loop-x-init : goal.loop-x-init
loop-x-init c = fitting_start _ _ _ c.requires

pub returns-in-None : goal.returns-in-None
returns-in-None c = fits_none c.loop-x.invariant c.line_at-line.ensures c.in-None.is

pub returns-in-Last : goal.returns-in-Last
returns-in-Last c = fits_last c.loop-x.invariant c.line_at-line.ensures _ _ c.in-Last.is c.line_length.ensures

pub returns-then-left-n : goal.returns-then-left-n
returns-then-left-n c = fits_not c.loop-x.invariant c.line_at-line.ensures _ _ _ c.in-More.is c.line_length-n.ensures c.if-left-n.true

pub loop-x-smaller : goal.loop-x-smaller
loop-x-smaller c = omega (arith, c.line_at-line.ensures.onward _ _ c.in-More.is)

pub loop-x-preserved : goal.loop-x-preserved
loop-x-preserved c = fits_on c.loop-x.invariant c.line_at-line.ensures _ _ _ c.in-More.is c.line_length-n.ensures c.if-left-n.false
