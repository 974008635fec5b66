-- `messages::put_cells` meets its contract: the loop's invariant is that the first cells stand in the output.
use native.Mathlib.Omega.{arith}
use Rattle.messages.proofs.Putting.{cells_start, cells_end, cells_on, cells_place, cells_long, within_rest}
use Rattle.messages.proofs.put_cells.Goals as goal

pub loop-i-init : goal.loop-i-init
loop-i-init c = cells_start _ _ c.requires

pub slice_bounds-put_number-count : goal.slice_bounds-put_number-count
slice_bounds-put_number-count c = omega (arith, cells_place _ _ _ _ _ c.loop-i.invariant)

pub slice_bounds-put_number-start : goal.slice_bounds-put_number-start
slice_bounds-put_number-start c = omega (arith, cells_place _ _ _ _ _ c.loop-i.invariant)

pub overflow_add-at : goal.overflow_add-at
overflow_add-at c = omega (arith, cells_long _ _ _ _ _ c.loop-i.invariant, within_rest c.loop-i.out c.loop-i.at _ (cells_place _ _ _ _ _ c.loop-i.invariant) c.put_number-at.ensures.within)

pub loop-i-smaller : goal.loop-i-smaller
loop-i-smaller c = omega (arith, c.loop-i-test.true)

pub loop-i-preserved : goal.loop-i-preserved
loop-i-preserved c = cells_on _ _ _ _ _ c.loop-i.invariant _ _ c.loop-i-test.true c.put_number-at.ensures

pub shape_of-out : goal.shape_of-out
shape_of-out c = cells_long _ _ _ _ _ c.loop-i.invariant

pub returns : goal.returns
returns c = cells_end _ _ _ _ _ c.loop-i.invariant c.loop-i-test.false
