-- `outgoing::put_fields` meets its contract: the loop's invariant is that the records of the fields passed stand in the output.
use native.Mathlib.Omega.{arith}
use Rattle.messages.proofs.Putting.{within_rest}
use Rattle.outgoing.proofs.Laying.{laying_start, laying_end, laying_inside, laying_body, laying_on, laying_place, laying_long, laying_within, laying_onward, body_tried}
use Rattle.outgoing.proofs.put_fields.Goals as goal

pub loop-at-init : goal.loop-at-init
loop-at-init c = laying_start _ _ _ _ c.requires

pub overflow_add-at : goal.overflow_add-at
overflow_add-at c = omega (arith, c.loop-at.invariant.standing.fits, c.loop-at-test.true)

pub overflow_add-start : goal.overflow_add-start
overflow_add-start c = omega (arith, laying_inside _ _ _ _ _ _ _ c.loop-at.invariant c.loop-at-test.true _ c.number_at-size.ensures)

pub slice_bounds-put_body-count : goal.slice_bounds-put_body-count
slice_bounds-put_body-count c = laying_place _ _ _ _ _ _ _ c.loop-at.invariant

pub slice_bounds-put_body-start : goal.slice_bounds-put_body-start
slice_bounds-put_body-start c = laying_place _ _ _ _ _ _ _ c.loop-at.invariant

pub overflow_add-to : goal.overflow_add-to
overflow_add-to c = omega (arith, laying_long _ _ _ _ _ _ _ c.loop-at.invariant, within_rest c.loop-at.out c.loop-at.to _ (laying_place _ _ _ _ _ _ _ c.loop-at.invariant) c.put_body-to.ensures.within)

pub overflow_add-at-in-loop-at : goal.overflow_add-at-in-loop-at
overflow_add-at-in-loop-at c = omega (arith, laying_inside _ _ _ _ _ _ _ c.loop-at.invariant c.loop-at-test.true _ c.number_at-size.ensures)

pub loop-at-smaller : goal.loop-at-smaller
loop-at-smaller c = omega (arith, c.loop-at-test.true, laying_onward _ _ _ _ _ _ _ c.loop-at.invariant c.loop-at-test.true _ c.number_at-size.ensures)

pub loop-at-preserved : goal.loop-at-preserved
loop-at-preserved c = laying_on _ _ _ _ _ _ _ c.loop-at.invariant c.loop-at-test.true _ c.number_at-size.ensures _ _ (body_tried _ _ _ _ c.part.ensures.holds (laying_body _ _ _ _ _ _ _ c.loop-at.invariant c.loop-at-test.true _ c.number_at-size.ensures) (omega arith) c.put_body-to.ensures)

pub shape_of-out : goal.shape_of-out
shape_of-out c = laying_long _ _ _ _ _ _ _ c.loop-at.invariant

pub returns : goal.returns
returns c = (laying_within _ _ _ _ _ _ _ c.loop-at.invariant, laying_end _ _ _ _ _ _ _ c.loop-at.invariant c.loop-at-test.false)
