-- `walk::walk_cut` meets its contract. The loop's invariant: the cells stand for the records met so far, and the walk from the place on, with
-- those that were noted, is the whole walk.
use native.Mathlib.Omega.{arith}
use Rattle.walk.proofs.Going.{going_start, going_few, step_on, step_onward, step_end, step_stop}
use Rattle.walk.proofs.Standing.{stands_start}
use Rattle.walk.proofs.walk_cut.Goals as goal

pub loop-at-init : goal.loop-at-init
loop-at-init c = going_start _ _ _ stands_start

pub step-stepped-requires : goal.step-stepped-requires
step-stepped-requires c = (c.requires, going_few _ _ _ _ c.loop-at.invariant)

pub loop-at-smaller : goal.loop-at-smaller
loop-at-smaller c = let o = step_onward _ _ _ _ c.loop-at.invariant _ _ c.step-stepped.ensures c.in-On.is in omega (arith, o.0, o.1)

pub loop-at-preserved : goal.loop-at-preserved
loop-at-preserved c = step_on _ _ _ _ c.loop-at.invariant _ _ c.step-stepped.ensures c.in-On.is

pub returns-in-End : goal.returns-in-End
returns-in-End c = step_end _ _ _ _ c.loop-at.invariant _ _ c.step-stepped.ensures c.in-End.is

pub returns-in-Stop : goal.returns-in-Stop
returns-in-Stop c = step_stop _ _ _ _ c.loop-at.invariant _ _ c.step-stepped.ensures _ c.in-Stop.is
