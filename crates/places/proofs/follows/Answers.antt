-- `places::follows` meets its contract: the records passed are of another kind.
use native.Mathlib.Omega.{arith}
use Rattle.places.proofs.Filling.{seeking_start, seeking_cut, seeking_end, seeking_one, seeking_other}
use Rattle.places.proofs.follows.Goals as goal

pub loop-at-init : goal.loop-at-init
loop-at-init c = seeking_start _ _ _ c.requires.0

pub overflow_add-body : goal.overflow_add-body
overflow_add-body c = omega (arith, c.loop-at.invariant.inside)

pub returns-then-covered-body : goal.returns-then-covered-body
returns-then-covered-body c = seeking_cut _ _ _ _ c.loop-at.invariant c.if-covered-body.true

pub overflow_add-here : goal.overflow_add-here
overflow_add-here c = omega (arith, c.loop-at.invariant.inside)

pub overflow_add-behind : goal.overflow_add-behind
overflow_add-behind c = omega (arith, c.loop-at.invariant.inside)

pub returns-then-covered-behind : goal.returns-then-covered-behind
returns-then-covered-behind c = seeking_end _ _ _ _ c.loop-at.invariant _ c.number_at-size.ensures c.if-covered-behind.true

pub returns-then-number_at-kind : goal.returns-then-number_at-kind
returns-then-number_at-kind c = seeking_one _ _ _ _ c.loop-at.invariant _ c.number_at-size.ensures _ c.number_at.ensures c.if-covered-behind.false c.if-number_at-kind.true

pub loop-at-smaller : goal.loop-at-smaller
loop-at-smaller c = omega (arith, c.if-covered-behind.false)

pub loop-at-preserved : goal.loop-at-preserved
loop-at-preserved c = seeking_other _ _ _ _ c.loop-at.invariant _ c.number_at-size.ensures _ c.number_at.ensures c.if-covered-behind.false c.if-number_at-kind.false
