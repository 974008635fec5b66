-- `places::store` meets its contract: the cells written are those of the records passed.
use native.Mathlib.Omega.{arith}
use lib.ListN.{length-set}
use Rattle.places.proofs.Filling.{passing_start, passing_all, passing_cut, passing_end, passing_room, passing_one, passing_other}
use Rattle.places.proofs.store.Goals as goal

pub loop-n-init : goal.loop-n-init
loop-n-init c = passing_start _ _ _ _

pub shape_of-table-then-n-count : goal.shape_of-table-then-n-count
shape_of-table-then-n-count c = c.loop-n.invariant.long

pub returns-then-n-count : goal.returns-then-n-count
returns-then-n-count c = passing_all _ _ _ _ _ _ _ c.loop-n.invariant c.if-n-count.true

pub overflow_add-start : goal.overflow_add-start
overflow_add-start c = omega (arith, c.loop-n.invariant.inside)

pub shape_of-table-then-covered-start : goal.shape_of-table-then-covered-start
shape_of-table-then-covered-start c = c.loop-n.invariant.long

pub returns-then-covered-start : goal.returns-then-covered-start
returns-then-covered-start c = passing_cut _ _ _ _ _ _ _ c.loop-n.invariant c.if-covered-start.true

pub overflow_add-at : goal.overflow_add-at
overflow_add-at c = omega (arith, c.loop-n.invariant.inside)

pub overflow_add-next : goal.overflow_add-next
overflow_add-next c = omega (arith, c.loop-n.invariant.inside)

pub shape_of-table-then-covered-next : goal.shape_of-table-then-covered-next
shape_of-table-then-covered-next c = c.loop-n.invariant.long

pub returns-then-covered-next : goal.returns-then-covered-next
returns-then-covered-next c = passing_end _ _ _ _ _ _ _ c.loop-n.invariant _ c.number_at-size.ensures c.if-covered-next.true

pub overflow_mul-to : goal.overflow_mul-to
overflow_mul-to c = omega (arith, passing_room _ _ _ _ _ _ _ c.loop-n.invariant c.if-n-count.false c.requires.1)

pub overflow_add-behind : goal.overflow_add-behind
overflow_add-behind c = omega (arith, passing_room _ _ _ _ _ _ _ c.loop-n.invariant c.if-n-count.false c.requires.1)

pub overflow_cast-table : goal.overflow_cast-table
overflow_cast-table c = omega (arith, c.if-covered-next.false)

pub offset_bounds-table-to : goal.offset_bounds-table-to
offset_bounds-table-to c = omega (arith, passing_room _ _ _ _ _ _ _ c.loop-n.invariant c.if-n-count.false c.requires.1)

pub bounds-table-to : goal.bounds-table-to
bounds-table-to c = omega (arith, passing_room _ _ _ _ _ _ _ c.loop-n.invariant c.if-n-count.false c.requires.1)

pub offset_bounds-table-behind : goal.offset_bounds-table-behind
offset_bounds-table-behind c = omega (arith, passing_room _ _ _ _ _ _ _ c.loop-n.invariant c.if-n-count.false c.requires.1)

pub bounds-table-behind : goal.bounds-table-behind
bounds-table-behind c = simp length-set (omega (arith, passing_room _ _ _ _ _ _ _ c.loop-n.invariant c.if-n-count.false c.requires.1))

pub overflow_add-n : goal.overflow_add-n
overflow_add-n c = omega (arith, passing_room _ _ _ _ _ _ _ c.loop-n.invariant c.if-n-count.false c.requires.1)

pub loop-n-smaller-then-number_at-kind : goal.loop-n-smaller-then-number_at-kind
loop-n-smaller-then-number_at-kind c = omega (arith, c.if-covered-next.false)

pub loop-n-preserved-then-number_at-kind : goal.loop-n-preserved-then-number_at-kind
loop-n-preserved-then-number_at-kind c = passing_one _ _ _ _ _ _ _ c.loop-n.invariant _ c.number_at-size.ensures _ c.number_at.ensures c.if-covered-next.false c.if-number_at-kind.true c.if-n-count.false c.requires.1

pub loop-n-smaller : goal.loop-n-smaller
loop-n-smaller c = omega (arith, c.if-covered-next.false)

pub loop-n-preserved : goal.loop-n-preserved
loop-n-preserved c = passing_other _ _ _ _ _ _ _ c.loop-n.invariant _ c.number_at-size.ensures _ c.number_at.ensures c.if-covered-next.false c.if-number_at-kind.false
