-- `walk::found` meets its contract: three cells from the kind's place on.
use mathlib.Core.Path.{ap}
use native.Mathlib.Omega.{arith}
use Rattle.walk.specs.Found.{entry_in}
use Rattle.walk.proofs.Looking.{slot_within}
use Rattle.walk.proofs.found.Goals as goal

pub overflow_mul-c : goal.overflow_mul-c
overflow_mul-c c = omega (arith, slot_within _ _ c.slot_of-c.ensures)

pub overflow_add-d : goal.overflow_add-d
overflow_add-d c = omega (arith, slot_within _ _ c.slot_of-c.ensures)

pub overflow_add-e : goal.overflow_add-e
overflow_add-e c = omega (arith, slot_within _ _ c.slot_of-c.ensures)

pub offset_bounds-cells-c : goal.offset_bounds-cells-c
offset_bounds-cells-c c = omega (arith, slot_within _ _ c.slot_of-c.ensures)

pub bounds-cells-c : goal.bounds-cells-c
bounds-cells-c c = omega (arith, slot_within _ _ c.slot_of-c.ensures)

pub offset_bounds-cells-d : goal.offset_bounds-cells-d
offset_bounds-cells-d c = omega (arith, slot_within _ _ c.slot_of-c.ensures)

pub bounds-cells-d : goal.bounds-cells-d
bounds-cells-d c = omega (arith, slot_within _ _ c.slot_of-c.ensures)

pub offset_bounds-cells-e : goal.offset_bounds-cells-e
offset_bounds-cells-e c = omega (arith, slot_within _ _ c.slot_of-c.ensures)

pub bounds-cells-e : goal.bounds-cells-e
bounds-cells-e c = omega (arith, slot_within _ _ c.slot_of-c.ensures)

pub returns : goal.returns
returns c = ap (entry_in c.args.cells.now) c.slot_of-c.ensures
