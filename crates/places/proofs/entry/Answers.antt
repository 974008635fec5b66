-- `places::entry` meets its contract: a cell past the table's end counts as 0.
use Prim.Native.Nat.{◌+◌, ◌*◌}
use native.Mathlib.Omega.{arith}
use lib.ListN.{get_or-eq_default}
use Rattle.places.proofs.entry.Goals as goal

pub overflow_cast-table : goal.overflow_cast-table
overflow_cast-table c = omega (arith, c.type_inv.table (2 * c.args.index))

pub overflow_cast-table-then-index-table : goal.overflow_cast-table-then-index-table
overflow_cast-table-then-index-table c = omega (arith, c.type_inv.table (2 * c.args.index + 1))

pub overflow_cast-table-then-index-table-2 : goal.overflow_cast-table-then-index-table-2
overflow_cast-table-then-index-table-2 c = omega (arith, c.type_inv.table (2 * c.args.index))

pub returns-then-index-table : goal.returns-then-index-table
returns-then-index-table c = c.part.ensures

pub returns-then-index-table-2 : goal.returns-then-index-table-2
returns-then-index-table-2 c =
    let a = c.args in
    rw (get_or-eq_default a.table.now 0 {n = 2 * a.index + 1} (omega arith)) c.part-then-index-table-2.ensures

pub returns : goal.returns
returns c =
    let a = c.args in
    let p = get_or-eq_default a.table.now 0 {n = 2 * a.index} (omega arith) in
    let q = get_or-eq_default a.table.now 0 {n = 2 * a.index + 1} (omega arith) in
    rw (p, q) c.part-2.ensures
