-- `handing::ntske_entry` meets its contract: the entry's two cells, as a part; past the table's end both count as 0.
use mathlib.Core.Path.{refl}
use Prim.Native.Nat.{◌+◌, ◌*◌}
use native.Mathlib.Omega.{arith}
use lib.ListN.{get_or-eq_default}
use Rattle.handing.proofs.ntske_entry.Goals as goal

pub returns-then-index-table : goal.returns-then-index-table
returns-then-index-table c = record { says = refl; left = rw (c.table_at.ensures, c.table_at-then-index-table.ensures) at c.handed_out.ensures }

pub returns : goal.returns
returns c =
    let a = c.args in
    let p = get_or-eq_default a.table.now 0 {n = 2 * a.index} (omega arith) in
    let q = get_or-eq_default a.table.now 0 {n = 2 * a.index + 1} (omega arith) in
    record { says = refl; left = rw (p, q) c.handed_out-2.ensures }
