-- `handing::table_at` meets its contract: past the end a list reads as the default.
use mathlib.Core.Path.{sym}
use native.Mathlib.Omega.{arith}
use lib.ListN.{get_or-eq_default}
use Rattle.handing.proofs.table_at.Goals as goal

pub returns : goal.returns
returns c = sym (get_or-eq_default c.args.table.now 0 c.if-i-table.false)

pub overflow_cast-result : goal.overflow_cast-result
overflow_cast-result c = omega (arith, c.type_inv.table c.args.i)
