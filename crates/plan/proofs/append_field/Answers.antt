-- `plan::append_field` meets its contract: where there is room, the field is put behind the used part.
use native.Mathlib.Omega.{arith}
use Rattle.plan.proofs.Appending.{field_tight, field_done}
use Rattle.plan.proofs.append_field.Goals as goal

pub returns-then-tray-used : goal.returns-then-tray-used
returns-then-tray-used c = field_tight _ _ c.args.body.now _ (omega arith)

pub returns : goal.returns
returns c = field_done _ _ _ _ _ _ (omega arith) c.put_field-written.ensures
