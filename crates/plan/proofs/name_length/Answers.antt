-- `plan::name_length` meets its contract: it goes by the same cases as the definition.
use native.Mathlib.Omega.{arith}
use Rattle.plan.proofs.name_length.Goals as goal

pub returns-in-Bytes : goal.returns-in-Bytes
returns-in-Bytes c = (rw c.in-Bytes.is, omega arith)
