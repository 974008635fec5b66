-- `cells::give_count` meets its contract: each arm knows what the call answered.
use mathlib.Core.Path.{refl}
use Rattle.cells.proofs.give_count.Goals as goal

pub returns-in-Bytes : goal.returns-in-Bytes
returns-in-Bytes c = rw c.in-Bytes.is (record { says = refl; left = refl })

pub returns-in-Refused : goal.returns-in-Refused
returns-in-Refused c = rw c.in-Refused.is (record { says = c.refused.ensures; left = refl })
