-- `deciding::finding_in` meets its contract: the loop's invariant is that what was copied are the cells behind the first three.
use borrow.Author.Rules.{rules}
use mathlib.Core.Path.{refl}
use native.Mathlib.Omega.{arith}
use Rattle.cells.specs.Cells.{cell}
use Rattle.deciding.proofs.Copying.{copying_start, copying_in, copying_end}
use Rattle.deciding.proofs.finding_in.Goals as goal

pub loop-i-init : goal.loop-i-init
loop-i-init c = copying_start _ _ refl

pub loop-i-preserved : goal.loop-i-preserved
loop-i-preserved c = copying_in c.loop-i.invariant (search rules)

pub returns : goal.returns
returns c =
    let found = copying_end c.loop-i.invariant (search rules) in
    let way = c.stop_in.ensures (cell c.args.cells 1) in
    λ i. record { limit = cell c.args.cells 0; cells = found i; way = way i }
