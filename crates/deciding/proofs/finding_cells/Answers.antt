-- `deciding::finding_cells` meets its contract: the loop's invariant is that the cells copied are what was found, and the first three stay.
use borrow.Author.Rules.{rules}
use mathlib.Core.Path.{refl, ◌∙◌}
use native.Mathlib.Omega.{arith}
use Rattle.deciding.proofs.Copying.{putting_start, putting_on, putting_end, place_by}
use Rattle.deciding.proofs.finding_cells.Goals as goal

pub loop-i-init : goal.loop-i-init
loop-i-init c = putting_start _ _ (search rules) refl

pub loop-i-preserved : goal.loop-i-preserved
loop-i-preserved c = putting_on c.loop-i.invariant (omega (arith, c.loop-i.invariant.copied.long))

pub returns : goal.returns
returns c =
    let x = c.args.finding in
    putting_end c.loop-i.invariant (omega (arith, c.loop-i.invariant.copied.long)) ∙ rw (place_by x.place x.stop, c.reason_of.ensures x.place)
