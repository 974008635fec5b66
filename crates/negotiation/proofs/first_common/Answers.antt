-- `negotiation::first_common` meets its contract: the loop's invariant is that the own list holds none of the numbers passed. The measure is
-- how many bytes are left.
use borrow.Author.Rules.{rules}
use mathlib.Core.Path.{sym, ◌∙◌}
use Rattle.negotiation.proofs.Searching.{choosing_start, choosing_none, choosing_found, choosing_on}
use Rattle.negotiation.proofs.first_common.Goals as goal

pub loop-at-init : goal.loop-at-init
loop-at-init c = choosing_start _ _

pub returns-then-list-at-lt2 : goal.returns-then-list-at-lt2
returns-then-list-at-lt2 c = choosing_none _ _ _ c.loop-at.invariant (search rules)

pub returns-then-has : goal.returns-then-has
returns-then-has c = choosing_found _ _ _ c.loop-at.invariant _ c.number_at-n.ensures (search rules) (sym c.if-has.true ∙ c.has.ensures)

pub loop-at-preserved : goal.loop-at-preserved
loop-at-preserved c = choosing_on _ _ _ c.loop-at.invariant _ c.number_at-n.ensures (search rules) (sym c.if-has.false ∙ c.has.ensures)
