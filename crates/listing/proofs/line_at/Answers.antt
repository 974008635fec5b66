-- `listing::line_at` meets its contract: a record that reads has a line, and others follow it where the walk goes on.
use mathlib.Core.Path.{sym, ap, ◌∙◌}
use native.Mathlib.Omega.{arith}
use Rattle.record.specs.Told.{told_looked}
use Rattle.record.proofs.Read.{look_inside}
use Rattle.listing.proofs.Lines.{line_none, line_last, line_more}
use Rattle.listing.proofs.line_at.Goals as goal

pub returns-then-at-place : goal.returns-then-at-place
returns-then-at-place c = line_last _ _ _ _ (ap told_looked (sym c.in-Whole.is) ∙ c.look-answer.ensures) c.if-at-place.true

pub overflow_add-result : goal.overflow_add-result
overflow_add-result c = omega (arith, look_inside _ _ _ _ _ _ (ap told_looked (sym c.in-Whole.is) ∙ c.look-answer.ensures))

pub overflow_add-result-in-Whole : goal.overflow_add-result-in-Whole
overflow_add-result-in-Whole c = omega (arith, look_inside _ _ _ _ _ _ (ap told_looked (sym c.in-Whole.is) ∙ c.look-answer.ensures))

pub returns-else-at-place : goal.returns-else-at-place
returns-else-at-place c = line_more _ _ _ _ (ap told_looked (sym c.in-Whole.is) ∙ c.look-answer.ensures) c.if-at-place.false

pub returns-in-Refused : goal.returns-in-Refused
returns-in-Refused c = line_none _ _ _ _ (ap told_looked (sym c.in-Refused.is) ∙ c.look-answer.ensures)
