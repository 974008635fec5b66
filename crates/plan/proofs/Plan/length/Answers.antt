-- `plan::Plan::length` meets its contract: what the walk counted is what the definition adds up.
use native.Mathlib.Omega.{arith}
use mathlib.Core.Path.{sym, ap, ◌∙◌}
use Rattle.plan.specs.Code.{told_tally}
use Rattle.plan.proofs.Counting.{few_of, length_broken, length_whole}
use Rattle.plan.proofs.Plan.length.Goals as goal

pub written_length-requires : goal.written_length-requires
written_length-requires c = let f = few_of _ _ _ _ (ap told_tally (sym c.in-Whole.is) ∙ c.cookies-tally.ensures) in (f.few, omega arith)

pub returns-in-Whole : goal.returns-in-Whole
returns-in-Whole c = length_whole _ _ _ _ _ (ap told_tally (sym c.in-Whole.is) ∙ c.cookies-tally.ensures) c.written_length.ensures

pub returns-in-Broken : goal.returns-in-Broken
returns-in-Broken c = length_broken _ _ (ap told_tally (sym c.in-Broken.is) ∙ c.cookies-tally.ensures)
