-- `plan::cookies` meets its contract: of a tray whose fields are cookies, their number decides.
use native.Mathlib.Omega.{arith}
use mathlib.Core.Path.{sym, ap, ◌∙◌}
use Rattle.plan.specs.Code.{told_tally}
use Rattle.plan.proofs.Counting.{cookies_broken, cookies_many, cookies_few}
use Rattle.plan.proofs.cookies.Goals as goal

pub returns-in_default : goal.returns-in_default
returns-in_default c = ap told_tally c.in_default.is ∙ cookies_broken _ _ (ap told_tally (sym c.in_default.is) ∙ c.walk_tray-tally.ensures)

pub returns-then-whole-gt-COOKIES : goal.returns-then-whole-gt-COOKIES
returns-then-whole-gt-COOKIES c = cookies_many _ _ _ _ (ap told_tally (sym c.in-Whole.is) ∙ c.walk_tray-tally.ensures) (omega arith)

pub returns : goal.returns
returns c = cookies_few _ _ _ _ (ap told_tally (sym c.in-Whole.is) ∙ c.walk_tray-tally.ensures) (omega arith)
