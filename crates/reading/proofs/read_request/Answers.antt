-- `reading::read_request` meets its contract: the cells of an accepted request, or a refusal, whose place is not past a limit of sixteen bits.
use mathlib.Core.Path.{refl, sym, ap, ◌∙◌}
use native.Mathlib.Omega.{arith}
use Rattle.request.specs.Request.{told_answer}
use Rattle.request.proofs.Within.{told_within}
use Rattle.cells.proofs.Lent.{given}
use Rattle.reading.specs.Read.{request_given}
use Rattle.reading.proofs.read_request.Goals as goal

pub refused-requires : goal.refused-requires
refused-requires c =
    let p = c.parse-read.ensures in
    let w = told_within _ _ _ _ _ (sym (ap told_answer c.in-Refused.is) ∙ p.says) in
    omega arith

pub returns-in-Accepted : goal.returns-in-Accepted
returns-in-Accepted c =
    let p = c.parse-read.ensures in
    record { gives = given (λ g. g) (c.request_cells.ensures ∙ ap request_given (sym (ap told_answer c.in-Accepted.is) ∙ p.says)) (record { says = refl; left = refl }); left = p.left }

pub returns-in-Refused : goal.returns-in-Refused
returns-in-Refused c =
    let p = c.parse-read.ensures in
    record { gives = given request_given (sym (ap told_answer c.in-Refused.is) ∙ p.says) (record { says = c.refused.ensures; left = refl }); left = p.left }
