-- `deciding::ntske_decide_request` meets its contract: 9 for a reason that no walk has, and otherwise what is decided from the finding that the cells tell; a
-- refusal's place is not past a limit of sixteen bits.
use mathlib.Core.Path.{refl, sym, ap, ◌∙◌}
use native.Mathlib.Omega.{arith}
use Rattle.request.specs.Request.{told_answer}
use Rattle.reading.specs.Read.{request_given}
use Rattle.deciding.proofs.Refusing.{decided_within}
use Rattle.deciding.proofs.Deciding.{decides_none, decides}
use Rattle.deciding.proofs.ntske_decide_request.Goals as goal

pub returns-then-finding-gt-REASONS : goal.returns-then-finding-gt-REASONS
returns-then-finding-gt-REASONS c = decides_none c.args.finding.now _ _ _ c.if-finding-gt-REASONS.true c.refused.ensures

pub refused-requires-in-Refused : goal.refused-requires-in-Refused
refused-requires-in-Refused c =
    let w = decided_within _ _ _ _ (sym (ap told_answer c.in-Refused.is) ∙ c.decide.ensures.says) in
    omega arith

pub returns-in-Accepted : goal.returns-in-Accepted
returns-in-Accepted c =
    decides c.args.finding.now _ _ c.finding_in.ensures c.decide.ensures
    (c.request_cells.ensures ∙ ap request_given (sym (ap told_answer c.in-Accepted.is))) (record { says = refl; left = refl })

pub returns-in-Refused : goal.returns-in-Refused
returns-in-Refused c =
    decides c.args.finding.now _ _ c.finding_in.ensures c.decide.ensures
    (sym (ap (λ x. request_given (told_answer x)) c.in-Refused.is)) (record { says = c.refused-in-Refused.ensures; left = refl })
