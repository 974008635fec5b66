-- `pieces::judge_rest` meets its contract: it is the walk over what is left of the part, each place told from the front of the bytes held.
use mathlib.Core.Path.{sym, ap, ◌∙◌}
use native.Mathlib.Omega.{arith}
use Rattle.pieces.specs.Code.{told_scanned}
use Rattle.pieces.proofs.Joining.{rest_through, rest_decides, rest_place, rest_waits}
use Rattle.pieces.proofs.judge_rest.Goals as goal

pub overflow_add-result : goal.overflow_add-result
overflow_add-result c =
    let i = rest_through (record { profile = c.args.profile; entries = c.args.rules.now }) c.args.front c.args.how c.args.part.now c.args.from c.requires.0
    _ _ _ (ap told_scanned (sym c.in-Decides.is) ∙ c.scan-scanned.ensures) in
    omega (arith, i.0, c.requires.1)

pub overflow_add-result-in-Decides : goal.overflow_add-result-in-Decides
overflow_add-result-in-Decides c =
    let i = rest_through (record { profile = c.args.profile; entries = c.args.rules.now }) c.args.front c.args.how c.args.part.now c.args.from c.requires.0
    _ _ _ (ap told_scanned (sym c.in-Decides.is) ∙ c.scan-scanned.ensures) in
    omega (arith, i.1, c.requires.1)

pub overflow_add-result-in-Waits-2 : goal.overflow_add-result-in-Waits-2
overflow_add-result-in-Waits-2 c =
    let i = rest_place (record { profile = c.args.profile; entries = c.args.rules.now }) c.args.front c.args.how c.args.part.now c.args.from c.requires.0
    _ _ (ap told_scanned (sym c.in-Waits.is) ∙ c.scan-scanned.ensures) in
    omega (arith, i, c.requires.1)

pub returns-in-Decides : goal.returns-in-Decides
returns-in-Decides c =
    rest_decides (record { profile = c.args.profile; entries = c.args.rules.now }) c.args.front c.args.how c.args.part.now c.args.from c.requires.0
    _ _ _ (ap told_scanned (sym c.in-Decides.is) ∙ c.scan-scanned.ensures)

pub returns-in-Waits : goal.returns-in-Waits
returns-in-Waits c =
    rest_waits (record { profile = c.args.profile; entries = c.args.rules.now }) c.args.front c.args.how c.args.part.now c.args.from c.requires.0
    _ _ (ap told_scanned (sym c.in-Waits.is) ∙ c.scan-scanned.ensures)
