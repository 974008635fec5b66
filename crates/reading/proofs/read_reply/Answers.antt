-- `reading::read_reply` meets its contract: the cells of an accepted reply, or a refusal, whose place is not past a limit of sixteen bits.
use mathlib.Core.Path.{refl, sym, ap, ◌∙◌}
use native.Mathlib.Omega.{arith}
use Rattle.reply.specs.Reply.{told_answer}
use Rattle.reply.proofs.Within.{told_within}
use Rattle.cells.proofs.Lent.{given}
use Rattle.reading.specs.Read.{reply_given}
use Rattle.reading.proofs.read_reply.Goals as goal

pub refused-requires : goal.refused-requires
refused-requires c =
    let p = c.parse-read.ensures in
    let w = told_within _ _ _ _ _ (sym (ap told_answer c.in-Refused.is) ∙ p.says) in
    omega arith

pub returns-in-Accepted : goal.returns-in-Accepted
returns-in-Accepted c =
    let p = c.parse-read.ensures in
    record { gives = given (λ g. g) (c.reply_cells.ensures ∙ ap reply_given (sym (ap told_answer c.in-Accepted.is) ∙ p.says)) (record { says = refl; left = refl }); left = p.left }

pub returns-in-Refused : goal.returns-in-Refused
returns-in-Refused c =
    let p = c.parse-read.ensures in
    record { gives = given reply_given (sym (ap told_answer c.in-Refused.is) ∙ p.says) (record { says = c.refused.ensures; left = refl }); left = p.left }
