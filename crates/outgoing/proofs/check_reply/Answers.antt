-- `outgoing::check_reply` meets its contract: each return is the definition's for what was found before it.
use mathlib.Core.Path.{sym, ap, ◌∙◌}
use Rattle.layout.specs.Write.{told_count}
use Rattle.outgoing.proofs.Judging.{reply_broken, reply_other, reply_ill, reply_bare, reply_judged}
use Rattle.outgoing.proofs.check_reply.Goals as goal

pub returns-in_default : goal.returns-in_default
returns-in_default c = ap told_count c.in_default.is ∙ reply_broken _ _ _ _ _ (ap told_count (sym c.in_default.is) ∙ c.length-measured.ensures)

pub returns-then-plan-eq0 : goal.returns-then-plan-eq0
returns-then-plan-eq0 c = reply_bare _ _ _ _ (ap told_count (sym c.in-Bytes.is) ∙ c.length-measured.ensures) _ c.name_length.ensures.0 c.if-server-name_length.true (sym c.is_utf8.ensures ∙ c.if-is_utf8.true) c.if-plan-eq0.true

pub returns-then-is_utf8 : goal.returns-then-is_utf8
returns-then-is_utf8 c = reply_judged _ _ _ _ (ap told_count (sym c.in-Bytes.is) ∙ c.length-measured.ensures) _ c.name_length.ensures.0 c.if-server-name_length.true (sym c.is_utf8.ensures ∙ c.if-is_utf8.true) c.if-plan-eq0.false

pub returns-then-server-name_length : goal.returns-then-server-name_length
returns-then-server-name_length c = reply_ill _ _ _ _ (ap told_count (sym c.in-Bytes.is) ∙ c.length-measured.ensures) _ c.name_length.ensures.0 c.if-server-name_length.true (sym c.is_utf8.ensures ∙ c.if-is_utf8.false)

pub returns : goal.returns
returns c = reply_other _ _ _ _ (ap told_count (sym c.in-Bytes.is) ∙ c.length-measured.ensures) _ c.name_length.ensures.0 c.if-server-name_length.false
