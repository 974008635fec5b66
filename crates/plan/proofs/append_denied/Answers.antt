-- `plan::append_denied` meets its contract: the refusals are judged in their order, and then the field is put behind the used part.
use native.Mathlib.Omega.{arith}
use mathlib.Core.Path.{sym, ap, ◌∙◌}
use Rattle.nts.specs.declared.NtsError.TheVariants.{InvalidValue, InvalidInput}
use Rattle.plan.specs.Code.{told_tally}
use Rattle.plan.proofs.Fields.{held}
use Rattle.plan.proofs.Counting.{bodies_of}
use Rattle.plan.proofs.Appending.{denied_so, deny_broken, deny_not, deny_long, deny_put}
use Rattle.plan.proofs.append_denied.Goals as goal

pub returns-in_default : goal.returns-in_default
returns-in_default c = denied_so _ _ _ InvalidValue (deny_broken _ _ _ (ap told_tally (sym c.in_default.is) ∙ c.walk_tray-tally.ensures))

pub returns-then-name-gt-LONGEST : goal.returns-then-name-gt-LONGEST
returns-then-name-gt-LONGEST c = denied_so _ _ _ InvalidInput (deny_long _ _ _ _ _ (ap told_tally (sym c.in-Whole.is) ∙ c.walk_tray-tally.ensures) (sym c.is_utf8.ensures ∙ c.if-is_utf8.true) c.if-name-gt-LONGEST.true)

pub append_field-requires : goal.append_field-requires
append_field-requires c = ((held _ _ _ _ (bodies_of _ _ _ (ap told_tally (sym c.in-Whole.is) ∙ c.walk_tray-tally.ensures)).are).inside, omega arith)

pub returns-then-is_utf8 : goal.returns-then-is_utf8
returns-then-is_utf8 c = deny_put _ _ _ _ _ (ap told_tally (sym c.in-Whole.is) ∙ c.walk_tray-tally.ensures) (sym c.is_utf8.ensures ∙ c.if-is_utf8.true) (omega arith) _ _ c.append_field.ensures

pub returns : goal.returns
returns c = denied_so _ _ _ InvalidValue (deny_not _ _ _ _ _ (ap told_tally (sym c.in-Whole.is) ∙ c.walk_tray-tally.ensures) (sym c.is_utf8.ensures ∙ c.if-is_utf8.false))
