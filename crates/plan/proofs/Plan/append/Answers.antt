-- `plan::Plan::append` meets its contract: the refusals are judged in their order, and then the field is put behind the used part.
use native.Mathlib.Omega.{arith}
use mathlib.Core.Path.{refl, sym, ap, ◌∙◌}
use Rattle.nts.specs.declared.NtsError.TheVariants.{InvalidValue, InvalidInput, TableFull}
use Rattle.layout.specs.Write.{told_count}
use Rattle.plan.specs.Code.{told_tally}
use Rattle.plan.proofs.Counting.{few_of}
use Rattle.plan.proofs.Appending.{refused_so, append_broken, append_long, append_full, append_put}
use Rattle.plan.proofs.Plan.append.Goals as goal

pub returns-in_default : goal.returns-in_default
returns-in_default c = refused_so _ _ _ InvalidValue (append_broken _ _ _ (ap told_tally (sym c.in_default.is) ∙ c.cookies-tally.ensures))

pub returns-then-cookie-gt-LONGEST : goal.returns-then-cookie-gt-LONGEST
returns-then-cookie-gt-LONGEST c = refused_so _ _ _ InvalidInput (append_long _ _ _ _ _ (ap told_tally (sym c.in-Whole.is) ∙ c.cookies-tally.ensures) (omega arith))

pub returns-then-whole-ge-COOKIES : goal.returns-then-whole-ge-COOKIES
returns-then-whole-ge-COOKIES c = refused_so _ _ _ TableFull (append_full _ _ _ _ _ (ap told_tally (sym c.in-Whole.is) ∙ c.cookies-tally.ensures) (omega arith) (omega arith))

pub append_field-count-requires : goal.append_field-count-requires
append_field-count-requires c = ((few_of _ _ _ _ (ap told_tally (sym c.in-Whole.is) ∙ c.cookies-tally.ensures)).inside, omega arith)

pub returns-in-Bytes : goal.returns-in-Bytes
returns-in-Bytes c = append_put _ _ _ _ _ (ap told_tally (sym c.in-Whole.is) ∙ c.cookies-tally.ensures) (omega arith) (omega arith) _ _ _ refl (ap told_count (sym c.in-Bytes.is) ∙ c.append_field-count.ensures.0, c.append_field-count.ensures.1)

pub returns-in-Refused : goal.returns-in-Refused
returns-in-Refused c = append_put _ _ _ _ _ (ap told_tally (sym c.in-Whole.is) ∙ c.cookies-tally.ensures) (omega arith) (omega arith) _ _ _ refl (ap told_count (sym c.in-Refused.is) ∙ c.append_field-count.ensures.0, c.append_field-count.ensures.1)
