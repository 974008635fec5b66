-- `writing::ntske_record_length` meets its contract: what the record's call answered is given, where the cells hold one.
use mathlib.Core.Path.{refl, sym, ap, ◌∙◌}
use Rattle.cells.specs.Cells.{counted}
use Rattle.cells.proofs.Lent.{given}
use Rattle.writing.specs.Code.{told_given}
use Rattle.writing.proofs.Giving.{length_held}
use Rattle.writing.proofs.ntske_record_length.Goals as goal

pub returns-in_default : goal.returns-in_default
returns-in_default c = length_held c.args.source.now (ap told_given (sym c.in_default.is) ∙ c.record_in-given.ensures) (record { says = c.refused.ensures; left = refl })

pub returns : goal.returns
returns c = length_held _ (ap told_given (sym c.in-Item.is) ∙ c.record_in-given.ensures) (given counted c.length-answer.ensures c.give_count.ensures)
