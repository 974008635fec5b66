-- `writing::ntske_write_record` meets its contract: what the record's call answered and left is given, where the cells hold one.
use mathlib.Core.Path.{refl, sym, ap, ◌∙◌}
use Rattle.layout.specs.Write.{fitted, left_by, written}
use Rattle.cells.proofs.Lent.{wrote}
use Rattle.writing.specs.Code.{told_given}
use Rattle.writing.proofs.Giving.{record_held}
use Rattle.writing.proofs.ntske_write_record.Goals as goal

pub returns-in_default : goal.returns-in_default
unfolding fitted left_by
returns-in_default c = record_held c.args.source.now (ap told_given (sym c.in_default.is) ∙ c.record_in-given.ensures) (record { gives = record { says = c.refused.ensures; left = refl }; wrote = refl })

pub returns : goal.returns
unfolding written
returns c = record_held _ (ap told_given (sym c.in-Item.is) ∙ c.record_in-given.ensures) (wrote c.serialize-answer.ensures c.give_count.ensures)
