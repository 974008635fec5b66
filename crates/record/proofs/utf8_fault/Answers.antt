-- `record::utf8_fault` meets its contract: what the checker said is the definition's test.
use mathlib.Core.Path.{sym, ◌∙◌}
use Rattle.record.specs.Record.{not_utf8}
use Rattle.record.proofs.utf8_fault.Goals as goal

pub returns-then-is_utf8 : goal.returns-then-is_utf8
unfolding not_utf8
returns-then-is_utf8 c = simp (sym c.is_utf8.ensures ∙ c.if-is_utf8.true)

pub returns : goal.returns
unfolding not_utf8
returns c = simp (sym c.is_utf8.ensures ∙ c.if-is_utf8.false)
