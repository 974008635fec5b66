-- `walk::ended` meets its contract: its two tests are the definition's.
use mathlib.Core.Path.{sym, ◌∙◌}
use mathlib.Core.Bool.{and-false}
use borrow.Author.Tests.{lt-ltb, le-ltb}
use Rattle.walk.specs.Code.{ended_in}
use Rattle.walk.proofs.ended.Goals as goal

pub returns-then-next-length : goal.returns-then-next-length
unfolding ended_in
returns-then-next-length c = rw (sym c.is_final.ensures ∙ c.if-is_final.true, lt-ltb _ _ c.if-next-length.true)

pub returns-else-next-length : goal.returns-else-next-length
unfolding ended_in
returns-else-next-length c = rw (le-ltb _ _ c.if-next-length.false, and-false)

pub returns-else-is_final : goal.returns-else-is_final
unfolding ended_in
returns-else-is_final c = rw (sym c.is_final.ensures ∙ c.if-is_final.false)
