-- `pieces::joined_at` meets its contract: a place before those held is in the buffer, and any other in what follows.
use mathlib.Core.Path.{◌∙◌}
use Rattle.pieces.proofs.Joining.{both_before, both_behind}
use borrow.Author.Rules.{rules}
use Rattle.pieces.proofs.joined_at.Goals as goal

pub returns-then-at-held : goal.returns-then-at-held
returns-then-at-held c = c.byte_at.ensures ∙ both_before _ _ _ (search rules) _ c.if-at-held.true

pub returns : goal.returns
returns c = c.byte_at-2.ensures ∙ both_behind _ _ _ (search rules) _ c.if-at-held.false
