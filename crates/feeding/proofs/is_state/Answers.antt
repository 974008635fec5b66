-- `feeding::is_state` meets its contract: the tests are those of the definition.
use borrow.Author.Rules.{rules}
use borrow.Author.Tests.{lt-ltb, le-ltb}
use Rattle.feeding.specs.Fed.{is_standing}
use Rattle.feeding.proofs.is_state.Goals as goal

pub returns-then-state-lt2 : goal.returns-then-state-lt2
unfolding is_standing
returns-then-state-lt2 c = rw (lt-ltb _ _ c.if-state-lt2.true) (search rules)

pub returns : goal.returns
unfolding is_standing
returns c = rw (le-ltb _ _ c.if-state-lt2.false, c.is_mark.ensures, c.has_beside.ensures)
