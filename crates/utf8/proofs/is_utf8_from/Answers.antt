-- `utf8::is_utf8_from` meets its contract: the test over the whole table passes.
use borrow.Author.Rules.{rules}
use mathlib.Core.Path.{refl}
use Rattle.utf8.proofs.Classes.{table}
use Rattle.utf8.proofs.is_utf8_from.Goals as goal

pub is_utf8_in-requires : goal.is_utf8_in-requires
is_utf8_in-requires c = (table _ refl, search rules)
