-- `utf8::class_of` meets its contract: the test over the whole table passes.
use borrow.Author.Rules.{rules}
use Rattle.utf8.proofs.Classes.{has}
use Rattle.utf8.proofs.class_of.Goals as goal

pub returns : goal.returns
returns c = search (has, rules)
