-- `supporting::list_length` meets its contract: the test is the definition's.
use Rattle.supporting.proofs.list_length.Goals as goal

pub returns-then-asked : goal.returns-then-asked
returns-then-asked c = rw c.if-asked.true
