-- `supporting::asked_too_long` meets its contract: the test is the definition's.
use Rattle.supporting.proofs.asked_too_long.Goals as goal

pub returns-then-asked : goal.returns-then-asked
returns-then-asked c = rw c.if-asked.true c.too_long.ensures
