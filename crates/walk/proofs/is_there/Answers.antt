-- `walk::is_there` meets its contract: a record is there where any was counted.
use Rattle.walk.proofs.Like.{there_none, there_some}
use Rattle.walk.proofs.is_there.Goals as goal

pub returns-then-found-eq0 : goal.returns-then-found-eq0
returns-then-found-eq0 c = there_none _ _ _ c.found.ensures c.if-found-eq0.true

pub returns : goal.returns
returns c = there_some _ _ _ c.found.ensures c.if-found-eq0.false
