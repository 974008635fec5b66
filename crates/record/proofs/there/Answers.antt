-- `record::there` meets its contract: of a body that is short all that follows the header is there.
use Rattle.record.proofs.Read.{there_all, there_some}
use Rattle.record.proofs.there.Goals as goal

pub returns-then-rest-size : goal.returns-then-rest-size
returns-then-rest-size c = there_all c.args.rest.now _ c.if-rest-size.true

pub returns : goal.returns
returns c = there_some c.args.rest.now c.args.size
