-- `request::decision` meets its contract: what stopped the walk, and where that was the end record the decision over what was found.
use Rattle.walk.specs.Finding.{as_finding}
use Rattle.request.proofs.Answering.{ended_fit, decided_refused, decided_ended}
use Rattle.request.proofs.decision.Goals as goal

pub decide_ended-requires : goal.decide_ended-requires
decide_ended-requires c = ended_fit c.args.profile c.args.message.now (as_finding c.args.walked c.args.cells.now) c.requires c.in-End.is

pub returns-in-End : goal.returns-in-End
returns-in-End c = decided_ended _ _ (as_finding c.args.walked c.args.cells.now) c.requires c.args.room c.in-End.is c.decide_ended.result c.decide_ended.ensures

pub returns-in-Refused : goal.returns-in-Refused
returns-in-Refused c = decided_refused _ _ (as_finding c.args.walked c.args.cells.now) c.requires c.args.room _ c.in-Refused.is c.refused.result c.refused.ensures
