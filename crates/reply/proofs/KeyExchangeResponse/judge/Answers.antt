-- `reply::KeyExchangeResponse::judge` meets its contract: the walk by the table, and where it ended the decision over what it found.
use Rattle.walk.specs.Finding.{as_finding}
use Rattle.reply.specs.Reply.{offering}
use Rattle.reply.proofs.Answering.{judged_refused, judged_fits, judged_ended}
use Rattle.reply.proofs.KeyExchangeResponse.judge.Goals as goal

pub decide-requires : goal.decide-requires
decide-requires c = judged_fits c.args.profile c.args.message.now c.args.limit (offering c.args.protocols.now c.args.algorithms.now c.args.room) (as_finding c.walk_into-walked.result _) c.walk_into-walked.ensures c.in-End.is

pub returns-in-End : goal.returns-in-End
returns-in-End c = judged_ended _ _ _ _ (as_finding c.walk_into-walked.result _) c.walk_into-walked.ensures c.in-End.is _ c.decide.ensures

pub returns-in-Refused : goal.returns-in-Refused
returns-in-Refused c = judged_refused _ _ _ _ (as_finding c.walk_into-walked.result _) c.walk_into-walked.ensures _ c.in-Refused.is _ c.refused.ensures
