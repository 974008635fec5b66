-- `request::Request::judge` meets its contract: the walk, and the decision from what it found.
use mathlib.Core.Path.{◌≡◌, subst}
use Prim.Native.Nat.{ℕ}
use Rattle.walk.specs.Finding.{as_finding}
use Rattle.walk.proofs.Telling.{found_limit, found_own}
use Rattle.request.specs.Request.{reader, request, told_by, told_answer}
use Rattle.request.proofs.Request.judge.Goals as goal

pub decision-answer-requires : goal.decision-answer-requires
decision-answer-requires c = found_own (reader c.args.profile) _ _ (as_finding c.walk_into-walked.result c.walk_into-walked.new.cells) c.walk_into-walked.ensures

pub returns : goal.returns
returns c = record {
  says = subst (λ (n : ℕ). told_answer c.decision-answer.result ≡ told_by c.args.message.now (request c.args.profile c.args.message.now n c.args.room)) (found_limit (reader c.args.profile) _ _ (as_finding c.walk_into-walked.result c.walk_into-walked.new.cells) c.walk_into-walked.ensures) c.decision-answer.ensures;
  found = c.walk_into-walked.ensures;
}
