-- `request::Request::parse` meets its contract: the walk, and what it found settled.
use mathlib.Core.Path.{subst}
use Prim.Native.Nat.{ℕ}
use Rattle.walk.specs.Finding.{as_finding}
use Rattle.walk.proofs.Telling.{found_limit, found_own}
use Rattle.request.specs.Request.{reader, Reads}
use Rattle.request.proofs.Request.parse.Goals as goal

pub settle-requires : goal.settle-requires
settle-requires c = found_own (reader c.args.profile) _ _ (as_finding c.walk_into-walked.result c.walk_into-walked.new.cells) c.walk_into-walked.ensures

pub returns : goal.returns
returns c = subst (λ (n : ℕ). Reads c.args.profile c.args.message.now n c.args.table.now c.settle.result c.settle.new.table) (found_limit (reader c.args.profile) _ _ (as_finding c.walk_into-walked.result c.walk_into-walked.new.cells) c.walk_into-walked.ensures) c.settle.ensures
