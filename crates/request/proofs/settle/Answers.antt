-- `request::settle` meets its contract: what the finding decides, and where names are denied the table filled from the bytes that the walk covered.
use native.Mathlib.Omega.{arith}
use Rattle.walk.specs.Finding.{as_finding}
use Rattle.request.proofs.Answering.{place_is, place_inside, reads_none, reads_names}
use Rattle.request.proofs.settle.Goals as goal

pub returns-then-denied-eq0 : goal.returns-then-denied-eq0
returns-then-denied-eq0 c = reads_none _ _ _ c.args.table.now _ c.decision-answer.ensures _ c.denied_in-denied.ensures c.if-denied-eq0.true

pub slice_bounds-fill-end : goal.slice_bounds-fill-end
slice_bounds-fill-end c = place_inside c.args.profile c.args.message.now (as_finding c.args.walked c.args.cells.now) c.requires

pub returns : goal.returns
returns c = reads_names _ _ _ c.args.table.now _ c.decision-answer.ensures _ c.denied_in-denied.ensures (omega arith) c.if-denied-eq0.false _ (place_is c.args.profile c.args.message.now (as_finding c.args.walked c.args.cells.now) c.requires) _ _ c.fill.ensures
