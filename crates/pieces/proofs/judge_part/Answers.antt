-- `pieces::judge_part` meets its contract: a record that began in the bytes held is put together there and judged, and then the others where they lie.
use mathlib.Core.Path.{sym, ap, ◌∙◌}
use Rattle.walk.specs.Met.{told_passed}
use Rattle.pieces.proofs.Storing.{stored_first}
use Rattle.pieces.proofs.Joining.{judged_front, judged_short, judged_halts, judged_on}
use Rattle.pieces.proofs.judge_part.Goals as goal

pub returns-then-begins-held : goal.returns-then-begins-held
returns-then-begins-held c = judged_front _ _ _ _ _ c.requires.0 _ c.if-begins-held.true c.judge_rest.ensures

pub returns-then-part-n : goal.returns-then-part-n
returns-then-part-n c = judged_short _ _ _ _ _ c.requires.0 _ c.lacking-n.ensures c.if-part-n.true

pub returns-in_default : goal.returns-in_default
returns-in_default c =
    judged_halts _ _ _ _ _ c.requires.0 _ c.lacking-n.ensures c.if-part-n.false _
    (stored_first _ _ _ c.requires.0.held _ _ _ c.if-part-n.false c.requires.1 c.put_bytes.ensures)
    (ap told_passed (sym c.in_default.is) ∙ c.pass-passed.ensures)

pub returns : goal.returns
returns c =
    judged_on _ _ _ _ _ c.requires.0 _ c.lacking-n.ensures c.if-part-n.false _
    (stored_first _ _ _ c.requires.0.held _ _ _ c.if-part-n.false c.requires.1 c.put_bytes.ensures)
    _ _ (ap told_passed (sym c.in-On.is) ∙ c.pass-passed.ensures) c.judge_rest-2.ensures
