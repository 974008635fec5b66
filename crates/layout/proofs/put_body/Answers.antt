-- `layout::put_body` meets its contract: a number is put alone, and of two parts the second into the rest of the output.
use mathlib.Core.Path.{sym, ◌∙◌}
use Rattle.layout.proofs.Writing.{put_number_body, put_parts_body}
use Rattle.layout.proofs.put_body.Goals as goal

pub returns-then-is_number : goal.returns-then-is_number
returns-then-is_number c = put_number_body _ _ (sym c.is_number.ensures ∙ c.if-is_number.true) c.requires.1 c.put_number.ensures

pub returns : goal.returns
returns c = put_parts_body _ _ c.requires.0 (sym c.is_number.ensures ∙ c.if-is_number.false) c.requires.1 c.of.ensures.holds c.of-2.ensures.holds c.put_bytes-at.ensures c.put_bytes.ensures
