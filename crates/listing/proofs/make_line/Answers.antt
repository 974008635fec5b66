-- `listing::make_line` meets its contract: the place, and what stands behind it.
use native.Mathlib.Omega.{arith}
use Rattle.listing.proofs.Texts.{most_as, most_then, line_text}
use Rattle.listing.proofs.make_line.Goals as goal

pub returns : goal.returns
returns c = most_as (most_then c.put_digits-a.ensures c.put_row.ensures (omega arith)) (omega arith) (line_text _ _)
