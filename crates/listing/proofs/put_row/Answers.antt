-- `listing::put_row` meets its contract: kind, bit and size, and the newline, one after the other.
use native.Mathlib.Omega.{arith}
use Rattle.listing.proofs.Texts.{most, most_as, most_rest, most_then, row_text_lem}
use Rattle.listing.proofs.put_row.Goals as goal

pub returns : goal.returns
returns c = let t = most_then c.put_field-a.ensures c.put_size.ensures (omega arith) in most_as (most_then t (most (most_rest t (omega arith)) c.put_bytes.ensures) (omega arith)) (omega arith) (row_text_lem _)
