-- `listing::put_refusal` meets its contract: number, place and what is returned beside them, one after the other.
use native.Mathlib.Omega.{arith}
use Rattle.listing.proofs.Texts.{most_as, most_then, refusal_text}
use Rattle.listing.proofs.put_refusal.Goals as goal

pub returns : goal.returns
returns c = most_as (most_then (most_then c.put_field-a.ensures c.put_field.ensures (omega arith)) c.put_code.ensures (omega arith)) (omega arith) (refusal_text c.args.refusal _ c.code.result c.number.ensures c.code.ensures)
