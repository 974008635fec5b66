-- `listing::put_exchange` meets its contract: three numbers, each behind its text, one after the other.
use native.Mathlib.Omega.{arith}
use Rattle.listing.proofs.Texts.{most_as, most_then, exchange_text}
use Rattle.listing.proofs.put_exchange.Goals as goal

pub returns : goal.returns
returns c = most_as (most_then (most_then c.put_field-a.ensures c.put_field.ensures (omega arith)) c.put_field-2.ensures (omega arith)) (omega arith) (exchange_text _ _ _)
