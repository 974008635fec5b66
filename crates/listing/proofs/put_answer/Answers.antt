-- `listing::put_answer` meets its contract: a text for each case of the answer.
use mathlib.Core.Path.{refl}
use native.Mathlib.Omega.{arith}
use Rattle.listing.proofs.Texts.{most, most_as}
use Rattle.listing.proofs.put_answer.Goals as goal

pub returns-in-KeyExchange : goal.returns-in-KeyExchange
returns-in-KeyExchange c = rw (c.in-Accepted.is, c.in-KeyExchange.is) c.put_exchange.ensures

pub returns-in-FixedKey : goal.returns-in-FixedKey
returns-in-FixedKey c = rw (c.in-Accepted.is, c.in-FixedKey.is) (most_as (most (omega arith) c.put_bytes.ensures) (omega arith) refl)

pub returns-in-Support : goal.returns-in-Support
returns-in-Support c = rw (c.in-Accepted.is, c.in-Support.is) (most_as (most (omega arith) c.put_bytes-in-Support.ensures) (omega arith) refl)

pub returns-in-Refused : goal.returns-in-Refused
returns-in-Refused c = rw c.in-Refused.is (most_as c.put_refusal.ensures (omega arith) refl)
