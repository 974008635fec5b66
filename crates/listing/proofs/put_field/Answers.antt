-- `listing::put_field` meets its contract: the digits go into what the text leaves of the output.
use native.Mathlib.Omega.{arith}
use Rattle.listing.proofs.Texts.{most, most_rest, most_then}
use Rattle.listing.proofs.put_field.Goals as goal

pub put_digits-requires : goal.put_digits-requires
put_digits-requires c = most_rest (most (omega arith) c.put_bytes-at.ensures) c.requires

pub returns : goal.returns
returns c = most_then (most (omega arith) c.put_bytes-at.ensures) c.put_digits.ensures c.requires
