-- `listing::put_digits` meets its contract: a number below ten is its one digit, and for any other the last digit is stored behind those
-- of a tenth of it.
use native.Mathlib.Omega.{arith}
use Rattle.listing.proofs.Digits.{digit_first, digit_room, digit_next}
use Rattle.listing.proofs.+put_digits.Goals as goal

pub returns-then-n-lt10 : goal.returns-then-n-lt10
returns-then-n-lt10 t c = digit_first _ _ c.if-n-lt10.true c.requires

pub bounds-out-i : goal.bounds-out-i
bounds-out-i t c = digit_room _ c.if-n-lt10.false (omega arith) c.requires c.put_digits-i.ensures

pub returns : goal.returns
returns t c = digit_next _ _ _ _ c.if-n-lt10.false (omega arith) c.requires c.put_digits-i.ensures
