-- `messages::put_body` meets its contract: the body is put into what the header leaves of the output.
use mathlib.Core.Path.{refl}
use native.Mathlib.Omega.{arith}
use Rattle.messages.proofs.Putting.{body_record, long_record, short_not, short_put}
use Rattle.messages.proofs.put_body.Goals as goal

pub returns-then-body-gt-LONGEST : goal.returns-then-body-gt-LONGEST
returns-then-body-gt-LONGEST c = long_record _ _ _ refl _ c.if-body-gt-LONGEST.true

pub returns-then-out-body : goal.returns-then-out-body
returns-then-out-body c = short_not _ _ _ refl c.if-body-gt-LONGEST.false _ c.if-out-body.true

pub returns : goal.returns
returns c = short_put _ _ _ refl c.if-body-gt-LONGEST.false c.if-out-body.false (body_record _ (c.put_header-at.ensures.room (omega arith)) refl c.put_bytes.ensures c.if-out-body.false)
