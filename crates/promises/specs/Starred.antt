-- 01, "Messages on both sides of a line", and 02, order 5, of the calls of a reader of requests: the rows of request/specs/Messages.antt.
use Rattle.std.specs.Prelude.{◌≡◌, List, [], ◌∷◌}
use Rattle.request.specs.Messages.{Outcome, refusal, contents, Under, Row}
use Rattle.promises.specs.Handed.{Shown, in_hand}
use Rattle.promises.specs.Demand3.{Reader}

-- a call answered so: it refused, with that number, nothing or a number beside it, and that place, and left what was lent as it was; or it accepted, and the contents are in hand
abbrev pub Answers : (R : Reader Shown) → R.Call → Outcome → Type 0
Answers R c (refusal y) = R.Refuses c y
Answers R c (contents x) = R.Accepts c (in_hand x)

-- every call with a row's message, in the row's profile, under each of the row's limits and with whatever table, answers as the row says
abbrev pub HoldsFor : Reader Shown → List Row → Type 1
HoldsFor R [] = Unit {1}
HoldsFor R (r ∷ rows) = ((c : R.Call) → R.asked c ≡ r.bytes → (R.under c).profile ≡ r.profile → Under r.limit r.bytes (R.under c).limit → Answers R c r.answer) × HoldsFor R rows
