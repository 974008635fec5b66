-- 02, order 2: reading is one thing, deciding another. The pair of calls between crates as a reader (Demand3.antt), which is the first call and the second on its finding; and
-- the counts of a finding beside the lines of the listing. The pair that a host links: FindingsFace.antt.
use Rattle.std.specs.Prelude.{ℕ, zero, suc, ◌+◌, ◌*◌, ◌≡◌, List, [], ◌∷◌, Bool, cond, not, get_or, eqb}
use Rattle.layout.specs.Profile.{knows}
use Rattle.layout.specs.declared.Profile.TheVariants.{Usual}
use Rattle.walk.specs.Shown.{Mark}
use Rattle.walk.specs.declared.Finding.{Finding}
use Rattle.request.specs.declared.Answer as request_answer
use Rattle.request.proofs.Request.walk.Reads as walk_request
use Rattle.request.proofs.Request.decide.Reads as decide_request
use Rattle.promises.specs.Handed as requests
use Rattle.promises.specs.Called.{answering}
use Rattle.promises.specs.Demand3.{Reader}

-- ---- the calls, each with its answer and what its own contract says of it

pub record WalkRequest : Type 1 where
  pub κs : _
  pub a : _
  pub finding : Finding
  pub e : _
  pub met : walk_request.Learnt κs a finding e

pub record DecideRequest : Type 1 where
  pub κs : _
  pub a : _
  pub answer : request_answer.Answer
  pub e : _
  pub met : decide_request.Learnt κs a answer e

-- the second call on the finding that the first one gave, over the message that the first one walked over
pub record Pair : Type 1 where
  pub walked : WalkRequest
  pub decided : DecideRequest
  pub handed : decided.a.0 ≡ walked.finding
  pub message : decided.a.1.0.now ≡ walked.a.0.now

-- .. as a reader: in the usual profile, it is asked with the message, the first call's limit and the second call's table
abbrev pub request_pair : Reader requests.Shown
request_pair =
    answering Pair (λ c. Usual) (λ c. c.decided.a.1.0.now) (λ c. c.walked.a.1.0) (λ c. c.decided.a.1.1.0.now) (λ c. c.decided.answer) (λ c. c.decided.e.1.1.0.now)

-- ---- the lines of the listing, by type

-- how many pass a test
abbrev pub count_of : (Mark → Bool) → List Mark → ℕ
count_of test [] = 0
count_of test (x ∷ l) = cond (test x) (suc (count_of test l)) (count_of test l)

-- those of a kind, and those of unknown kinds
abbrev pub is_of : ℕ → Mark → Bool
is_of k x = eqb x.kind k

abbrev pub is_other : Mark → Bool
is_other x = not (knows Usual x.kind)

-- the count of a kind among a finding's cells
abbrev pub count_at : List ℕ → ℕ → ℕ
count_at c k = get_or c (k * 3) 0

-- the counts of the kinds below n, summed up
abbrev pub sum_of : List ℕ → ℕ → ℕ
sum_of c zero = 0
sum_of c (suc n) = sum_of c n + count_at c n

-- how many lines a text has: each ends in a newline
abbrev pub lines_in : List ℕ → ℕ
lines_in [] = 0
lines_in (b ∷ t) = cond (eqb b 10) (suc (lines_in t)) (lines_in t)
