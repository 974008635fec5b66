-- 02, order 2, of ntske_walk_request and ntske_decide_request, which a host links: the pair as a reader (Demand3.antt), the first call and the second on the cells that it left.
use Rattle.std.specs.Prelude.{ℕ, ◌≡◌, []}
use Rattle.layout.specs.declared.Profile.TheVariants.{Usual}
use Rattle.deciding.proofs.ntske_walk_request.Reads as walk_hosted
use Rattle.deciding.proofs.ntske_decide_request.Reads as decide_hosted
use Rattle.promises.specs.Handed as requests
use Rattle.promises.specs.Called.{HostRead, answering_host}
use Rattle.promises.specs.Demand3.{Reader}

pub record WalkHosted : Type 1 where
  pub κs : _
  pub a : _
  pub answer : ℕ
  pub e : _
  pub met : walk_hosted.Learnt κs a answer e

pub record DecideHosted : Type 1 where
  pub κs : _
  pub a : _
  pub answer : ℕ
  pub e : _
  pub met : decide_hosted.Learnt κs a answer e

pub record HostedPair : Type 1 where
  pub walked : WalkHosted
  pub decided : DecideHosted
  pub handed : decided.a.0.now ≡ walked.e.1.1.0.now
  pub message : decided.a.1.0.now ≡ walked.a.0.now

abbrev pub pair_host : HostedPair → HostRead
pair_host c = record {
  message = c.decided.a.1.0.now;
  limit = c.walked.a.1.0;
  protocols = [];
  algorithms = [];
  table = c.decided.a.1.1.0.now;
  lent = c.decided.a.1.1.1.0.now;
  answer = c.decided.answer;
  filled = c.decided.e.1.1.0.now;
  after = c.decided.e.1.1.1.0.now;
}

abbrev pub hosted_pair : Reader requests.Shown
hosted_pair = answering_host HostedPair Usual pair_host
