-- `negotiation::is_odd` meets its contract: it asks what the definition asks.
use Rattle.negotiation.specs.Negotiation.{is_odd}
use Rattle.negotiation.proofs.is_odd.Goals as goal

pub returns : goal.returns
unfolding is_odd
returns c = cc
