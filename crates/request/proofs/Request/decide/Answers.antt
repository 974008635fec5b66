-- `request::Request::decide` meets its contract: the message is walked over again, and the finding is compared.
use Rattle.walk.proofs.Telling.{found_own}
use Rattle.layout.specs.declared.Profile.TheVariants.{Usual}
use Rattle.request.specs.Request.{reader}
use Rattle.request.proofs.Answering.{decides_found, decides_other}
use Rattle.request.proofs.Request.decide.Goals as goal

pub settle-requires : goal.settle-requires
settle-requires c = found_own (reader Usual) _ _ c.walk-again.result c.walk-again.ensures

pub returns-then-is_same : goal.returns-then-is_same
returns-then-is_same c = decides_found _ c.walk-again.result _ _ c.walk-again.ensures _ c.is_same.ensures c.if-is_same.true _ _ c.settle.ensures

pub returns : goal.returns
returns c = decides_other _ c.walk-again.result _ _ c.walk-again.ensures _ c.is_same.ensures c.if-is_same.false _ c.refused.ensures
