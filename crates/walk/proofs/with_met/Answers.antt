-- `walk::with_met` meets its contract: the kind's bit is one of a number below 2 ^ 16, so none is lost.
use Rattle.walk.proofs.Bits.{with_is}
use Rattle.walk.proofs.with_met.Goals as goal

pub returns : goal.returns
returns c = with_is c.args.met c.args.slot c.requires
