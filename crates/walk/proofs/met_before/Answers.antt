-- `walk::met_before` meets its contract: the last bit of the mask from the kind's bit on.
use Rattle.walk.proofs.Bits.{bit_is}
use Rattle.walk.proofs.met_before.Goals as goal

pub returns : goal.returns
returns c = bit_is c.args.met c.args.slot
