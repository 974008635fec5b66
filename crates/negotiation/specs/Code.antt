-- What the code's own cases say.
use Rattle.negotiation.specs.Negotiation.{Common, none, common}
use Rattle.negotiation.specs.declared.First.{First}
use Rattle.negotiation.specs.declared.First.TheVariants.{Number, Nothing}

abbrev pub told_first : First → Common
told_first (Number n) = common n
told_first Nothing = none
