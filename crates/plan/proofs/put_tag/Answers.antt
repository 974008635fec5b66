-- `plan::put_tag` meets its contract: one byte is stored at the front.
use mathlib.Core.List.{[], ◌∷◌}
use Rattle.wire.proofs.Over.{as_put, stores_over}
use Rattle.plan.proofs.put_tag.Goals as goal

pub returns : goal.returns
returns c = as_put (c.args.tag ∷ []) (stores_over (c.args.tag ∷ []) _ c.requires)
