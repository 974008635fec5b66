-- `request::fixed_key` meets its contract: each field is that of the first record of its kind.
use Rattle.layout.specs.Table.{row_of, shape_of}
use Rattle.walk.specs.Shown.{slot_of}
use Rattle.request.proofs.Decided.{keys_are_lem}
use Rattle.request.proofs.fixed_key.Goals as goal

pub returns : goal.returns
unfolding slot_of shape_of row_of
returns c = keys_are_lem _ _ _ _ _ _ c.found-keys.ensures c.found-protocols.ensures c.found.ensures _ c.body.ensures _ c.number_at.ensures _ c.is_there.ensures
