-- `feeding::state_in` meets its contract: a refusal has its number, so the one that is found for it has that number.
use Rattle.feeding.proofs.Holding.{standing_sound, standing_refusing, standing_refusal}
use Rattle.feeding.proofs.state_in.Goals as goal

pub error_in-requires : goal.error_in-requires
error_in-requires c =
    let k = c.in_default.in_default-own.rest in
    (standing_refusing _ _ _ _ k.0.1 k.1 (standing_sound _ _ _ _ c.requires)).mark

pub returns-in-0 : goal.returns-in-0
returns-in-0 c = rw c.in-0.is

pub returns-in-1 : goal.returns-in-1
returns-in-1 c = rw c.in-1.is

pub returns-in_default : goal.returns-in_default
returns-in_default c =
    let k = c.in_default.in_default-own.rest in
    rw c.error_in.ensures (standing_refusal _ _ _ _ (standing_refusing _ _ _ _ k.0.1 k.1 (standing_sound _ _ _ _ c.requires)))
