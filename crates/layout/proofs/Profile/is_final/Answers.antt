-- `layout::Profile::is_final` meets its contract: each arm knows the profile.
use Rattle.layout.specs.Profile.{is_final}
use Rattle.layout.proofs.Profile.is_final.Goals as goal

pub returns-in-Usual : goal.returns-in-Usual
unfolding is_final
returns-in-Usual c = rw c.in-Usual.is

pub returns-in-Strict : goal.returns-in-Strict
unfolding is_final
returns-in-Strict c = rw c.in-Strict.is
