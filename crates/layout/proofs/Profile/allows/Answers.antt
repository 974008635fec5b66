-- `layout::Profile::allows` meets its contract: each arm knows the profile; the usual one asks nothing.
use mathlib.Core.Path.{sym, ap, ◌∙◌}
use Rattle.layout.specs.Profile.{asks_of, allows}
use Rattle.layout.specs.declared.Profile.TheVariants.{Strict}
use Rattle.layout.proofs.Profiles.{usual_allows}
use Rattle.layout.proofs.Profile.allows.Goals as goal

pub returns-in-Usual : goal.returns-in-Usual
returns-in-Usual c = rw c.in-Usual.is (sym (usual_allows _ _ _))

pub returns-in-Strict : goal.returns-in-Strict
returns-in-Strict c = rw c.in-Strict.is (c.is_strict.ensures ∙ ap (allows (asks_of Strict _) _) c.of.ensures.holds)
