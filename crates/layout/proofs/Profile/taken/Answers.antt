-- `layout::Profile::taken` meets its contract: each arm knows the profile, and its test is for the kinds that the strict one knows.
use mathlib.Core.Path.{sym}
use Rattle.layout.specs.Profile.{taken_as}
use Rattle.layout.proofs.Profiles.{taken_near, taken_far}
use Rattle.layout.proofs.Profile.taken.Goals as goal

pub returns-then-kind-gt-LAST_OF_RFC : goal.returns-then-kind-gt-LAST_OF_RFC
returns-then-kind-gt-LAST_OF_RFC c = rw c.in-Strict.is (sym (taken_far _ c.if-kind-gt-LAST_OF_RFC.true))

pub returns-in-Usual : goal.returns-in-Usual
unfolding taken_as
returns-in-Usual c = rw c.in-Usual.is

pub returns-else-kind-gt-LAST_OF_RFC : goal.returns-else-kind-gt-LAST_OF_RFC
returns-else-kind-gt-LAST_OF_RFC c = rw c.in-Strict.is (sym (taken_near _ c.if-kind-gt-LAST_OF_RFC.false))
