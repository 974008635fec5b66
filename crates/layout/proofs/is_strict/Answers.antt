-- `layout::is_strict` meets its contract: each arm knows the kind, and the profile's table computes at it.
use mathlib.Core.Path.{sym}
use mathlib.Core.Bool.{and-true}
use Rattle.layout.specs.Profile.{asks_of, allows}
use Rattle.layout.proofs.Profiles.{critical_allows, strict_allows}
use Rattle.layout.proofs.is_strict.Goals as goal

pub returns-in-0 : goal.returns-in-0
unfolding asks_of allows
returns-in-0 c = rw (c.in-0.is, and-true)

pub returns-in-1 : goal.returns-in-1
unfolding asks_of
returns-in-1 c = rw c.in-1.is (critical_allows _ _ _)

pub returns-in-2 : goal.returns-in-2
unfolding asks_of
returns-in-2 c = rw c.in-2.is (critical_allows _ _ _)

pub returns-in-3 : goal.returns-in-3
unfolding asks_of
returns-in-3 c = rw c.in-3.is (critical_allows _ _ _)

pub returns-in-6 : goal.returns-in-6
unfolding asks_of allows
returns-in-6 c = rw c.in-6.is c.is_ascii.ensures

pub returns-in_default : goal.returns-in_default
returns-in_default c = sym (strict_allows _ _ _ c.in_default.in_default-own.rest.0.0.0.0.1 c.in_default.in_default-own.rest.0.0.0.1 c.in_default.in_default-own.rest.0.0.1 c.in_default.in_default-own.rest.0.1 c.in_default.in_default-own.rest.1)
