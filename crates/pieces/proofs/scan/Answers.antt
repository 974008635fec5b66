-- `pieces::scan` meets its contract. The loop's invariant: the walk from the place on, with the kinds seen before it, is the whole walk.
use mathlib.Core.Path.{sym, ap, ◌∙◌}
use native.Mathlib.Omega.{arith}
use Rattle.walk.specs.Met.{told_passed}
use Rattle.pieces.proofs.Scanning.{scanning_start, scanning_stop, scanning_found, scanning_on, scanning_onward}
use borrow.Author.Rules.{rules}
use Rattle.pieces.proofs.scan.Goals as goal

pub loop-profile-init : goal.loop-profile-init
loop-profile-init c = scanning_start _ _ _

pub whole_size-size-requires : goal.whole_size-size-requires
whole_size-size-requires c = c.loop-profile.invariant.inside

pub returns-then-size-eq0 : goal.returns-then-size-eq0
returns-then-size-eq0 c = scanning_stop _ _ _ _ _ c.loop-profile.invariant _ c.whole_size-size.ensures c.if-size-eq0.true

pub overflow_add-result : goal.overflow_add-result
overflow_add-result c =
    let o = scanning_onward _ _ _ _ _ c.loop-profile.invariant _ c.whole_size-size.ensures c.if-size-eq0.false in
    let i = o.1 in
    search rules

pub returns-in_default : goal.returns-in_default
returns-in_default c =
    scanning_found _ _ _ _ _ c.loop-profile.invariant _ c.whole_size-size.ensures c.if-size-eq0.false
    (ap told_passed (sym c.in_default.is) ∙ c.pass-passed.ensures)

pub overflow_add-at : goal.overflow_add-at
overflow_add-at c =
    let o = scanning_onward _ _ _ _ _ c.loop-profile.invariant _ c.whole_size-size.ensures c.if-size-eq0.false in
    let i = o.1 in
    search rules

pub loop-profile-smaller : goal.loop-profile-smaller
loop-profile-smaller c =
    let o = scanning_onward _ _ _ _ _ c.loop-profile.invariant _ c.whole_size-size.ensures c.if-size-eq0.false in
    omega (arith, o.0, o.1)

pub loop-profile-preserved : goal.loop-profile-preserved
loop-profile-preserved c =
    scanning_on _ _ _ _ _ c.loop-profile.invariant _ c.whole_size-size.ensures c.if-size-eq0.false _
    (ap told_passed (sym c.in-On.is) ∙ c.pass-passed.ensures)
