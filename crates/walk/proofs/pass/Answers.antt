-- `walk::pass` meets its contract: it is the walk's own step, and of the records before it that step asks only which kinds were met.
use mathlib.Core.Path.{refl, sym, ap, subst, ◌∙◌}
use native.Mathlib.Omega.{arith}
use Rattle.walk.specs.Code.{Views}
use Rattle.walk.specs.Met.{on}
use Rattle.walk.proofs.Seeing.{sees_within, sees_inside, says_meant, says_not_allowed}
use Rattle.walk.proofs.Marks.{passed_by, passing_broken, passing_whole}
use Rattle.walk.proofs.pass.Goals as goal

pub met_before-before-requires : goal.met_before-before-requires
met_before-before-requires c = sees_within _ _ _ _ _ _ _ (subst (Views _ _ _) c.in-Whole.is c.view_at-view.ensures)

pub overflow_add-start : goal.overflow_add-start
overflow_add-start c = omega (arith, sees_inside _ _ _ _ _ _ _ (subst (Views _ _ _) c.in-Whole.is c.view_at-view.ensures), c.type_inv.bytes 0)

pub bounds-rules-slot : goal.bounds-rules-slot
bounds-rules-slot c = sees_within _ _ _ _ _ _ _ (subst (Views _ _ _) c.in-Whole.is c.view_at-view.ensures)

pub with_met-requires : goal.with_met-requires
with_met-requires c =
    sees_within _ _ _ _ _ _ _ (subst (Views _ _ _) c.in-Whole.is c.view_at-view.ensures)

pub returns-in-On : goal.returns-in-On
returns-in-On c =
    let x = subst (Views _ _ _) c.in-Whole.is c.view_at-view.ensures in
    ap on c.with_met.ensures ∙ ap (passed_by _ _) (sym c.in-On.is)
    ∙ passing_whole _ _ _ _ _ _ _ _ _ _ x.looks x.stands c.met_before-before.ensures (says_meant _ _ _ _ _ _ _ _ _ x c.meant-verdict.ensures)

pub returns-in-End : goal.returns-in-End
returns-in-End c =
    let x = subst (Views _ _ _) c.in-Whole.is c.view_at-view.ensures in
    ap (passed_by _ _) (sym c.in-End.is)
    ∙ passing_whole _ _ _ _ _ _ _ _ _ _ x.looks x.stands c.met_before-before.ensures (says_meant _ _ _ _ _ _ _ _ _ x c.meant-verdict.ensures)

pub returns-in-Stop : goal.returns-in-Stop
returns-in-Stop c =
    let x = subst (Views _ _ _) c.in-Whole.is c.view_at-view.ensures in
    ap (passed_by _ _) (sym c.in-Stop.is)
    ∙ passing_whole _ _ _ _ _ _ _ _ _ _ x.looks x.stands c.met_before-before.ensures (says_meant _ _ _ _ _ _ _ _ _ x c.meant-verdict.ensures)

pub returns-in-NotAllowed : goal.returns-in-NotAllowed
returns-in-NotAllowed c =
    let x = subst (Views _ _ _) c.in-NotAllowed.is c.view_at-view.ensures in
    passing_whole _ _ _ _ _ _ _ _ _ _ x.looks x.stands refl (says_not_allowed _ _ _ _ _ _ _ _ x)

pub returns-in-Unread : goal.returns-in-Unread
returns-in-Unread c =
    let x = subst (Views _ _ _) c.in-Unread.is c.view_at-view.ensures in
    passing_broken _ _ _ _ _ x.refusal x.looks refl
