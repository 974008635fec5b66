-- `walk::is_end` meets its contract: it is the walk's own step, with no record before it.
use mathlib.Core.Path.{refl, sym, ap, subst, ◌∙◌}
use native.Mathlib.Omega.{arith}
use Rattle.walk.specs.Code.{Views}
use Rattle.walk.proofs.Seeing.{sees_within, sees_inside, says_meant, says_not_allowed}
use Rattle.walk.proofs.Marks.{ended_by, ends_broken, ends_whole}
use Rattle.walk.proofs.is_end.Goals as goal

pub overflow_add-start : goal.overflow_add-start
overflow_add-start c = omega (arith, sees_inside _ _ _ _ _ _ _ (subst (Views _ _ _) c.in-Whole.is c.view_at-view.ensures), c.type_inv.bytes 0)

pub bounds-rules-slot : goal.bounds-rules-slot
bounds-rules-slot c = sees_within _ _ _ _ _ _ _ (subst (Views _ _ _) c.in-Whole.is c.view_at-view.ensures)

pub returns-in-On : goal.returns-in-On
returns-in-On c =
    let x = subst (Views _ _ _) c.in-Whole.is c.view_at-view.ensures in
    ap ended_by (sym c.in-On.is) ∙ ends_whole _ _ _ 0 _ _ _ _ _ x.looks x.stands (says_meant _ _ _ _ _ _ _ _ _ x c.meant-verdict.ensures)

pub returns-in-End : goal.returns-in-End
returns-in-End c =
    let x = subst (Views _ _ _) c.in-Whole.is c.view_at-view.ensures in
    ap ended_by (sym c.in-End.is) ∙ ends_whole _ _ _ 0 _ _ _ _ _ x.looks x.stands (says_meant _ _ _ _ _ _ _ _ _ x c.meant-verdict.ensures)

pub returns-in-Stop : goal.returns-in-Stop
returns-in-Stop c =
    let x = subst (Views _ _ _) c.in-Whole.is c.view_at-view.ensures in
    ap ended_by (sym c.in-Stop.is) ∙ ends_whole _ _ _ 0 _ _ _ _ _ x.looks x.stands (says_meant _ _ _ _ _ _ _ _ _ x c.meant-verdict.ensures)

pub returns-in-NotAllowed : goal.returns-in-NotAllowed
returns-in-NotAllowed c =
    let x = subst (Views _ _ _) c.in-NotAllowed.is c.view_at-view.ensures in
    ends_whole _ _ _ 0 _ _ _ _ _ x.looks x.stands (says_not_allowed _ _ _ _ _ _ _ _ x)

pub returns-in-Unread : goal.returns-in-Unread
returns-in-Unread c =
    let x = subst (Views _ _ _) c.in-Unread.is c.view_at-view.ensures in
    ends_broken _ _ _ 0 _ x.refusal x.looks refl
