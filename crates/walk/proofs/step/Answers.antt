-- `walk::step` meets its contract: what is seen of the record, and what is made of it by its kind's entry.
use mathlib.Core.Path.{refl, subst}
use native.Mathlib.Omega.{arith}
use Rattle.record.specs.declared.Looked.TheVariants as looked
use Rattle.walk.specs.Code.{Few, Views}
use Rattle.walk.proofs.Seeing.{sees_within, sees_inside, says_meant, says_not_allowed}
use Rattle.walk.proofs.Going.{steps_broken, steps_whole}
use Rattle.walk.proofs.step.Goals as goal

pub overflow_add-start : goal.overflow_add-start
overflow_add-start c = omega (arith, sees_inside _ _ _ _ _ _ _ (subst (Views _ _ _) c.in-Whole.is c.view_at-view.ensures), c.requires.0)

pub bounds-rules-slot : goal.bounds-rules-slot
bounds-rules-slot c = sees_within _ _ _ _ _ _ _ (subst (Views _ _ _) c.in-Whole.is c.view_at-view.ensures)

pub meet-verdict-requires : goal.meet-verdict-requires
unfolding Few
meet-verdict-requires c =
    let x = subst (Views _ _ _) c.in-Whole.is c.view_at-view.ensures in
    let p = c.requires in
    let i = sees_inside _ _ _ _ _ _ _ x in
    let j = sees_within _ _ _ _ _ _ _ x in
    (j, omega (arith, i, p.0), omega (arith, i, p.0, p.1 _ j))

pub overflow_add-next : goal.overflow_add-next
overflow_add-next c = omega (arith, sees_inside _ _ _ _ _ _ _ (subst (Views _ _ _) c.in-Whole.is c.view_at-view.ensures), c.requires.0)

pub overflow_add-start-in-NotAllowed : goal.overflow_add-start-in-NotAllowed
overflow_add-start-in-NotAllowed c = omega (arith, sees_inside _ _ _ _ _ _ _ (subst (Views _ _ _) c.in-NotAllowed.is c.view_at-view.ensures), c.requires.0)

pub overflow_cast-start : goal.overflow_cast-start
overflow_cast-start c = omega (arith, sees_inside _ _ _ _ _ _ _ (subst (Views _ _ _) c.in-NotAllowed.is c.view_at-view.ensures), c.requires.0)

pub count_more-requires : goal.count_more-requires
unfolding Few
count_more-requires c =
    let x = subst (Views _ _ _) c.in-NotAllowed.is c.view_at-view.ensures in
    let p = c.requires in
    let i = sees_inside _ _ _ _ _ _ _ x in
    let j = sees_within _ _ _ _ _ _ _ x in
    (j, omega (arith, i, p.0, p.1 _ j))

pub overflow_add-next-in-NotAllowed : goal.overflow_add-next-in-NotAllowed
overflow_add-next-in-NotAllowed c = omega (arith, sees_inside _ _ _ _ _ _ _ (subst (Views _ _ _) c.in-NotAllowed.is c.view_at-view.ensures), c.requires.0)

pub returns-in-Whole : goal.returns-in-Whole
returns-in-Whole c =
    let x = subst (Views _ _ _) c.in-Whole.is c.view_at-view.ensures in
    steps_whole _ _ _ _ (record { kind = x.kind; critical = _; size = _ }) _ _ _ x.looks x.stands
    (record { says = says_meant _ _ _ _ _ _ _ _ _ x c.meet-verdict.ensures.0; left = c.meet-verdict.ensures.1 })

pub returns-in-NotAllowed : goal.returns-in-NotAllowed
returns-in-NotAllowed c =
    let x = subst (Views _ _ _) c.in-NotAllowed.is c.view_at-view.ensures in
    steps_whole _ _ _ _ (record { kind = x.kind; critical = _; size = _ }) _ _ _ x.looks x.stands
    (record { says = says_not_allowed _ _ _ _ _ _ _ _ x; left = c.count_more.ensures })

pub returns-in-Unread : goal.returns-in-Unread
returns-in-Unread c =
    let x = subst (Views _ _ _) c.in-Unread.is c.view_at-view.ensures in
    steps_broken _ _ _ _ (looked.Refused x.refusal) x.refusal _ x.looks refl x.says
