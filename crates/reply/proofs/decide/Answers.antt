-- `reply::decide` meets its contract: the tests are the definition's, in its order.
use mathlib.Core.Path.{refl, sym, ap, ◌∙◌}
use mathlib.Core.Bool.{not}
use Prim.Native.Nat.{ℕ}
use borrow.Author.Tests.{eq-eqb, ne_eqb}
use Rattle.nts.specs.Refusal.{protocol, algorithm}
use Rattle.negotiation.specs.Negotiation.{holds}
use Rattle.layout.specs.Table.{row_of, shape_of}
use Rattle.walk.specs.Shown.{slot_of}
use Rattle.walk.proofs.Verdicts.{taken, left}
use Rattle.reply.specs.Reply.{offering, refused_with, told_answer}
use Rattle.reply.specs.Code.{cookies_for}
use Rattle.reply.proofs.Decided.{decided_is}
use Rattle.reply.proofs.decide.Goals as goal

pub returns-then-first-eq0 : goal.returns-then-first-eq0
unfolding slot_of shape_of row_of
returns-then-first-eq0 c =
    ap told_answer c.refused.ensures
    ∙ taken _ _ _ (eq-eqb _ _ c.if-first-eq0.true)
    ∙ decided_is _ _ (offering c.args.protocols.now c.args.algorithms.now c.args.room) _ c.requires _ _ c.found-first.ensures refl

pub returns-then-first-eq0-2 : goal.returns-then-first-eq0-2
unfolding slot_of shape_of row_of
returns-then-first-eq0-2 c =
    ap told_answer c.refused-then-first-eq0-2.ensures
    ∙ taken _ _ _ (eq-eqb _ _ c.if-first-eq0-2.true)
    ∙ left _ _ _ (ne_eqb _ _ c.if-first-eq0.false)
    ∙ decided_is _ _ (offering c.args.protocols.now c.args.algorithms.now c.args.room) _ c.requires _ _ c.found-first.ensures refl

pub returns-then-second-eq0 : goal.returns-then-second-eq0
unfolding slot_of shape_of row_of
returns-then-second-eq0 c =
    ap told_answer c.refused-then-second-eq0.ensures
    ∙ taken _ _ _ (eq-eqb _ _ c.if-second-eq0.true)
    ∙ left _ _ _ (ne_eqb _ _ c.if-first-eq0-2.false)
    ∙ left _ _ _ (ne_eqb _ _ c.if-first-eq0.false)
    ∙ decided_is _ _ (offering c.args.protocols.now c.args.algorithms.now c.args.room) _ c.requires _ _ c.found-first.ensures c.found-second.ensures

pub returns-then-second-eq0-2 : goal.returns-then-second-eq0-2
unfolding slot_of shape_of row_of
returns-then-second-eq0-2 c =
    ap told_answer c.refused-then-second-eq0-2.ensures
    ∙ taken _ _ _ (eq-eqb _ _ c.if-second-eq0-2.true)
    ∙ left _ _ _ (ne_eqb _ _ c.if-second-eq0.false)
    ∙ left _ _ _ (ne_eqb _ _ c.if-first-eq0-2.false)
    ∙ left _ _ _ (ne_eqb _ _ c.if-first-eq0.false)
    ∙ decided_is _ _ (offering c.args.protocols.now c.args.algorithms.now c.args.room) _ c.requires _ _ c.found-first.ensures c.found-second.ensures

pub returns-then-not-has : goal.returns-then-not-has
unfolding slot_of shape_of row_of
returns-then-not-has c =
    ap told_answer c.refused-then-not-has.ensures
    ∙ ap (λ (n : ℕ). refused_with (record { number = 17; beside = protocol n; place = c.args.place })) c.number_in.ensures
    ∙ taken _ _ _ (sym (ap not (c.has.ensures ∙ ap (holds c.args.protocols.now) c.number_in.ensures)) ∙ c.if-not-has.true-raw)
    ∙ left _ _ _ (ne_eqb _ _ c.if-second-eq0-2.false)
    ∙ left _ _ _ (ne_eqb _ _ c.if-second-eq0.false)
    ∙ left _ _ _ (ne_eqb _ _ c.if-first-eq0-2.false)
    ∙ left _ _ _ (ne_eqb _ _ c.if-first-eq0.false)
    ∙ decided_is _ _ (offering c.args.protocols.now c.args.algorithms.now c.args.room) _ c.requires _ _ c.found-first.ensures c.found-second.ensures

pub returns-then-not-has-2 : goal.returns-then-not-has-2
unfolding slot_of shape_of row_of
returns-then-not-has-2 c =
    ap told_answer c.refused-then-not-has-2.ensures
    ∙ ap (λ (n : ℕ). refused_with (record { number = 17; beside = algorithm n; place = c.args.place })) c.number_in-2.ensures
    ∙ taken _ _ _ (sym (ap not (c.has-2.ensures ∙ ap (holds c.args.algorithms.now) c.number_in-2.ensures)) ∙ c.if-not-has-2.true-raw)
    ∙ left _ _ _ (sym (ap not (c.has.ensures ∙ ap (holds c.args.protocols.now) c.number_in.ensures)) ∙ c.if-not-has.false-raw)
    ∙ left _ _ _ (ne_eqb _ _ c.if-second-eq0-2.false)
    ∙ left _ _ _ (ne_eqb _ _ c.if-second-eq0.false)
    ∙ left _ _ _ (ne_eqb _ _ c.if-first-eq0-2.false)
    ∙ left _ _ _ (ne_eqb _ _ c.if-first-eq0.false)
    ∙ decided_is _ _ (offering c.args.protocols.now c.args.algorithms.now c.args.room) _ c.requires _ _ c.found-first.ensures c.found-second.ensures

pub returns : goal.returns
unfolding slot_of shape_of row_of
returns c =
    c.with_cookies.ensures
    ∙ (λ j. cookies_for c.args.room c.args.place c.args.message.now c.args.cells.now (c.number_in.ensures j) (c.number_in-2.ensures j))
    ∙ left _ _ _ (sym (ap not (c.has-2.ensures ∙ ap (holds c.args.algorithms.now) c.number_in-2.ensures)) ∙ c.if-not-has-2.false-raw)
    ∙ left _ _ _ (sym (ap not (c.has.ensures ∙ ap (holds c.args.protocols.now) c.number_in.ensures)) ∙ c.if-not-has.false-raw)
    ∙ left _ _ _ (ne_eqb _ _ c.if-second-eq0-2.false)
    ∙ left _ _ _ (ne_eqb _ _ c.if-second-eq0.false)
    ∙ left _ _ _ (ne_eqb _ _ c.if-first-eq0-2.false)
    ∙ left _ _ _ (ne_eqb _ _ c.if-first-eq0.false)
    ∙ decided_is _ _ (offering c.args.protocols.now c.args.algorithms.now c.args.room) _ c.requires _ _ c.found-first.ensures c.found-second.ensures
