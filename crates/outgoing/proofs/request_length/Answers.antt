-- `outgoing::request_length` meets its contract: each return is the definition's for what was found before it.
use native.Mathlib.Omega.{arith}
use mathlib.Core.Path.{sym, ap, ◌∙◌}
use Prim.Native.Nat.{◌*◌}
use lib.ListN.{length}
use borrow.Author.Tests.{ltb-false}
use Rattle.plan.specs.Code.{told_tally}
use Rattle.plan.proofs.Planned.{names_of}
use Rattle.outgoing.proofs.Judging.{request_broken, request_ill, request_long, request_long_2, request_judged}
use Rattle.outgoing.proofs.request_length.Goals as goal

pub returns-in_default : goal.returns-in_default
returns-in_default c = request_broken c.args.protocols.now c.args.algorithms.now _ _ (ap told_tally (sym c.in_default.is) ∙ c.walk_tray-tally.ensures)

pub are_utf8-requires : goal.are_utf8-requires
are_utf8-requires c = let x = names_of _ _ _ _ (ap told_tally (sym c.in-Whole.is) ∙ c.walk_tray-tally.ensures) in (2, x.bodies, x.walked)

pub returns-then-too_long : goal.returns-then-too_long
returns-then-too_long c = request_long _ _ _ _ _ _ (ap told_tally (sym c.in-Whole.is) ∙ c.walk_tray-tally.ensures) _ c.are_utf8.ensures c.if-are_utf8.true (sym c.too_long.ensures ∙ c.if-too_long.true)

pub returns-then-too_long-2 : goal.returns-then-too_long-2
returns-then-too_long-2 c = request_long_2 _ _ _ _ _ _ (ap told_tally (sym c.in-Whole.is) ∙ c.walk_tray-tally.ensures) _ c.are_utf8.ensures c.if-are_utf8.true (sym c.too_long.ensures ∙ c.if-too_long.false) (sym c.too_long-then-are_utf8.ensures ∙ c.if-too_long-2.true)

pub overflow_add-lists-then-are_utf8-2 : goal.overflow_add-lists-then-are_utf8-2
overflow_add-lists-then-are_utf8-2 c = let a = c.args in omega (arith, ltb-false 65535 (2 * length a.protocols.now) (sym c.too_long.ensures ∙ c.if-too_long.false), ltb-false 65535 (2 * length a.algorithms.now) (sym c.too_long-then-are_utf8.ensures ∙ c.if-too_long-2.false))

pub overflow_mul-result : goal.overflow_mul-result
overflow_mul-result c = omega (arith, (names_of _ _ _ _ (ap told_tally (sym c.in-Whole.is) ∙ c.walk_tray-tally.ensures)).inside)

pub overflow_add-result : goal.overflow_add-result
overflow_add-result c = let a = c.args in omega (arith, (names_of _ _ _ _ (ap told_tally (sym c.in-Whole.is) ∙ c.walk_tray-tally.ensures)).inside, ltb-false 65535 (2 * length a.protocols.now) (sym c.too_long.ensures ∙ c.if-too_long.false), ltb-false 65535 (2 * length a.algorithms.now) (sym c.too_long-then-are_utf8.ensures ∙ c.if-too_long-2.false))

pub overflow_add-result-then-are_utf8 : goal.overflow_add-result-then-are_utf8
overflow_add-result-then-are_utf8 c = let a = c.args in omega (arith, (names_of _ _ _ _ (ap told_tally (sym c.in-Whole.is) ∙ c.walk_tray-tally.ensures)).inside, ltb-false 65535 (2 * length a.protocols.now) (sym c.too_long.ensures ∙ c.if-too_long.false), ltb-false 65535 (2 * length a.algorithms.now) (sym c.too_long-then-are_utf8.ensures ∙ c.if-too_long-2.false))

pub overflow_add-result-then-are_utf8-2 : goal.overflow_add-result-then-are_utf8-2
overflow_add-result-then-are_utf8-2 c = let a = c.args in omega (arith, (names_of _ _ _ _ (ap told_tally (sym c.in-Whole.is) ∙ c.walk_tray-tally.ensures)).inside, ltb-false 65535 (2 * length a.protocols.now) (sym c.too_long.ensures ∙ c.if-too_long.false), ltb-false 65535 (2 * length a.algorithms.now) (sym c.too_long-then-are_utf8.ensures ∙ c.if-too_long-2.false))

pub returns-then-are_utf8 : goal.returns-then-are_utf8
returns-then-are_utf8 c = request_judged _ _ _ _ _ _ (ap told_tally (sym c.in-Whole.is) ∙ c.walk_tray-tally.ensures) _ c.are_utf8.ensures c.if-are_utf8.true (sym c.too_long.ensures ∙ c.if-too_long.false) (sym c.too_long-then-are_utf8.ensures ∙ c.if-too_long-2.false) _ (omega arith)

pub returns : goal.returns
returns c = request_ill c.args.protocols.now c.args.algorithms.now _ _ _ _ (ap told_tally (sym c.in-Whole.is) ∙ c.walk_tray-tally.ensures) _ c.are_utf8.ensures c.if-are_utf8.false
