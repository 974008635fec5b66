-- `supporting::support_reply_length` meets its contract: each return is the definition's for what was found before it.
use native.Mathlib.Omega.{arith}
use mathlib.Core.Path.{sym, ◌∙◌}
use Prim.Native.Nat.{◌*◌}
use lib.ListN.{length}
use Rattle.messages.specs.Messages.{support_length}
use Rattle.supporting.proofs.Judging.{list_short, support_odd, support_long, support_long_2, support_judged}
use Rattle.supporting.proofs.support_reply_length.Goals as goal

pub returns-then-asked_too_long : goal.returns-then-asked_too_long
returns-then-asked_too_long c = support_long _ _ _ c.if-pairs-eq0.true (sym c.asked_too_long.ensures ∙ c.if-asked_too_long.true)

pub returns-then-asked_too_long-2 : goal.returns-then-asked_too_long-2
returns-then-asked_too_long-2 c = support_long_2 _ _ _ c.if-pairs-eq0.true (sym c.asked_too_long.ensures ∙ c.if-asked_too_long.false) (sym c.asked_too_long-then-pairs-eq0.ensures ∙ c.if-asked_too_long-2.true)

pub overflow_add-lists : goal.overflow_add-lists
overflow_add-lists c = let a = c.args in omega (arith, list_short a.asked.algorithms (2 * length a.pairs.now) (sym c.asked_too_long.ensures ∙ c.if-asked_too_long.false), list_short a.asked.protocols (2 * length a.protocols.now) (sym c.asked_too_long-then-pairs-eq0.ensures ∙ c.if-asked_too_long-2.false))

pub overflow_add-result : goal.overflow_add-result
overflow_add-result c = let a = c.args in omega (arith, list_short a.asked.algorithms (2 * length a.pairs.now) (sym c.asked_too_long.ensures ∙ c.if-asked_too_long.false), list_short a.asked.protocols (2 * length a.protocols.now) (sym c.asked_too_long-then-pairs-eq0.ensures ∙ c.if-asked_too_long-2.false))

pub overflow_add-result-then-pairs-eq0 : goal.overflow_add-result-then-pairs-eq0
overflow_add-result-then-pairs-eq0 c = let a = c.args in omega (arith, list_short a.asked.algorithms (2 * length a.pairs.now) (sym c.asked_too_long.ensures ∙ c.if-asked_too_long.false), list_short a.asked.protocols (2 * length a.protocols.now) (sym c.asked_too_long-then-pairs-eq0.ensures ∙ c.if-asked_too_long-2.false))

pub returns-then-pairs-eq0 : goal.returns-then-pairs-eq0
unfolding support_length
returns-then-pairs-eq0 c = support_judged _ _ _ c.if-pairs-eq0.true (sym c.asked_too_long.ensures ∙ c.if-asked_too_long.false) (sym c.asked_too_long-then-pairs-eq0.ensures ∙ c.if-asked_too_long-2.false) _ (omega arith)

pub returns : goal.returns
returns c = support_odd _ _ _ c.if-pairs-eq0.false
