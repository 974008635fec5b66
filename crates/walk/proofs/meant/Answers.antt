-- `walk::meant` meets its contract: an unknown kind by its bit, a known one by its entry; what is noted however often goes on either way.
use mathlib.Core.Path.{◌∙◌}
use borrow.Author.Tests.{eq-eqb, ne_eqb}
use Rattle.walk.specs.Code.{ruled_of, unknown_of, meant_of}
use Rattle.walk.proofs.meant.Goals as goal

pub returns-then-rule-eq-NOTED : goal.returns-then-rule-eq-NOTED
unfolding meant_of ruled_of unknown_of
returns-then-rule-eq-NOTED c = rw c.if-rule-eq-NOTED.true c.unless_unknown.ensures

pub returns-then-slot-eq-UNKNOWN : goal.returns-then-slot-eq-UNKNOWN
unfolding meant_of unknown_of
returns-then-slot-eq-UNKNOWN c = c.unless_unknown-then-slot-eq-UNKNOWN.ensures ∙ simp (eq-eqb _ _ c.if-slot-eq-UNKNOWN.true)

pub returns : goal.returns
unfolding meant_of
returns c = simp (ne_eqb _ _ c.if-slot-eq-UNKNOWN.false) c.ruled.ensures
