-- `walk::same_numbers` meets its contract: the loop compares number by number, and up to its index they are the same.
use native.Mathlib.Omega.{arith}
use Rattle.walk.proofs.Sameness.{alike_start, lengths_not, alike_not, alike_on, alike_end}
use borrow.Author.Rules.{rules}
use Rattle.walk.proofs.same_numbers.Goals as goal

pub returns-then-numbers-others : goal.returns-then-numbers-others
returns-then-numbers-others c = lengths_not _ _ c.if-numbers-others.true

pub loop-i-init : goal.loop-i-init
loop-i-init c = alike_start _ _ c.if-numbers-others.false

pub bounds-others-i : goal.bounds-others-i
bounds-others-i c = omega (arith, c.loop-i.invariant.long, c.loop-i-test.true)

pub returns-then-numbers-i : goal.returns-then-numbers-i
returns-then-numbers-i c = alike_not _ _ _ c.loop-i.invariant (search rules) c.if-numbers-i.true

pub loop-i-preserved : goal.loop-i-preserved
loop-i-preserved c = alike_on _ _ _ c.loop-i.invariant (search rules) c.if-numbers-i.false

pub returns : goal.returns
returns c = alike_end _ _ _ c.loop-i.invariant c.loop-i-test.false
