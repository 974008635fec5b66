-- `wire::put_bytes` meets its contract. The loop's invariant: the output is as it was, with the bytes passed at its front.
use mathlib.Core.List.{List}
use mathlib.Core.Path.{refl, sym, ap, ◌∙◌}
use Prim.Native.Nat.{ℕ}
use native.Mathlib.Omega.{arith}
use borrow.Author.Rules.{rules}
use lib.ListN.{set, get_or, length-set}
use lib.Seq.{take_all}
use Rattle.wire.specs.Over.{over}
use Rattle.wire.proofs.Over.{over_none, over_more, as_put, tried_put}
use Rattle.wire.proofs.put_bytes.Goals as goal

pub loop-i-init : goal.loop-i-init
loop-i-init c = (refl, sym (over_none _))

pub loop-i-preserved : goal.loop-i-preserved
loop-i-preserved c =
    let i = c.loop-i.i in
    let s = c.args.src.now in
    (simp length-set (search rules), ap (λ (l : List ℕ). set l i (get_or s i 0)) c.loop-i.invariant.1 ∙ over_more s _ i (search rules) (search rules))

pub returns : goal.returns
returns c =
    tried_put (omega arith) (as_put _ (c.loop-i.invariant.1 ∙ ap (λ (l : List ℕ). over l c.args.out.now) (take_all _ _ (search rules))))
