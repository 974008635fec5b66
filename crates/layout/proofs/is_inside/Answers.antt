-- `layout::is_inside` meets its contract: a start past the end is outside, and from any other the rest decides.
use native.Mathlib.Omega.{arith}
use Rattle.layout.proofs.Writing.{outside, inside_rest}
use Rattle.layout.proofs.is_inside.Goals as goal

pub returns-then-n-p : goal.returns-then-n-p
returns-then-n-p c = outside _ _ (omega arith)

pub returns : goal.returns
returns c = inside_rest _ _ (omega arith)
