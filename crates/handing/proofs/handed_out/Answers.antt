-- `handing::handed_out` meets its contract: the two tests are that of start and length together.
use Prim.Native.Nat.{◌+◌}
use native.Mathlib.Omega.{arith}
use borrow.Author.Tests.{le-leb, lt-leb}
use Rattle.handing.proofs.handed_out.Goals as goal

pub returns-then-size-start : goal.returns-then-size-start
returns-then-size-start c = let a = c.args in rw (lt-leb (a.start + a.len) a.size (omega arith))

pub returns-then-size-start-2 : goal.returns-then-size-start-2
returns-then-size-start-2 c = let a = c.args in rw (lt-leb (a.start + a.len) a.size (omega arith))

pub returns : goal.returns
returns c = let a = c.args in rw (le-leb (a.start + a.len) a.size (omega arith))
