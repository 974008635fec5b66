-- `walk::cut_at` meets its contract: past the end a cut takes all.
use mathlib.Core.Path.{sym, ◌∙◌}
use native.Mathlib.Omega.{arith}
use lib.Seq.{take_all}
use lib.ListN.{length}
use native.Mathlib.Nat.{zero-add, sub-zero}
use Rattle.walk.proofs.cut_at.Goals as goal

pub returns-then-n-message : goal.returns-then-n-message
returns-then-n-message c = record { holds = rw sub-zero; place = rw zero-add }

pub returns : goal.returns
returns c =
    let m = c.args.message.now in
    record { holds = rw sub-zero (take_all (length m) m (omega arith) ∙ sym (take_all c.args.limit m (omega arith))); place = rw zero-add }
