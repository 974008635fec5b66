-- `wire::part` meets its contract: where the part is not inside the answer is empty and lies at the front, as the definition says.
use mathlib.Core.Path.{refl}
use native.Mathlib.Omega.{arith}
use Rattle.wire.proofs.Bytes.{part_none, part_some}
use Rattle.wire.proofs.part.Goals as goal
use Rattle.wire.proofs.part.Goals.{else-start-s-via-then-start-s+else-len-s, else-start-s-via-else-start-s}

pub returns-then-len-s : goal.returns-then-len-s
returns-then-len-s c =
    let p = part_some c.args.s.now c.args.start c.args.len (omega (arith, c.if-start-s.true, c.if-len-s.true)) in
    record { holds = p.0; block = refl; offset = omega (arith, p.1) }

pub returns-else-start-s : goal.returns-else-start-s
returns-else-start-s c =
    let p = part_none c.args.s.now c.args.start c.args.len (elim c.else-start-s.branch [
      | else-start-s-via-then-start-s+else-len-s w ↦ omega (arith, w.if-start-s.true, w.if-len-s.false)
      | else-start-s-via-else-start-s w ↦ omega (arith, w.if-start-s.false)
    ]) in
    record { holds = p.0; block = refl; offset = omega (arith, p.1) }
