-- `reply::number_in` meets its contract: the part is the body.
use mathlib.Core.Path.{ap, ◌∙◌}
use Prim.Native.Nat.{ℕ}
use mathlib.Core.List.{List}
use Rattle.wire.specs.Bytes.{number_at, part_at}
use Rattle.layout.specs.declared.Part.{Part}
use Rattle.reply.specs.Code.{number_in}
use Rattle.reply.proofs.number_in.Goals as goal

pub returns : goal.returns
unfolding number_in
returns c = c.number_at.ensures ∙ ap (λ (b : List ℕ). number_at b 0) c.part.ensures.holds ∙ ap (λ (p : Part). number_at (part_at c.args.message.now p.start p.len) 0) c.body-body.ensures
