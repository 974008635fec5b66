-- `reply::KeyExchangeResponse::named` meets its contract: the cells are those that the walk found.
use mathlib.Core.Path.{ap, ◌∙◌}
use mathlib.Core.List.{List}
use Prim.Native.Nat.{ℕ}
use Rattle.layout.specs.Table.{row_of, shape_of}
use Rattle.walk.specs.Shown.{slot_of}
use Rattle.walk.specs.Found.{entry_in}
use Rattle.walk.specs.Finding.{Found}
use Rattle.reply.specs.Reply.{named_by}
use Rattle.reply.specs.Code.{number_in}
use Rattle.reply.proofs.KeyExchangeResponse.named.Goals as goal

pub returns : goal.returns
unfolding named_by number_in slot_of shape_of row_of
returns c =
    let m = c.args.message.now in
    let cells = ap (λ (f : Found). f.cells) c.walk_into.ensures in (
      c.number_in.ensures ∙ ap (number_in m) c.found.ensures ∙ ap (λ (x : List ℕ). number_in m (entry_in x 1)) cells,
      c.number_in-2.ensures ∙ ap (number_in m) c.found-2.ensures ∙ ap (λ (x : List ℕ). number_in m (entry_in x 4)) cells,
    )
