-- `request::walk_into` meets its contract: the table is the reader.
use mathlib.Core.Path.{ap, ◌∙◌}
use Rattle.walk.specs.Walk.{Reader}
use Rattle.walk.specs.Finding.{found_by}
use Rattle.request.proofs.Reader.{table_reader_lem}
use Rattle.request.proofs.walk_into.Goals as goal

pub returns : goal.returns
returns c = c.walk.ensures ∙ ap (λ (R : Reader). found_by R c.args.message.now c.args.limit) (table_reader_lem c.args.profile)
