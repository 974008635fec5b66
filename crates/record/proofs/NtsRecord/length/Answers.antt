-- `record::NtsRecord::length` meets its contract: it is the length of the record laid out.
use mathlib.Core.Path.{ap, ◌∙◌}
use Rattle.layout.specs.Write.{measured}
use Rattle.layout.specs.declared.Layout.{Layout}
use Rattle.record.proofs.NtsRecord.length.Goals as goal

pub returns : goal.returns
returns c = c.length.ensures ∙ ap (λ (l : Layout). measured l c.args.source.now) c.layout_of.ensures
