-- `record::is_critical` meets its contract: the mask of the top bit is 0 below it, and not 0 from it on.
use borrow.Author.Rules.{rules}
use Rattle.record.specs.Record.{critical_of}
use Rattle.record.proofs.Mask.{top_bit}
use Rattle.record.proofs.is_critical.Goals as goal

pub returns : goal.returns
unfolding critical_of
returns c = top_bit c.args.word (search rules)
