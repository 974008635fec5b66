-- `record::kind_of` meets its contract: a mask of fifteen ones is a remainder.
use lib.Bits.{and_mask}
use Rattle.record.specs.Record.{kind_of}
use Rattle.record.proofs.kind_of.Goals as goal

pub returns : goal.returns
unfolding kind_of
returns c = and_mask c.args.word 15
