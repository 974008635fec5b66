-- `layout::word_of` meets its contract: the top bit of a number of fifteen bits is free, so that the sum fits.
use Rattle.layout.specs.Write.{word_of}
use Rattle.layout.proofs.word_of.Goals as goal

pub returns-then-critical : goal.returns-then-critical
unfolding word_of
returns-then-critical c = rw c.if-critical.true

pub returns : goal.returns
unfolding word_of
returns c = rw c.if-critical.false
