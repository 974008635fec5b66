-- `layout::is_number` meets its contract: each arm knows what the body holds, and the definition computes at it.
use Rattle.layout.specs.Write.{is_number}
use Rattle.layout.proofs.is_number.Goals as goal

pub returns-in-Skipped : goal.returns-in-Skipped
unfolding is_number
returns-in-Skipped c = rw c.in-Skipped.is

pub returns-in-Numbers : goal.returns-in-Numbers
unfolding is_number
returns-in-Numbers c = rw c.in-Numbers.is

pub returns-in-Number : goal.returns-in-Number
unfolding is_number
returns-in-Number c = rw c.in-Number.is

pub returns-in-Bytes : goal.returns-in-Bytes
unfolding is_number
returns-in-Bytes c = rw c.in-Bytes.is

pub returns-in-Name : goal.returns-in-Name
unfolding is_number
returns-in-Name c = rw c.in-Name.is

pub returns-in-Pairs : goal.returns-in-Pairs
unfolding is_number
returns-in-Pairs c = rw c.in-Pairs.is

pub returns-in-Halves : goal.returns-in-Halves
unfolding is_number
returns-in-Halves c = rw c.in-Halves.is

pub returns-in-Unknown : goal.returns-in-Unknown
unfolding is_number
returns-in-Unknown c = rw c.in-Unknown.is
