-- `layout::is_sound` meets its contract: each arm knows what the body holds, and the definition computes at it.
use mathlib.Core.Path.{ap, ◌∙◌}
use Rattle.utf8.specs.Utf8.{well_formed}
use Rattle.layout.specs.Write.{is_sound}
use Rattle.layout.proofs.is_sound.Goals as goal

pub returns-in-Skipped : goal.returns-in-Skipped
unfolding is_sound
returns-in-Skipped c = rw c.in-Skipped.is

pub returns-in-Numbers : goal.returns-in-Numbers
unfolding is_sound
returns-in-Numbers c = rw c.in-Numbers.is

pub returns-in-Number : goal.returns-in-Number
unfolding is_sound
returns-in-Number c = rw c.in-Number.is

pub returns-in-Bytes : goal.returns-in-Bytes
unfolding is_sound
returns-in-Bytes c = rw c.in-Bytes.is

pub returns-in-Name : goal.returns-in-Name
unfolding is_sound
returns-in-Name c = rw c.in-Name.is (c.is_utf8.ensures ∙ ap well_formed c.of.ensures.holds)

pub returns-in-Pairs : goal.returns-in-Pairs
unfolding is_sound
returns-in-Pairs c = rw c.in-Pairs.is

pub returns-in-Halves : goal.returns-in-Halves
unfolding is_sound
returns-in-Halves c = rw c.in-Halves.is

pub returns-in-Unknown : goal.returns-in-Unknown
unfolding is_sound
returns-in-Unknown c = rw c.in-Unknown.is c.is_unknown.ensures
