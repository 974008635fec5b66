-- `feeding::connection_in` meets its contract: where the cells are a connection's, each is read whole.
use mathlib.Core.Path.{sym, ◌∙◌}
use native.Mathlib.Omega.{arith}
use Rattle.feeding.specs.Code.{kept_in}
use Rattle.feeding.proofs.Holding.{line_sound}
use Rattle.feeding.proofs.connection_in.Goals as goal

pub overflow_cast-result : goal.overflow_cast-result
overflow_cast-result c = let s = line_sound _ (sym c.is_connection.ensures ∙ c.if-is_connection.true) in omega arith

pub overflow_cast-result-then-is_connection : goal.overflow_cast-result-then-is_connection
overflow_cast-result-then-is_connection c = let s = line_sound _ (sym c.is_connection.ensures ∙ c.if-is_connection.true) in omega arith

pub overflow_cast-c : goal.overflow_cast-c
overflow_cast-c c = let s = line_sound _ (sym c.is_connection.ensures ∙ c.if-is_connection.true) in omega arith

pub overflow_cast-c-then-is_connection : goal.overflow_cast-c-then-is_connection
overflow_cast-c-then-is_connection c = let s = line_sound _ (sym c.is_connection.ensures ∙ c.if-is_connection.true) in omega arith

pub state_in-requires : goal.state_in-requires
state_in-requires c = (line_sound _ (sym c.is_connection.ensures ∙ c.if-is_connection.true)).standing

pub returns-then-is_connection : goal.returns-then-is_connection
unfolding kept_in
returns-then-is_connection c = rw (sym c.is_connection.ensures ∙ c.if-is_connection.true, c.profile_in.ensures, c.state_in.ensures)

pub returns : goal.returns
unfolding kept_in
returns c = rw (sym c.is_connection.ensures ∙ c.if-is_connection.false)
