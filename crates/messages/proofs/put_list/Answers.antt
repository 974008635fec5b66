-- `messages::put_list` meets its contract: the cells are put into what the header leaves of the output.
use mathlib.Core.Path.{sym, ◌∙◌}
use native.Mathlib.Omega.{arith}
use Prim.Native.Nat.{◌*◌}
use lib.ListN.{length}
use borrow.Author.Tests.{ltb-true, ltb-false}
use Rattle.wire.proofs.Over.{rest_room}
use Rattle.messages.proofs.Putting.{list_record, long_record, short_not, short_put}
use Rattle.messages.proofs.Cleared.{length_cells}
use Rattle.messages.proofs.put_list.Goals as goal

pub returns-then-too_long : goal.returns-then-too_long
returns-then-too_long c = long_record _ _ _ (length_cells c.args.cells.now) _ (ltb-true 65535 _ (sym c.too_long.ensures ∙ c.if-too_long.true))

pub returns-then-out-size : goal.returns-then-out-size
returns-then-out-size c = short_not _ _ _ (length_cells c.args.cells.now) (ltb-false 65535 _ (sym c.too_long.ensures ∙ c.if-too_long.false)) _ c.if-out-size.true

pub overflow_cast-size : goal.overflow_cast-size
overflow_cast-size c = omega (arith, ltb-false 65535 (2 * length c.args.cells.now) (sym c.too_long.ensures ∙ c.if-too_long.false))

pub put_cells-requires : goal.put_cells-requires
put_cells-requires c = rest_room (c.put_header-at.ensures.room (omega arith)) (omega (arith, c.if-out-size.false))

pub returns : goal.returns
returns c = short_put _ _ _ (length_cells c.args.cells.now) (ltb-false 65535 _ (sym c.too_long.ensures ∙ c.if-too_long.false)) c.if-out-size.false (list_record _ (c.put_header-at.ensures.room (omega arith)) c.put_cells.ensures c.if-out-size.false)
