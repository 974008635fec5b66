-- `pieces::come` meets its contract: what was gathered, and after an end record behind which nothing may follow what comes after that.
use native.Mathlib.Omega.{arith}
use mathlib.Core.Path.{refl}
use Prim.Native.Nat.{◌+◌, ◌-◌, ◌≤◌}
use lib.ListN.{length}
use Rattle.pieces.specs.Pieces.{told_connection}
use Rattle.pieces.specs.Code.{rules_of}
use Rattle.pieces.proofs.Taking.{smaller_min, unbroken}
use Rattle.pieces.proofs.Ending.{gathered_room, come_by}
use borrow.Author.Rules.{rules}
use Rattle.pieces.proofs.come.Goals as goal

pub overflow_sub-limit : goal.overflow_sub-limit
overflow_sub-limit c = (unbroken (told_connection c.args.connection) c.args.buffer.now c.requires).1

pub overflow_add-long : goal.overflow_add-long
overflow_add-long c =
    let u = (unbroken (told_connection c.args.connection) c.args.buffer.now c.requires).1 in
    let i : c.args.connection.gathered + c.smaller.result ≤ c.args.connection.limit =
    omega (arith, c.smaller.ensures, smaller_min (length c.args.piece.now) (c.args.connection.limit - c.args.connection.gathered), u) in
    search rules

pub slice_bounds-after_end-end : goal.slice_bounds-after_end-end
slice_bounds-after_end-end c =
    gathered_room (rules_of c.args.connection c.args.rules.now) c.args.connection c.args.piece.now c.args.closed c.args.buffer.now c.requires _ _ c.gather-came.ensures

pub returns : goal.returns
returns c =
    come_by (rules_of c.args.connection c.args.rules.now) c.args.connection c.args.piece.now c.args.closed c.args.buffer.now c.requires _ _ c.gather-came.ensures
    _ _ c.smaller.ensures refl _ c.after_end.ensures
