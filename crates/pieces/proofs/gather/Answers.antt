-- `pieces::gather` meets its contract: the record that the bytes gathered end with is taken up again, and a record made by hand is walked over first.
use mathlib.Core.Path.{sym, ap, ◌∙◌}
use Rattle.pieces.specs.Pieces.{told_connection}
use Rattle.pieces.specs.Code.{told_scanned, rules_of}
use Rattle.pieces.proofs.Taking.{smaller_below, unbroken, decides_places, waits_place, gathered_decides, gathered_fits, gathered_waits}
use borrow.Author.Rules.{rules}
use Rattle.pieces.proofs.gather.Goals as goal

pub slice_bounds-scan-count : goal.slice_bounds-scan-count
slice_bounds-scan-count c = smaller_below _ _ _ c.smaller-start.ensures

pub slice_bounds-scan-start : goal.slice_bounds-scan-start
slice_bounds-scan-start c = smaller_below _ _ _ c.smaller-start.ensures

pub slice_bounds-scan-end : goal.slice_bounds-scan-end
slice_bounds-scan-end c =
    (unbroken (told_connection c.args.connection) c.args.buffer.now c.requires).0

pub overflow_add-result : goal.overflow_add-result
overflow_add-result c =
    let i = (decides_places (rules_of c.args.connection c.args.rules.now) c.args.connection c.args.piece.now c.args.closed c.args.buffer.now c.requires _ c.smaller-start.ensures
    _ _ _ (ap told_scanned (sym c.in-Decides.is) ∙ c.scan-scanned.ensures)).1 in
    search rules

pub overflow_add-result-in-Decides : goal.overflow_add-result-in-Decides
overflow_add-result-in-Decides c =
    let i = (decides_places (rules_of c.args.connection c.args.rules.now) c.args.connection c.args.piece.now c.args.closed c.args.buffer.now c.requires _ c.smaller-start.ensures
    _ _ _ (ap told_scanned (sym c.in-Decides.is) ∙ c.scan-scanned.ensures)).0 in
    search rules

pub overflow_add-front : goal.overflow_add-front
overflow_add-front c =
    let i = waits_place (rules_of c.args.connection c.args.rules.now) c.args.connection c.args.piece.now c.args.closed c.args.buffer.now c.requires _ c.smaller-start.ensures
    _ _ (ap told_scanned (sym c.in-Waits.is) ∙ c.scan-scanned.ensures) in
    search rules

pub take_piece-requires : goal.take_piece-requires
take_piece-requires c =
    gathered_fits (rules_of c.args.connection c.args.rules.now) c.args.connection c.args.piece.now c.args.closed c.args.buffer.now c.requires _ c.smaller-start.ensures
    _ _ (ap told_scanned (sym c.in-Waits.is) ∙ c.scan-scanned.ensures)

pub returns-in-Decides : goal.returns-in-Decides
returns-in-Decides c =
    gathered_decides (rules_of c.args.connection c.args.rules.now) c.args.connection c.args.piece.now c.args.closed c.args.buffer.now c.requires _ c.smaller-start.ensures
    _ _ _ (ap told_scanned (sym c.in-Decides.is) ∙ c.scan-scanned.ensures)

pub returns-in-Waits : goal.returns-in-Waits
returns-in-Waits c =
    gathered_waits (rules_of c.args.connection c.args.rules.now) c.args.connection c.args.piece.now c.args.closed c.args.buffer.now c.requires _ c.smaller-start.ensures
    _ _ (ap told_scanned (sym c.in-Waits.is) ∙ c.scan-scanned.ensures) _ _ c.take_piece.ensures
