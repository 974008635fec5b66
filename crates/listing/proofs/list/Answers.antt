-- `listing::list` meets its contract: the last line is made first, and nothing is written unless all of it fits; lines and answer are of the walk
-- that `judge` made.
use mathlib.Core.Path.{refl, sym, ◌∙◌}
use Rattle.listing.proofs.Whole.{list_stop, list_short, list_long, list_room, list_put}
use Rattle.listing.proofs.list.Goals as goal

pub returns-then-out-n : goal.returns-then-out-n
returns-then-out-n c = list_short _ _ _ _ refl _ c.judge-judged.ensures _ c.put_last-n.ensures c.if-out-n.true

pub lines_fit-requires : goal.lines_fit-requires
lines_fit-requires c = list_stop _ _ _ _ c.cut_at-cut.ensures.holds _ c.judge-judged.ensures

pub put_all-requires : goal.put_all-requires
put_all-requires c = (list_stop _ _ _ _ c.cut_at-cut.ensures.holds _ c.judge-judged.ensures, list_room _ _ _ _ c.cut_at-cut.ensures.holds _ c.judge-judged.ensures c.args.out.now c.put_last-n.ensures c.if-out-n.false (sym c.if-lines_fit.true ∙ c.lines_fit.ensures))

pub returns-then-lines_fit : goal.returns-then-lines_fit
returns-then-lines_fit c = list_put _ _ _ _ c.cut_at-cut.ensures.holds _ c.judge-judged.ensures _ c.put_last-n.ensures c.if-out-n.false (sym c.if-lines_fit.true ∙ c.lines_fit.ensures) c.put_all.ensures

pub returns : goal.returns
returns c = list_long _ _ _ _ c.cut_at-cut.ensures.holds _ c.judge-judged.ensures _ c.put_last-n.ensures c.if-out-n.false (sym c.if-lines_fit.false ∙ c.lines_fit.ensures)
