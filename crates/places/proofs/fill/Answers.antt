-- `places::fill` meets its contract: it stores where a cell can count the bytes and there is room for so many, looks for one more from where it
-- stopped, and refuses everywhere else.
use Rattle.places.proofs.Filling.{fills_first, fills_all, fills_long, fills_many}
use Rattle.places.proofs.fill.Goals as goal

pub returns-then-covered-gt-CELL : goal.returns-then-covered-gt-CELL
returns-then-covered-gt-CELL c = fills_long _ _ _ _ _ c.full.ensures c.if-covered-gt-CELL.true

pub returns-then-table-count : goal.returns-then-table-count
returns-then-table-count c = fills_many _ _ _ _ _ c.full-then-table-count.ensures c.if-table-count.true

pub returns-then-follows : goal.returns-then-follows
returns-then-follows c = fills_first _ _ _ _ _ _ _ c.if-table-count.false c.if-covered-gt-CELL.false c.store-held.ensures _ c.follows.ensures c.if-follows.true

pub returns : goal.returns
returns c = fills_all _ _ _ _ _ _ _ c.if-table-count.false c.if-covered-gt-CELL.false c.store-held.ensures _ c.follows.ensures c.if-follows.false
