-- `reply::KeyExchangeResponse::parse` meets its contract: what is judged, and where there are cookies the table filled from the bytes that the walk covered.
use native.Mathlib.Omega.{arith}
use Rattle.reply.proofs.Answering.{place_inside, reads_none, reads_cookies}
use Rattle.reply.proofs.KeyExchangeResponse.parse.Goals as goal

pub returns-then-count-eq0 : goal.returns-then-count-eq0
returns-then-count-eq0 c = reads_none _ _ _ _ _ c.args.table.now _ c.judge-judged.ensures _ c.cookies_in-count.ensures c.if-count-eq0.true

pub slice_bounds-fill-end : goal.slice_bounds-fill-end
slice_bounds-fill-end c = place_inside _ _ _ c.args.protocols.now c.args.algorithms.now c.args.table.now _ c.judge-judged.ensures

pub returns : goal.returns
returns c = reads_cookies _ _ _ _ _ c.args.table.now _ c.judge-judged.ensures _ c.cookies_in-count.ensures (omega arith) c.if-count-eq0.false _ _ c.fill.ensures
