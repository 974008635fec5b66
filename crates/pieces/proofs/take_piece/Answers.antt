-- `pieces::take_piece` meets its contract: what fits by the limit and the buffer is judged, and stored through the record that decides.
use native.Mathlib.Omega.{arith}
use Rattle.pieces.proofs.Taking.{smaller_above, fits_is, fits_part, fits_limit, fits_room, part_long, taken}
use Rattle.pieces.proofs.take_piece.Goals as goal

pub overflow_sub-smaller : goal.overflow_sub-smaller
overflow_sub-smaller c = smaller_above _ _ _ _ c.smaller.ensures c.requires.1 c.requires.0.held

pub overflow_add-held : goal.overflow_add-held
overflow_add-held c =
    omega (
      arith,
      fits_limit c.args.front c.args.limit c.args.piece.now c.args.buffer.now c.requires.0 c.requires.1
          _ _ c.smaller.ensures c.smaller-n.ensures,
      c.ranges.limit.fits,
    )

pub slice_bounds-part-end : goal.slice_bounds-part-end
slice_bounds-part-end c =
    fits_part c.args.front c.args.limit c.args.piece.now c.args.buffer.now c.requires.0 c.requires.1
    _ _ c.smaller.ensures c.smaller-n.ensures

pub judge_part-came-requires : goal.judge_part-came-requires
judge_part-came-requires c =
    let l = part_long _ c.args.piece.now (fits_part c.args.front c.args.limit c.args.piece.now c.args.buffer.now c.requires.0 c.requires.1
    _ _ c.smaller.ensures c.smaller-n.ensures) in
    let r = fits_room c.args.front c.args.limit c.args.piece.now c.args.buffer.now c.requires.0 c.requires.1
    _ _ c.smaller.ensures c.smaller-n.ensures in
    let m = fits_limit c.args.front c.args.limit c.args.piece.now c.args.buffer.now c.requires.0 c.requires.1
    _ _ c.smaller.ensures c.smaller-n.ensures in
    (c.requires.0, omega (arith, l, r), omega (arith, l, m, c.ranges.limit.fits))

pub returns : goal.returns
returns c =
    let e = fits_is c.args.front c.args.limit c.args.piece.now c.args.buffer.now c.requires.0 c.requires.1
    _ _ c.smaller.ensures c.smaller-n.ensures in
    taken _ _ _ _ _ _ c.requires.0 c.requires.1 _ e _ c.how_of-how.ensures _ _ c.judge_part-came.ensures _ _
    c.put_bytes.ensures
