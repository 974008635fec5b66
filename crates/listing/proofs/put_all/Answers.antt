-- `listing::put_all` meets its contract: heading, lines and last line, each in what the one before leaves of the output.
use native.Mathlib.Omega.{arith}
use Rattle.wire.proofs.Over.{rest_room, put_then, try_then}
use borrow.Author.Rules.{rules}
use Rattle.listing.proofs.put_all.Goals as goal

pub put_lines-requires : goal.put_lines-requires
put_lines-requires c = (c.requires.0, rest_room (c.put_bytes-a.ensures.room (omega arith)) (omega arith))

pub slice_bounds-put_bytes-count : goal.slice_bounds-put_bytes-count
slice_bounds-put_bytes-count c = let a = (c.put_bytes-a.ensures.room (omega arith)).count in let b = c.put_lines.ensures.count in search rules

pub slice_bounds-put_bytes-start : goal.slice_bounds-put_bytes-start
slice_bounds-put_bytes-start c = let a = (c.put_bytes-a.ensures.room (omega arith)).count in let b = c.put_lines.ensures.count in search rules

pub returns : goal.returns
returns c = try_then (put_then (c.put_bytes-a.ensures.room (omega arith)) c.put_lines.ensures (omega arith)) c.put_bytes.ensures c.requires.1
