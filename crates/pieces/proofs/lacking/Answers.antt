-- `pieces::lacking` meets its contract: the record's size is read across the seam, and what it lacks is counted from the bytes held.
use mathlib.Core.Path.{refl}
use native.Mathlib.Omega.{arith}
use Rattle.pieces.proofs.Joining.{lacks_header, lacks_size}
use Rattle.pieces.proofs.lacking.Goals as goal

pub returns-then-held-part : goal.returns-then-held-part
returns-then-held-part c = lacks_header _ _ _ c.requires.0 _ c.if-held-part.true

pub returns-then-end-held : goal.returns-then-end-held
returns-then-end-held c =
    lacks_size _ _ _ c.requires.0 _ _ _ _ c.if-held-part.false c.joined_at-high.ensures c.joined_at-low.ensures
    (omega (arith, c.if-end-held.true))

pub returns : goal.returns
returns c =
    lacks_size _ _ _ c.requires.0 _ _ _ _ c.if-held-part.false c.joined_at-high.ensures c.joined_at-low.ensures refl
