-- `layout::Layout::write` meets its contract: the measure refuses first, then the room decides, and then all of the record is put.
use native.Mathlib.Omega.{arith}
use Rattle.layout.proofs.Writing.{found, measured_long, wrote_refused, wrote_short, wrote_all}
use Rattle.layout.proofs.Layout.write.Goals as goal

pub returns-in_default : goal.returns-in_default
returns-in_default c = wrote_refused _ _ _ c.in_default.is c.length-answer.ensures

pub returns-then-out-n : goal.returns-then-out-n
returns-then-out-n c = wrote_short _ _ _ c.in-Bytes.is c.length-answer.ensures c.if-out-n.true

pub put_layout-requires : goal.put_layout-requires
put_layout-requires c = let x = measured_long _ _ _ (found _ _ c.in-Bytes.is c.length-answer.ensures) in (x.is, x.fits, omega arith)

pub returns : goal.returns
returns c = wrote_all _ _ _ _ c.in-Bytes.is c.length-answer.ensures c.if-out-n.false c.put_layout.ensures
