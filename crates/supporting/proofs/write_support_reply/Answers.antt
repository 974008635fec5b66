-- `supporting::write_support_reply` meets its contract: what was judged is put.
use mathlib.Core.Path.{refl, sym, ap, ◌∙◌}
use native.Mathlib.Omega.{arith}
use Rattle.wire.proofs.Over.{put_as}
use Rattle.layout.specs.Write.{told_count}
use Rattle.messages.proofs.Putting.{judged_no, judged_short, judged_room}
use Rattle.messages.proofs.Cleared.{support_cleared}
use Rattle.supporting.proofs.write_support_reply.Goals as goal

pub returns-in_default : goal.returns-in_default
returns-in_default c = judged_no _ _ _ _ _ c.support_reply_length-checked.ensures c.in_default.is

pub returns-then-out-n : goal.returns-then-out-n
returns-then-out-n c = judged_short _ _ _ _ _ c.support_reply_length-checked.ensures c.in-Bytes.is c.if-out-n.true

pub put_support-requires : goal.put_support-requires
put_support-requires c = let k = support_cleared _ _ _ _ (sym c.support_reply_length-checked.ensures ∙ ap told_count c.in-Bytes.is) in (k.short, k.short_2, omega (arith, k.long, c.if-out-n.false))

pub returns : goal.returns
returns c = let k = support_cleared _ _ _ _ (sym c.support_reply_length-checked.ensures ∙ ap told_count c.in-Bytes.is) in judged_room _ _ _ c.support_reply_length-checked.ensures c.in-Bytes.is c.if-out-n.false (put_as c.put_support.ensures (sym k.long) refl)
