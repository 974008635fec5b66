-- `outgoing::are_utf8` meets its contract: the loop's invariant is that the bodies passed are UTF-8.
use mathlib.Core.Path.{sym, ap, ◌∙◌}
use Rattle.utf8.specs.Utf8.{well_formed}
use Rattle.outgoing.proofs.Judging.{checking_start, checking_end, checking_on, checking_stop}
use Rattle.outgoing.proofs.are_utf8.Goals as goal

pub loop-at-init : goal.loop-at-init
loop-at-init c = checking_start _ _ c.requires

pub loop-at-preserved : goal.loop-at-preserved
loop-at-preserved c = checking_on _ _ _ c.loop-at.invariant c.loop-at-test.true _ c.number_at-size.ensures (sym (ap well_formed c.part.ensures.holds) ∙ sym c.is_utf8.ensures ∙ c.if-is_utf8.true)

pub returns-else-is_utf8 : goal.returns-else-is_utf8
returns-else-is_utf8 c = checking_stop _ _ _ c.loop-at.invariant c.loop-at-test.true _ c.number_at-size.ensures (sym (ap well_formed c.part.ensures.holds) ∙ sym c.is_utf8.ensures ∙ c.if-is_utf8.false)

pub returns : goal.returns
returns c = checking_end _ _ _ c.loop-at.invariant c.loop-at-test.false
