-- `plan::walk_tray` meets its contract: the loop's invariant is that the fields passed stand in front of those of the rest.
use mathlib.Core.Path.{sym, ◌∙◌}
use native.Mathlib.Omega.{arith}
use Rattle.plan.proofs.Walking.{used_past, going_start, going_end, going_other, going_short, going_cut, going_on}
use Rattle.plan.proofs.walk_tray.Goals as goal

pub returns-then-tray-used : goal.returns-then-tray-used
returns-then-tray-used c = used_past _ _ _ (omega arith)

pub loop-at-init : goal.loop-at-init
loop-at-init c = going_start _ _ _ (omega arith)

pub returns-then-byte_at-tag : goal.returns-then-byte_at-tag
returns-then-byte_at-tag c = going_other _ _ _ _ _ _ c.loop-at.invariant c.loop-at-test.true (λ e. c.if-byte_at-tag.true (c.byte_at.ensures ∙ e))

pub returns-then-used-at-lt-FIELD_HEADER : goal.returns-then-used-at-lt-FIELD_HEADER
returns-then-used-at-lt-FIELD_HEADER c = going_short _ _ _ _ _ _ c.loop-at.invariant c.loop-at-test.true (sym c.byte_at.ensures ∙ c.if-byte_at-tag.false) (omega arith)

pub returns-then-used-at : goal.returns-then-used-at
returns-then-used-at c = going_cut _ _ _ _ _ _ c.loop-at.invariant c.loop-at-test.true (sym c.byte_at.ensures ∙ c.if-byte_at-tag.false) (omega arith) _ c.number_at-size.ensures (omega arith)

pub loop-at-preserved : goal.loop-at-preserved
loop-at-preserved c = going_on _ _ _ _ _ _ c.loop-at.invariant c.loop-at-test.true (sym c.byte_at.ensures ∙ c.if-byte_at-tag.false) (omega arith) _ c.number_at-size.ensures (omega arith)

pub returns : goal.returns
returns c = going_end _ _ _ _ _ _ c.loop-at.invariant (omega arith)
