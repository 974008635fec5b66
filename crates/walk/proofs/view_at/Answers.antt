-- `walk::view_at` meets its contract: a look, and what the profile says of the record where it reads.
use mathlib.Core.Path.{sym, ap, ◌∙◌}
use native.Mathlib.Omega.{arith}
use Rattle.record.specs.Told.{told_looked}
use Rattle.record.proofs.Read.{look_inside}
use Rattle.walk.specs.Code.{looked_of}
use Rattle.walk.proofs.Looking.{slot_within, slot_is}
use Rattle.walk.proofs.view_at.Goals as goal

pub returns-in_default : goal.returns-in_default
returns-in_default c =
    record {
      refusal = _;
      looks = ap told_looked (sym c.in_default.is) ∙ c.look-answer.ensures;
      says = c.by_look.ensures ∙ ap looked_of c.in_default.is;
    }

pub overflow_add-body : goal.overflow_add-body
overflow_add-body c = omega (arith, look_inside _ _ _ _ _ _ (ap told_looked (sym c.in-Whole.is) ∙ c.look-answer.ensures), c.type_inv.bytes 0)

pub overflow_cast-slot : goal.overflow_cast-slot
overflow_cast-slot c = let j = slot_within _ _ c.slot_of-slot.ensures in omega (arith, j)

pub returns-then-allows : goal.returns-then-allows
returns-then-allows c =
    record {
      kind = _;
      looks = ap told_looked (sym c.in-Whole.is) ∙ c.look-answer.ensures;
      stands = slot_is _ _ _ _ c.slot_of-slot.ensures c.taken.ensures;
      allowed = sym c.allows.ensures ∙ c.if-allows.true;
    }

pub returns : goal.returns
returns c =
    record {
      kind = _;
      looks = ap told_looked (sym c.in-Whole.is) ∙ c.look-answer.ensures;
      stands = slot_is _ _ _ _ c.slot_of-slot.ensures c.taken.ensures;
      allowed = sym c.allows.ensures ∙ c.if-allows.false;
    }
