-- What the judging function finds, as the definitions say it: a support reply.
-- Assumes nothing.
use mathlib.Core.Path.{◌≡◌, ap}
use mathlib.Core.Bool.{Bool, true, false, ◌&&◌}
use mathlib.Core.List.{List}
use Prim.Native.Nat.{ℕ, ◌*◌, ◌%◌, ◌≤◌}
use native.Mathlib.Omega.{arith}
use borrow.Author.Tests.{ltb-false, eq-eqb, ne_eqb}
use lib.ListN.{length}
use Rattle.nts.specs.Refusal.{nothing}
use Rattle.layout.specs.Write.{bytes, refused}
use Rattle.messages.specs.declared.Asked.{Asked}
use Rattle.messages.specs.Messages.{too_long, record_length, support_length, support_checked}

-- a list that is written is not too long
pub asked_short : (asked : Bool) (n : ℕ) → asked ≡ true → (asked && too_long n) ≡ false → n ≤ 65535
asked_short true n e h = ltb-false 65535 n h
asked_short false n e h = let z : ◌≡◌ {A = ℕ} 0 1 = cc in absurd (omega arith)

pub list_short : (asked : Bool) (n : ℕ) → (asked && too_long n) ≡ false → record_length asked n ≤ 65539
list_short true n e = omega (arith, ltb-false 65535 n e)
list_short false n e = omega arith

module _ (x : Asked) (pairs numbers : List ℕ) where
  pub support_odd : (length pairs % 2 ≡ 0 → ⊥) → refused 9 nothing ≡ support_checked x pairs numbers
  unfolding support_checked
  support_odd h = rw (ne_eqb (length pairs % 2) 0 h)

  module _ (even : length pairs % 2 ≡ 0) where
    pub support_long : (x.algorithms && too_long (2 * length pairs)) ≡ true → refused 8 nothing ≡ support_checked x pairs numbers
    unfolding support_checked
    support_long h = rw (eq-eqb (length pairs % 2) 0 even, h)

    module _ (p : (x.algorithms && too_long (2 * length pairs)) ≡ false) where
      pub support_long_2 : (x.protocols && too_long (2 * length numbers)) ≡ true → refused 8 nothing ≡ support_checked x pairs numbers
      unfolding support_checked
      support_long_2 h = rw (eq-eqb (length pairs % 2) 0 even, p, h)

      pub support_judged : (x.protocols && too_long (2 * length numbers)) ≡ false → (k : ℕ) → k ≡ support_length x pairs numbers → bytes k ≡ support_checked x pairs numbers
      unfolding support_checked
      support_judged h k s = rw (eq-eqb (length pairs % 2) 0 even, p, h) (ap bytes s)
