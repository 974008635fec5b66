-- What a mask of the top bit says of a number.
-- Assumes nothing.
use mathlib.Core.Path.{◌≡◌, refl, ap, ◌∙◌}
use mathlib.Core.Bool.{Bool, true, false, not}
use Prim.Native.Nat.{ℕ, ◌/◌, ◌%◌, ◌*◌, ◌<◌}
use native.Mathlib.Omega.{arith}
use borrow.Author.Tests.{leb-true, leb-false, eq-eqb, ne_eqb}
use lib.Bits.{bit_and, and_high}
use lib.Dec.{leb, eqb}

-- the top bit of sixteen
pub top_bit : (w : ℕ) → w < 0x10000 → not (eqb (bit_and w 0x8000) 0) ≡ leb 0x8000 w
top_bit w h = go (leb 0x8000 w) refl
  where
    go : (b : Bool) → leb 0x8000 w ≡ b → not (eqb (bit_and w 0x8000) 0) ≡ b
    go true e =
        let q : w / 0x8000 ≡ 1 = omega (arith, leb-true 0x8000 w e) in
        let m : bit_and w 0x8000 ≡ 0x8000 = and_high w 1 15 ∙ ap (λ (n : ℕ). n % 2 * 0x8000) q in
        ap not (ne_eqb (bit_and w 0x8000) 0 (λ z. omega arith))
    go false e = ap not (eq-eqb (bit_and w 0x8000) 0 (omega (arith, and_high w 1 15, leb-false 0x8000 w e)))
