-- The sequence length by the count of leading one bits, at each of the 256 bytes: ASCII has none, from C2 to F4 the count is the length, and no other byte leads any.
-- Assumes nothing.
use Rattle.std.specs.Int.{w8, leading_ones}
use mathlib.Core.Path.{◌≡◌, refl, sym, ◌∙◌}
use mathlib.Core.Bool.{◌&&◌, not}
use Prim.Native.Nat.{ℕ, ◌<◌, ◌≤◌}
use borrow.Author.Tests.{eq-eqb, ne_eqb, lt-ltb, le-leb}
use lib.Count.{count_leading_zeros}
use lib.Dec.{eqb, ltb}
use Rattle.utf8.specs.Utf8.{within}
use Rattle.utf8.specs.Lead.{lead_size}
use Rattle.utf8.proofs.Below.{same_where}

module _ (a n : ℕ) (h : a < 256) (e : n ≡ leading_ones w8 a) where
  pub led_none : n ≡ 0 → 1 ≡ lead_size a
  unfolding lead_size count_leading_zeros
  led_none z = same_where (λ a. eqb (leading_ones w8 a) 0) (λ a. 1) lead_size refl a h (eq-eqb _ _ (sym e ∙ z))

  pub led_ones : 0xC2 ≤ a → a ≤ 0xF4 → n ≡ lead_size a
  unfolding lead_size count_leading_zeros
  led_ones l m = e ∙ same_where (within 0xC2 0xF4) (leading_ones w8) lead_size refl a h (simp (le-leb 0xC2 a l, le-leb a 0xF4 m))

  pub led_below : (n ≡ 0 → ⊥) → a < 0xC2 → 0 ≡ lead_size a
  unfolding lead_size count_leading_zeros
  led_below d l = same_where (λ a. ltb a 0xC2 && not (eqb (leading_ones w8 a) 0)) (λ a. 0) lead_size refl a h (simp (lt-ltb a 0xC2 l, ne_eqb _ _ (λ z. d (e ∙ z))))

  pub led_above : 0xF4 < a → 0 ≡ lead_size a
  unfolding lead_size count_leading_zeros
  led_above l = same_where (ltb 0xF4) (λ a. 0) lead_size refl a h (lt-ltb 0xF4 a l)
