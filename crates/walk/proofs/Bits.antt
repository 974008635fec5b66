-- The kinds met, a bit a kind: a bit set, a bit asked, and the kinds below a number as what was noted.
-- Assumes nothing.
use mathlib.Core.Path.{◌≡◌, refl, sym, ap, ◌∙◌}
use mathlib.Core.List.{◌∷◌}
use mathlib.Core.Bool.{Bool, true, false, cond, ◌&&◌, ◌||◌}
use Prim.Native.Nat.{ℕ, zero, suc, ◌+◌, ◌-◌, ◌*◌, ◌/◌, ◌%◌, ◌^◌, ◌<◌}
use native.Mathlib.Nat.{zero-add, zero-mul, one-mul, zero-div}
use native.Mathlib.Omega.{arith}
use lib.Bits.{bit_and, bit_or, and_mask, or_shr, or_mod, shifted_even}
use lib.Dec.{ltb, eqb}
use lib.Pow.{pow-add, pow-lt, shl_exact, shl-shr, high}
use borrow.Author.Tests.{ltb-true, ltb-false, lt-ltb, le-ltb, eqb-true, eqb-false}
use Rattle.walk.specs.Walk.{has}
use Rattle.walk.specs.Met.{is_met, with_met, met_below}

-- ---- one bit

-- a digit is 1 or 0
digit : (d : ℕ) → d < 2 → d ≡ cond (eqb d 1) 1 0
digit zero h = refl
digit (suc zero) h = refl
digit (suc (suc d)) h = absurd (omega arith)

digit_or : (d : ℕ) → d < 2 → (b : Bool) → eqb (bit_or d (cond b 1 0)) 1 ≡ (b || eqb d 1)
digit_or zero h true = refl
digit_or zero h false = refl
digit_or (suc zero) h true = refl
digit_or (suc zero) h false = refl
digit_or (suc (suc d)) h b = absurd (omega arith)

-- a power of two has one bit
power_bit : (j k : ℕ) → 2 ^ j / 2 ^ k % 2 ≡ cond (eqb j k) 1 0
power_bit j k = go (eqb j k) refl (ltb j k) refl
  where
    go : (e : Bool) → eqb j k ≡ e → (l : Bool) → ltb j k ≡ l → 2 ^ j / 2 ^ k % 2 ≡ cond e 1 0
    go true p l q = ap (λ (i : ℕ). 2 ^ i / 2 ^ k % 2) (eqb-true j k p) ∙ ap (λ (n : ℕ). n / 2 ^ k % 2) (sym (one-mul (2 ^ k))) ∙ ap (λ (n : ℕ). n % 2) (shl-shr 1 k)
    go false p true q = ap (λ (n : ℕ). n / 2 ^ k % 2) (sym (zero-add (2 ^ j)) ∙ ap (λ (n : ℕ). n + 2 ^ j) (sym (zero-mul (2 ^ k)))) ∙ ap (λ (n : ℕ). n % 2) (high 0 k (pow-lt (ltb-true j k q)))
    go false p false q =
        let ne = eqb-false j k p in
        let le = ltb-false j k q in
        let d = j - suc k in
        let e : j ≡ suc d + k = omega arith in
        ap (λ (i : ℕ). 2 ^ i / 2 ^ k % 2) e
        ∙ ap (λ (n : ℕ). n / 2 ^ k % 2) (pow-add 2 (suc d) k)
        ∙ ap (λ (n : ℕ). n % 2) (shl-shr (2 ^ suc d) k)
        ∙ ap (λ (n : ℕ). n % 2) (sym (one-mul (2 ^ suc d)))
        ∙ shifted_even 1 d

-- a kind met as well, and those met before
pub met_with : (met j k : ℕ) → is_met (with_met met j) k ≡ (eqb j k || is_met met k)
unfolding is_met with_met
met_with met j k =
    ap (λ (n : ℕ). eqb (n % 2) 1) (or_shr met (2 ^ j) k)
    ∙ ap (λ (n : ℕ). eqb n 1) (or_mod (met / 2 ^ k) (2 ^ j / 2 ^ k) 1)
    ∙ ap (λ (n : ℕ). eqb (bit_or (met / 2 ^ k % 2) n) 1) (power_bit j k)
    ∙ digit_or (met / 2 ^ k % 2) (omega arith) (eqb j k)

pub none_met : (k : ℕ) → is_met 0 k ≡ false
unfolding is_met
none_met k = rw (zero-div (2 ^ k))

-- ---- as the code has it

pub bit_is : (met k : ℕ) → bit_and (met / 2 ^ k) 1 ≡ cond (is_met met k) 1 0
unfolding is_met
bit_is met k = and_mask (met / 2 ^ k) 1 ∙ digit (met / 2 ^ k % 2) (omega arith)

pub with_is : (met k : ℕ) → k < 15 → bit_or met (1 * 2 ^ k % 65536) ≡ with_met met k
unfolding with_met
with_is met k h = ap (bit_or met) (shl_exact {a = 1} 1 k 16 (omega arith) (omega arith) ∙ one-mul (2 ^ k))

-- ---- the kinds below a number

pub has_below : (met k n : ℕ) → has k (met_below met n) ≡ (ltb k n && is_met met k)
unfolding has met_below
has_below met k zero = rw (le-ltb k 0 (omega arith))
has_below met k (suc n) = go (has_below met k n) (is_met met n) refl (eqb n k) refl
  where
    below : (n ≡ k → ⊥) → (b : Bool) → ltb k n ≡ b → ltb k n ≡ ltb k (suc n)
    below ne true l = let i = ltb-true k n l in l ∙ sym (lt-ltb k (suc n) (omega arith))
    below ne false l = let i = ltb-false k n l in l ∙ sym (le-ltb k (suc n) (omega arith))

    go : has k (met_below met n) ≡ (ltb k n && is_met met k) → (a : Bool) → is_met met n ≡ a → (b : Bool) → eqb n k ≡ b → has k (cond a (record { of = n; start = 0; len = 0 } ∷ met_below met n) (met_below met n)) ≡ (ltb k (suc n) && is_met met k)
    go h true p true q = let e = eqb-true n k q in rw (q, lt-ltb k (suc n) (omega arith), ← e) (sym p)
    go h true p false q = rw q (h ∙ ap (λ (b : Bool). b && is_met met k) (below (eqb-false n k q) (ltb k n) refl))
    go h false p true q = let e = eqb-true n k q in h ∙ rw (le-ltb k n (omega arith), lt-ltb k (suc n) (omega arith), ← e) (sym p)
    go h false p false q = h ∙ ap (λ (b : Bool). b && is_met met k) (below (eqb-false n k q) (ltb k n) refl)
