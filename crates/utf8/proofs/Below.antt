-- What holds of each number below n, by one test that antt computes at all of them.
-- Assumes nothing.
use mathlib.Core.Path.{◌≡◌, refl, sym}
use mathlib.Core.Bool.{Bool, true, false, cond, ◌&&◌, beq}
use mathlib.Core.Logic.{⊎_elim}
use Prim.Native.Nat.{ℕ, zero, suc, ◌<◌}
use native.Mathlib.Nat.{not-suc-le-zero, le_of_suc-le-suc, eq-or-lt_of_le}
use borrow.Author.Tests.{eqb-true}
use lib.Dec.{eqb}
use Rattle.utf8.proofs.Tests.{and_left, and_right}

-- the test passes at each number below n
abbrev pub every : ℕ → (ℕ → Bool) → Bool
every zero f = true
every (suc n) f = f n && every n f

pub below : (n : ℕ) (f : ℕ → Bool) → every n f ≡ true → (k : ℕ) → k < n → f k ≡ true
below zero f t k h = absurd (not-suc-le-zero h)
below (suc n) f t k h =
    ⊎_elim (λ e. rw e (and_left (f n) (every n f) t)) (λ l. below n f (and_right (f n) (every n f) t) k l)
    (eq-or-lt_of_le (le_of_suc-le-suc h))

pub beq→eq : (a b : Bool) → beq a b ≡ true → a ≡ b
beq→eq true true e = refl
beq→eq true false e = sym e
beq→eq false true e = e
beq→eq false false e = refl

-- two numbers agree at each byte where the test p passes
pub same_where : (p : ℕ → Bool) (f g : ℕ → ℕ) → every 256 (λ k. cond (p k) (eqb (f k) (g k)) true) ≡ true
    → (k : ℕ) → k < 256 → p k ≡ true → f k ≡ g k
same_where p f g t k h e = eqb-true (f k) (g k) (rw e at (below 256 (λ k. cond (p k) (eqb (f k) (g k)) true) t k h))
