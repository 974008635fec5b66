-- What a test tells: cases by its outcome, and the parts of a conjunction that passed.
-- Assumes nothing.
use mathlib.Core.Path.{◌≡◌, refl}
use mathlib.Core.Bool.{Bool, true, false, ◌&&◌}
use Prim.Native.Nat.{ℕ, ◌≤◌, ◌<◌}
use native.Mathlib.Omega.{arith}
use borrow.Author.Tests.{leb-true, leb-false}
use lib.Dec.{leb}

pub never : {A : Type 0} → false ≡ true → A
never e = let z : ◌≡◌ {A = ℕ} 0 1 = cc in absurd (omega arith)

pub on : {A : Type 0} (t : Bool) → (t ≡ true → A) → (t ≡ false → A) → A
on true f g = f refl
on false f g = g refl

-- a number is at most k, or above it
pub upto : {A : Type 0} (k a : ℕ) → (a ≤ k → A) → (k < a → A) → A
upto k a f g = on (leb a k) (λ e. f (leb-true a k e)) (λ e. g (leb-false a k e))

pub and_left : (a b : Bool) → (a && b) ≡ true → a ≡ true
and_left true b e = refl
and_left false b e = e

pub and_right : (a b : Bool) → (a && b) ≡ true → b ≡ true
and_right true b e = e
and_right false b e = never e
