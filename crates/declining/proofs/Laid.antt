-- Records put one after the other are a message's bytes: e is the end record.
-- Assumes nothing.
use mathlib.Core.Path.{◌≡◌, sym, ap}
use mathlib.Core.List.{List, [], ◌∷◌, ◌++◌, append-nil}
use Prim.Native.Nat.{ℕ}
use Rattle.walk.specs.Message.{flat}

pub laid_one : (a e : List ℕ) → a ++ e ≡ flat (a ∷ []) ++ e
laid_one a e = ap (λ (x : List ℕ). x ++ e) (sym (append-nil a))

pub laid_two : (a b e : List ℕ) → (a ++ b) ++ e ≡ flat (a ∷ b ∷ []) ++ e
laid_two a b e = ap (λ (x : List ℕ). x ++ e) (ap (λ (x : List ℕ). a ++ x) (sym (append-nil b)))
