-- Runs of sequences that are alike: a sequence whose lead byte is of a class is the size that the class says, if it is whole, and otherwise there is none.
-- Assumes nothing.
use mathlib.Core.Path.{◌≡◌, refl, sym, ◌∙◌}
use mathlib.Core.Bool.{Bool, true, false, cond}
use mathlib.Core.List.{List}
use Prim.Native.Nat.{ℕ, ◌+◌, ◌<◌, ◌≤◌}
use native.Mathlib.Omega.{arith}
use lib.ListN.{length, get_or}
use Rattle.utf8.specs.declared.Class.{Class}
use Rattle.utf8.specs.Utf8.{tail}
use Rattle.utf8.specs.Lead.{whole, size_of, size_at, Passed}
use Rattle.utf8.specs.Class.{class_of, class_size, class_second}
use Rattle.utf8.proofs.Classes.{leads}
use Rattle.utf8.proofs.Run.{at_some, at_inside}
use Rattle.utf8.proofs.Tests.{on}

-- the sequence of this class and size that begins at a place is whole
abbrev pub whole_in : Class → ℕ → List ℕ → ℕ → Bool
whole_in c n s at = whole n (class_second c (get_or s (at + 1) 0)) (tail (get_or s (at + 2) 0)) (tail (get_or s (at + 3) 0))

-- the sequence at a place, by the class of its lead byte
module _ {c : Class} (s : List ℕ) (at : ℕ) (e : c ≡ class_of (get_or s at 0)) where
  sized : size_at s at ≡ cond (whole_in c (class_size c) s at) (class_size c) 0
  unfolding size_at size_of
  sized = rw e (simp ((leads (get_or s at 0)).size, (leads (get_or s at 0)).follows))

  size_whole : whole_in c (class_size c) s at ≡ true → class_size c ≡ size_at s at
  size_whole w = sym (sized ∙ rw w refl)

  size_broken : whole_in c (class_size c) s at ≡ false → size_at s at ≡ 0
  size_broken w = sized ∙ rw w refl

  module _ {n : ℕ} (m : n ≡ class_size c) where
    -- no sequence begins there: the class has none, the sequence is not whole, or the bytes left are too few for one
    pub none_of_class : n ≡ 0 → size_at s at ≡ 0
    none_of_class z = on (whole_in c (class_size c) s at) (λ w. sym (size_whole w) ∙ sym m ∙ z) size_broken

    pub none_whole : {t : Bool} → t ≡ whole_in c n s at → t ≡ false → size_at s at ≡ 0
    none_whole w f = size_broken (rw (← m) (sym w ∙ f))

    pub none_short : at < length s → length s < at + n → size_at s at ≡ 0
    none_short h l = on (whole_in c (class_size c) s at) (λ w. absurd (omega (arith, at_inside s at h _ (size_whole w)))) size_broken

    -- a whole one is passed over
    pub alike_more : {first : ℕ} {t : Bool} → Passed s first at → t ≡ whole_in c n s at → t ≡ true → (n ≡ 0 → ⊥) → at + n ≤ length s → Passed s first (at + n)
    alike_more p w y z h =
        record {
          onward = omega (arith, p.onward);
          inside = λ i. h;
          same = at_some s at (omega arith) _ (m ∙ size_whole (rw (← m) (sym w ∙ y))) z ∙ p.same;
        }
