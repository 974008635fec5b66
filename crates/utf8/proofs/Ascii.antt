-- Laws of `is_ascii`: of a front that grows by a byte, and byte by byte.
-- Assumes nothing.
use mathlib.Core.Path.{◌≡◌, refl, sym, ap, ◌∙◌}
use mathlib.Core.Bool.{Bool, true, false, ◌&&◌, and-true}
use mathlib.Core.List.{List, [], ◌∷◌}
use Prim.Native.Nat.{ℕ, zero, suc, ◌+◌, ◌<◌, ◌≤◌}
use native.Mathlib.Omega.{arith}
use borrow.Author.Tests.{leb-true}
use lib.ListN.{length, get_or, take}
use lib.Dec.{leb}
use Rattle.utf8.specs.Ascii.{is_ascii}
use Rattle.utf8.specs.Lead.{Ascii}
use Rattle.utf8.proofs.Tests.{and_left, and_right}

ascii_next : (s : List ℕ) (i : ℕ) → i < length s → is_ascii (take (suc i) s) ≡ (is_ascii (take i s) && leb (get_or s i 0) 0x7F)
unfolding is_ascii
ascii_next [] i h = absurd (omega arith)
ascii_next (b ∷ s) zero h = and-true (leb b 0x7F)
ascii_next (b ∷ s) (suc i) h = ap (λ (t : Bool). leb b 0x7F && t) (ascii_next s i (omega arith)) ∙ go (leb b 0x7F)
  where
    go : (t : Bool) → (t && (is_ascii (take i s) && leb (get_or s i 0) 0x7F)) ≡ ((t && is_ascii (take i s)) && leb (get_or s i 0) 0x7F)
    go true = refl
    go false = refl

-- a turn of a loop over the bytes
pub ascii_more : (s : List ℕ) (i : ℕ) (all : Bool) → i < length s → all ≡ is_ascii (take i s) → (all && leb (get_or s i 0) 0x7F) ≡ is_ascii (take (i + 1) s)
ascii_more s i all h e =
    let z : i + 1 ≡ suc i = omega arith in
    ap (λ (t : Bool). t && leb (get_or s i 0) 0x7F) e ∙ sym (ap (λ (n : ℕ). is_ascii (take n s)) z ∙ ascii_next s i h)

each_below : (s : List ℕ) → is_ascii s ≡ true → (k : ℕ) → k < length s → get_or s k 0 ≤ 0x7F
unfolding is_ascii
each_below [] e k h = absurd (omega arith)
each_below (b ∷ s) e zero h = leb-true b 0x7F (and_left (leb b 0x7F) (is_ascii s) e)
each_below (b ∷ s) e (suc k) h = each_below s (and_right (leb b 0x7F) (is_ascii s) e) k (omega arith)

pub ascii_each : (s : List ℕ) → is_ascii s ≡ true → Ascii s (length s)
ascii_each s e = record { each = each_below s e }
