-- Laws of `well_formed` from a place on: what one turn of a loop over the bytes needs.
-- Assumes nothing.
use mathlib.Core.Path.{◌≡◌, refl, sym, subst, ◌∙◌}
use mathlib.Core.Bool.{Bool, true, false}
use mathlib.Core.List.{List, [], ◌∷◌}
use Prim.Native.Nat.{ℕ, zero, suc, ◌+◌, ◌-◌, ◌<◌, ◌≤◌, zero-le, suc-le-suc}
use native.Mathlib.Nat.{le_refl, add-zero}
use native.Mathlib.Omega.{arith}
use borrow.Author.Tests.{le-leb}
use lib.ListN.{length, get_or, take, drop, length-drop, drop_of_length-le}
use lib.Seq.{length-take-le, drop-cons, drop-drop, get_or-drop, get_or-take}
use Rattle.utf8.specs.Utf8.{rows, fits, char_size, octets, well_formed}
use Rattle.utf8.specs.Ascii.{is_ascii}
use Rattle.utf8.specs.Lead.{size_at, Ascii, Passed}
use Rattle.utf8.proofs.Ascii.{ascii_each}
use Rattle.utf8.proofs.Rows.{same_size}
use Rattle.utf8.proofs.Tests.{never, on, and_right}

-- a character's bytes are all inside
pub fits_inside : (row : List (ℕ → Bool)) (s : List ℕ) → fits row s ≡ true → length row ≤ length s
unfolding fits
fits_inside [] s e = zero-le
fits_inside (p ∷ row) [] e = never e
fits_inside (p ∷ row) (b ∷ s) e = suc-le-suc (fits_inside row s (and_right (p b) (fits row s) e))

size_inside : (table : List (List (ℕ → Bool))) (s : List ℕ) → char_size table s ≤ length s
unfolding char_size
size_inside [] s = zero-le
size_inside (row ∷ table) s = on (fits row s) (λ e. rw e (fits_inside row s e)) (λ e. rw e (size_inside table s))

-- the rest of a character begun is passed over
octets_drop : (k : ℕ) (s : List ℕ) → octets k s ≡ octets 0 (drop k s)
unfolding octets
octets_drop zero s = refl
octets_drop (suc k) [] = refl
octets_drop (suc k) (b ∷ s) = octets_drop k s

-- a list that begins with no character, and one that begins with one of n bytes
pub front_none : (s : List ℕ) → 0 < length s → char_size rows s ≡ 0 → well_formed s ≡ false
unfolding octets well_formed
front_none [] h e = absurd (omega arith)
front_none (b ∷ s) h e = rw (e, octets)

pub front_some : (s : List ℕ) (n : ℕ) → char_size rows s ≡ n → (n ≡ 0 → ⊥) → well_formed (drop n s) ≡ well_formed s
unfolding octets well_formed
front_some s zero e z = absurd (z refl)
front_some [] (suc k) e z = refl
front_some (b ∷ s) (suc k) e z = rw (e, octets) (sym (octets_drop k s))

pub at_end : (s : List ℕ) (at : ℕ) → length s ≤ at → well_formed (drop at s) ≡ true
unfolding octets well_formed
at_end s at h = rw (drop_of_length-le s h)

module _ (s : List ℕ) (at : ℕ) (h : at < length s) where
  pub at_none : size_at s at ≡ 0 → well_formed (drop at s) ≡ false
  at_none e = front_none (drop at s) (simp length-drop (omega arith)) (sym (same_size s at h) ∙ e)

  pub at_some : (n : ℕ) → n ≡ size_at s at → (n ≡ 0 → ⊥) → well_formed (drop (at + n) s) ≡ well_formed (drop at s)
  at_some n e z = rw (← drop-drop n at s) (front_some (drop at s) n (sym (e ∙ same_size s at h)) z)

  pub at_inside : (n : ℕ) → n ≡ size_at s at → at + n ≤ length s
  at_inside n e = omega (arith, e ∙ same_size s at h, size_inside rows (drop at s), length-drop at s)

  at_ascii : get_or s at 0 ≤ 0x7F → well_formed (drop (at + 1) s) ≡ well_formed (drop at s)
  unfolding rows fits char_size
  at_ascii l =
      rw (← drop-drop 1 at s)
      (front_some (drop at s) 1 (rw (drop-cons s at 0 h) (simp (le-leb 0 (get_or s at 0) zero-le, le-leb (get_or s at 0) 0x7F l))) (λ e. omega arith))

pub passed_none : (s : List ℕ) (at : ℕ) → Passed s at at
passed_none s at = record { onward = le_refl at; inside = λ h. h; same = refl }

pub passed_on : {s : List ℕ} {at i r : ℕ} → Passed s at i → Passed s i r → Passed s at r
passed_on p q =
    record { onward = omega (arith, p.onward, q.onward); inside = λ h. q.inside (p.inside h); same = q.same ∙ p.same }

passed_more : {s : List ℕ} {at i : ℕ} → Passed s at i → i < length s → get_or s i 0 ≤ 0x7F → Passed s at (i + 1)
passed_more {s} {at} {i} p h l = record { onward = omega arith; inside = λ k. omega arith; same = at_ascii s i h l ∙ p.same }

-- a block of ASCII bytes is passed, one of them after the other: n bytes from a place on, and from a place inside a block what is left of it, read from the
-- block's slice
passed_all : {s : List ℕ} {at i : ℕ} (n : ℕ) → Passed s at i → i + n ≤ length s → ((k : ℕ) → k < n → get_or s (i + k) 0 ≤ 0x7F) → Passed s at (i + n)
passed_all {s} {at} {i} zero p h a = rw add-zero p
passed_all {s} {at} {i} (suc n) p h a =
    subst (λ (r : ℕ). Passed s at r) (omega arith)
    (passed_more (passed_all n p (omega arith) (λ k l. a k (omega arith))) (omega arith) (a n (omega arith)))

pub passed_block : {s : List ℕ} {at i start end : ℕ} → Passed s at i → start ≤ i → i ≤ end → end ≤ length s
    → Ascii (take (end - start) (drop start s)) (length (take (end - start) (drop start s))) → Passed s at end
passed_block {s} {at} {i} {start} {end} p l m h a =
    let e : length (take (end - start) (drop start s)) ≡ end - start = length-take-le (end - start) (drop start s) (omega (arith, length-drop start s)) in
    subst (λ (r : ℕ). Passed s at r) (omega arith)
    (passed_all (end - i) p (omega arith)
    (λ k b.
    let j : ℕ = i - start + k in
    let q : start + j ≡ i + k = omega arith in
    let t : get_or (take (end - start) (drop start s)) j 0 ≡ get_or s (start + j) 0 = get_or-take (end - start) (drop start s) j 0 (omega arith) ∙ get_or-drop start s j 0 in
    subst (λ (n : ℕ). get_or s n 0 ≤ 0x7F) q (rw (← t) (a.each j (omega (arith, e))))))

-- the same of a slice that was asked
pub passed_ascii : {s : List ℕ} {at i start end : ℕ} {t : Bool} → Passed s at i → t ≡ is_ascii (take (end - start) (drop start s)) → t ≡ true → start ≤ i → i ≤ end
    → end ≤ length s → Passed s at end
passed_ascii p e y l m h = passed_block p l m h (ascii_each _ (sym e ∙ y))
