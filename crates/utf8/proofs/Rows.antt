-- The lead-byte rule of specs/Lead.antt is RFC 3629's table of rows: both tell the lead bytes apart at the same eleven
-- ranges, and inside a range each is the same rule about the bytes that follow.
-- Assumes nothing.
use mathlib.Core.Path.{◌≡◌, refl, sym, ◌∙◌}
use mathlib.Core.Bool.{true, not, ◌&&◌, ◌||◌, and-true}
use mathlib.Core.List.{List, [], ◌∷◌}
use Prim.Native.Nat.{ℕ, ◌≤◌, ◌<◌, zero-le}
use native.Mathlib.Nat.{le_refl}
use native.Mathlib.Numerals.{towards_numerals}
use native.Mathlib.Omega.{arith}
use borrow.Author.Tests.{le-leb, lt-leb, lt-ltb, le-ltb, ltb-true, eq-eqb, ne_eqb}
use lib.Dec.{leb, ltb, eqb}
use lib.ListN.{length, get_or, drop}
use lib.Seq.{drop-cons, get_or-drop}
use Rattle.utf8.specs.Utf8.{tail, rows, fits, char_size}
use Rattle.utf8.proofs.Tests.{upto}
use Rattle.utf8.specs.Lead.{lead_size, second, size_of, size_at}

-- a test against k takes a number from lo to hi for lo, if k is not above lo or is above hi
abbrev pub Like : ℕ → ℕ → ℕ → Type 0
Like lo hi a = (k : ℕ) → (leb k lo || ltb hi k) ≡ true → leb k a ≡ leb k lo

pub like : (lo hi : ℕ) {a : ℕ} → lo ≤ a → a ≤ hi → Like lo hi a
like lo hi {a} p q k e =
    upto lo k (λ h. le-leb k a (omega arith) ∙ sym (le-leb k lo h))
    (λ h. let l = ltb-true hi k (rw (lt-leb k lo h) at e) in lt-leb k a (omega arith) ∙ sym (lt-leb k lo h))

-- a number from lo on is in the range, or above it
range : {A : Type 0} (lo hi a : ℕ) → lo ≤ a → (Like lo hi a → A) → (hi < a → A) → A
range lo hi a p f g = upto hi a (λ q. f (like lo hi p q)) g

-- the two other tests, by that one
pub till : (a k : ℕ) → leb a k ≡ not (ltb k a)
till a k = upto k a (λ h. simp (le-leb a k h, le-ltb k a h)) (λ h. simp (lt-leb a k h, lt-ltb k a h))

equal : (a k : ℕ) → eqb a k ≡ (leb k a && leb a k)
equal a k =
    upto k a
    (λ h. upto a k (λ l. simp (eq-eqb a k (omega arith), le-leb k a l, le-leb a k h)) (λ l. simp (ne_eqb a k (λ e. omega arith), lt-leb k a l)))
    (λ h. simp (ne_eqb a k (λ e. omega arith), le-leb k a (omega arith), lt-leb a k h))

-- the two rules agree on any four bytes: a line for each range of lead bytes, which every test takes for its first
four : (a b c d : ℕ) → size_of a b c d ≡ char_size rows (a ∷ b ∷ c ∷ d ∷ [])
unfolding size_of lead_size second rows fits char_size
four a b c d =
    range 0x00 0x7F a zero-le (λ t. simp (t, till a, equal a))
    (λ p. range 0x80 0xC1 a p (λ t. simp (t, till a, equal a))
    (λ p. range 0xC2 0xDF a p (λ t. simp (t, till a, equal a))
    (λ p. range 0xE0 0xE0 a p (λ t. simp (t, till a, equal a))
    (λ p. range 0xE1 0xEC a p (λ t. simp (t, till a, equal a))
    (λ p. range 0xED 0xED a p (λ t. simp (t, till a, equal a))
    (λ p. range 0xEE 0xEF a p (λ t. simp (t, till a, equal a))
    (λ p. range 0xF0 0xF0 a p (λ t. simp (t, till a, equal a, and-true))
    (λ p. range 0xF1 0xF3 a p (λ t. simp (t, till a, equal a, and-true))
    (λ p. range 0xF4 0xF4 a p (λ t. simp (t, till a, equal a, and-true))
    (λ p. simp (like 0xF5 a p (le_refl a), till a, equal a)))))))))))

-- past the end a byte reads as 0, with which no row goes on
padded : (a : ℕ) (s : List ℕ) → char_size rows (a ∷ s) ≡ char_size rows (a ∷ get_or s 0 0 ∷ get_or s 1 0 ∷ get_or s 2 0 ∷ [])
unfolding rows fits char_size tail
padded a [] = refl
padded a (b ∷ []) = refl
padded a (b ∷ c ∷ []) = refl
padded a (b ∷ c ∷ d ∷ s) = refl

pub same_size : (s : List ℕ) (at : ℕ) → at < length s → size_at s at ≡ char_size rows (drop at s)
unfolding size_at
same_size s at h = four _ _ _ _ ∙ sym (rw (drop-cons s at 0 h) (padded _ _ ∙ simp (get_or-drop, towards_numerals)))
