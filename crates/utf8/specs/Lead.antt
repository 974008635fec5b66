-- The lead-byte rule of 01, "The record", last paragraph: the sequence length by the lead byte, and which byte may follow it.
-- proofs/Rows.antt proves it equal to the rows of RFC 3629.
use Rattle.std.specs.Prelude.{ℕ, ◌+◌, ◌<◌, ◌≤◌, ◌≡◌, List, Bool, cond, ◌&&◌, ◌||◌, length, get_or, drop, leb, ltb, eqb}
use Rattle.utf8.specs.Utf8.{within, tail, well_formed}

-- one byte for ASCII, two to four as the lead byte says; 80 to BF, C0, C1 and F5 to FF lead nothing: 0
unfoldable pub lead_size : ℕ → ℕ
lead_size a = cond (leb a 0x7F) 1 (cond (within 0xC2 0xDF a) 2 (cond (within 0xE0 0xEF a) 3 (cond (within 0xF0 0xF4 a) 4 0)))

-- the first continuation byte is narrowed after E0, ED, F0 and F4
unfoldable pub second : ℕ → ℕ → Bool
second a b =
    cond (eqb a 0xE0) (within 0xA0 0xBF b)
    (cond (eqb a 0xED) (within 0x80 0x9F b)
    (cond (eqb a 0xF0) (within 0x90 0xBF b)
    (cond (eqb a 0xF4) (within 0x80 0x8F b)
    (tail b))))

-- a sequence of this size is whole: its second, third and fourth byte are as they should be, as far as it has them
abbrev pub whole : ℕ → Bool → Bool → Bool → Bool
whole n p q r = ltb n 2 || p && (eqb n 2 || q && (eqb n 3 || r))

-- the size of the sequence that begins with these four bytes, or 0 where there is none
unfoldable pub size_of : ℕ → ℕ → ℕ → ℕ → ℕ
size_of a b c d = cond (whole (lead_size a) (second a b) (tail c) (tail d)) (lead_size a) 0

-- the same at a place of a list; a byte past the end reads as 0, which continues nothing
unfoldable pub size_at : List ℕ → ℕ → ℕ
size_at s at = size_of (get_or s at 0) (get_or s (at + 1) 0) (get_or s (at + 2) 0) (get_or s (at + 3) 0)

-- the first n bytes of a list are ASCII
pub record Ascii (s : List ℕ) (n : ℕ) : Type 0 where
  pub each : (k : ℕ) → k < n → get_or s k 0 ≤ 0x7F

-- a place r, from a place on, up to which nothing was passed over that the check could refuse
pub record Passed (s : List ℕ) (at r : ℕ) : Type 0 where
  pub onward : at ≤ r
  pub inside : at ≤ length s → r ≤ length s
  pub same : well_formed (drop r s) ≡ well_formed (drop at s)
