-- Bytes at a place of a list, and a part of it: what 01, "The record" and "What must change shape", reads a message by.
use Rattle.std.specs.Prelude.{ℕ, ◌+◌, ◌*◌, ◌≡◌, cond, List, [], length, get_or, take, drop, leb}
use Rattle.std.specs.Borrow.{Bor}

-- the byte at a place, and 0 past the end
abbrev pub byte_at : List ℕ → ℕ → ℕ
byte_at s at = get_or s at 0

-- the two bytes from a place on as a number, big-endian
unfoldable pub number_at : List ℕ → ℕ → ℕ
number_at s at = byte_at s at * 256 + byte_at s (at + 1)

-- the n bytes from a place on; a part that is not inside comes out empty
unfoldable pub part_at : List ℕ → ℕ → ℕ → List ℕ
part_at s start n = cond (leb (start + n) (length s)) (take n (drop start s)) []

-- where they start: a part that is not inside is empty, and starts at the front
unfoldable pub start_at : List ℕ → ℕ → ℕ → ℕ
start_at s start n = cond (leb (start + n) (length s)) start 0

-- r refers to the n bytes from a place on of what s refers to: it holds them, and points to where they lie there
pub record PartOf (s : Bor (List ℕ)) (start n : ℕ) (r : Bor (List ℕ)) : Type 0 where
  pub holds : r.now ≡ part_at s.now start n
  pub block : r.ref_ptr.0 ≡ s.ref_ptr.0
  pub offset : r.ref_ptr.1 ≡ s.ref_ptr.1 + start_at s.now start n
