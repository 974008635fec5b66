-- What a record holds, whichever message its parts lie in, and what a writer makes of a record that was read: 01, "The record".
use Rattle.std.specs.Prelude.{ℕ, ◌≡◌, List, ◌++◌, Bool, false, cond, drop}
use Rattle.wire.specs.Bytes.{part_at}
use Rattle.wire.specs.Over.{bytes_of}
use Rattle.layout.specs.Table.{bit_of, is_skipped}
use Rattle.layout.specs.Write.{word_of}
use Rattle.record.specs.Record.{kind, critical, Value, Seen}
use Rattle.record.specs.Record as value
use Rattle.record.specs.Told.{value_of_record}
use Rattle.record.specs.declared.NtsRecord.{NtsRecord}

pub data Held : Type 0 where
  nothing : Held
  number : ℕ → Held
  bytes : List ℕ → Held
  halves : List ℕ → List ℕ → Held
  unknown : Bool → List ℕ → Held

-- a value of a message, its parts replaced by the bytes that they stand for
unfoldable pub held_in : List ℕ → Value → Held
held_in m value.skipped = nothing
held_in m (value.number n) = number n
held_in m (value.part a n) = bytes (part_at m a n)
held_in m (value.halves a n b k) = halves (part_at m a n) (part_at m b k)
held_in m (value.unknown bit a n) = unknown bit (part_at m a n)

pub record Shown : Type 0 where
  pub kind : ℕ
  pub held : Held

unfoldable pub shown : Seen → List ℕ → Shown
shown x m = record { kind = x.kind; held = held_in m x.value }

-- the bit that a record was given: an unknown record's own; any other has none, and false stands for it, since `bit_of` does not look at it
abbrev pub given_by : Value → Bool
given_by value.skipped = false
given_by (value.number n) = false
given_by (value.part a n) = false
given_by (value.halves a n b k) = false
given_by (value.unknown bit a n) = bit

abbrev pub given_bit : NtsRecord → Bool
given_bit x = given_by (value_of_record x)

-- the bytes of a record as they were read, made those that are written: the bit is the one that is written, and of kinds 0 and 8 the size is 0
-- and the body is left out; no other byte changes
unfoldable pub canonical : List ℕ → List ℕ
canonical s = bytes_of (word_of (kind s) (bit_of (kind s) (critical s))) ++ cond (is_skipped (kind s)) (bytes_of 0) (drop 2 s)

-- which records are written in the very bytes that were read: of a kind, the bit received and the body's size. 02, order 4: the bit is the one that is
-- written, and the body of an end record (0) or a keep-alive record (8) is empty
pub record IsCanonical (k : ℕ) (bit : Bool) (n : ℕ) : Type 0 where
  pub as_written : bit ≡ bit_of k bit
  pub end_empty : k ≡ 0 → n ≡ 0
  pub keep_alive_empty : k ≡ 8 → n ≡ 0
