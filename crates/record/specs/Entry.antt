-- What stands at an index of a list that a body holds: 01, "The record": two-byte numbers, and pairs of a number and a key size.
use Rattle.std.specs.Prelude.{ℕ, ◌+◌, ◌*◌, ◌/◌, List, cond, length, ltb}
use Rattle.wire.specs.Bytes.{number_at}

pub data Entry : Type 0 where
  outside : Entry
  number : ℕ → Entry
  pair : ℕ → ℕ → Entry

unfoldable pub number_in : List ℕ → ℕ → Entry
number_in list i = cond (ltb i (length list / 2)) (number (number_at list (2 * i))) outside

unfoldable pub pair_in : List ℕ → ℕ → Entry
pair_in list i = cond (ltb i (length list / 4)) (pair (number_at list (4 * i)) (number_at list (4 * i + 2))) outside
