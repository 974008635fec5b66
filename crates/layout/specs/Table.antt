-- 01, "The record": the table by kind, its columns "Body" and "Bit written". Whatever reads or writes a record takes both from here.
use Rattle.std.specs.Prelude.{ℕ, Bool, true, false, cond, ◌||◌, eqb}
use Rattle.layout.specs.declared.Shape.{Shape}
use Rattle.layout.specs.declared.Shape.TheVariants.{Skipped, Numbers, Number, Bytes, Name, Pairs, Halves, Unknown}
use Rattle.layout.specs.declared.Bit.{Bit}
use Rattle.layout.specs.declared.Bit.TheVariants.{Set, Clear, Given}
use Rattle.layout.specs.declared.Row.{Row}

abbrev pub row : Shape → Bit → Row
row body bit = record { body = body; bit = bit }

unfoldable pub row_of : ℕ → Row
row_of k =
    cond (eqb k 0) (row Skipped Set)  -- end
    (cond (eqb k 8) (row Skipped Clear)  -- keep-alive
    (cond (eqb k 1 || eqb k 4 || eqb k 9) (row Numbers Set)  -- protocols, algorithms, supported protocols
    (cond (eqb k 2 || eqb k 3 || eqb k 7) (row Number Set)  -- error, warning, port
    (cond (eqb k 5) (row Bytes Clear)  -- cookie
    (cond (eqb k 6) (row Name Set)  -- server
    (cond (eqb k 13 || eqb k 14) (row Name Clear)  -- denied, authentication
    (cond (eqb k 10) (row Pairs Set)  -- supported algorithms
    (cond (eqb k 12) (row Halves Set)  -- keys
    (row Unknown Given)))))))))  -- 11, and 15 to 32,767

-- what a kind's body holds
unfoldable pub shape_of : ℕ → Shape
shape_of k = (row_of k).body

-- the bit that the table names for a kind: set, clear, or of an unknown one as given
abbrev pub bit_named : ℕ → Bit
bit_named k = (row_of k).bit

-- the bit that is written: the table's, and of an unknown kind the one that is given
abbrev pub bit_by : Bit → Bool → Bool
bit_by Set bit = true
bit_by Clear bit = false
bit_by Given bit = bit

unfoldable pub bit_of : ℕ → Bool → Bool
bit_of k bit = bit_by (bit_named k) bit

abbrev pub is_unknown_shape : Shape → Bool
is_unknown_shape Skipped = false
is_unknown_shape Numbers = false
is_unknown_shape Number = false
is_unknown_shape Bytes = false
is_unknown_shape Name = false
is_unknown_shape Pairs = false
is_unknown_shape Halves = false
is_unknown_shape Unknown = true

-- a number that no known kind has
unfoldable pub is_unknown : ℕ → Bool
is_unknown k = is_unknown_shape (shape_of k)

abbrev pub is_skipped_shape : Shape → Bool
is_skipped_shape Skipped = true
is_skipped_shape Numbers = false
is_skipped_shape Number = false
is_skipped_shape Bytes = false
is_skipped_shape Name = false
is_skipped_shape Pairs = false
is_skipped_shape Halves = false
is_skipped_shape Unknown = false

-- a kind whose body is skipped on reading, and written empty
unfoldable pub is_skipped : ℕ → Bool
is_skipped k = is_skipped_shape (shape_of k)
