-- What a writer leaves in an output that it was lent: 01, "Choosing and replying": each record is written into the rest of the output, and
-- bytes after it do not change.
use Rattle.std.specs.Prelude.{List, [], ◌∷◌, ◌++◌, ◌≡◌, ℕ, ◌/◌, ◌%◌, ◌≤◌, ◌<◌, length, drop}

-- o with b at its front
unfoldable pub over : List ℕ → List ℕ → List ℕ
over b o = b ++ drop (length b) o

-- a number of sixteen bits, the high byte first
unfoldable pub bytes_of : ℕ → List ℕ
bytes_of x = x / 256 ∷ x % 256 ∷ []

-- a writer that had room: it wrote the n bytes b at the front of o, left o' and answered n
pub record Put (n : ℕ) (b o : List ℕ) (r : ℕ) (o' : List ℕ) : Type 0 where
  pub count : r ≡ n
  pub size : length b ≡ n
  pub left : o' ≡ over b o

-- a total writer: with room for n bytes it is a Put; without, it answers 0 and changes nothing. Either way it stays within
pub record Tried (n : ℕ) (b o : List ℕ) (r : ℕ) (o' : List ℕ) : Type 0 where
  pub within : r ≤ length o
  pub room : n ≤ length o → Put n b o r o'
  pub none : length o < n → (r ≡ 0) × (o' ≡ o)
