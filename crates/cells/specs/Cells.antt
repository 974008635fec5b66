-- What a host in another language is given: one word that each call returns, and cells of a machine word that it lends for the rest of an answer, as many
-- as the answer has. include/ntske.h says the same in words. 01 has neither word nor cells: both are this project's (docs/DECISIONS.md).
use Rattle.std.specs.Prelude.{ℕ, ◌+◌, ◌*◌, ◌≡◌, List, [], ◌∷◌, Bool, cond, get_or}
use Rattle.nts.specs.Refusal.{Beside, nothing, code, protocol, algorithm, beside_number, Refused}
use Rattle.layout.specs.Write.{Count, bytes, refused, left_by}

-- ---- the word of a refusal

-- what was not offered, of 17: 1 for a protocol, 2 for an algorithm; 0 for every other refusal, whose number tells what is beside it
abbrev pub sort_of : Beside → ℕ
sort_of nothing = 0
sort_of (code n) = 0
sort_of (protocol p) = 1
sort_of (algorithm a) = 2

-- a refusal's number, in bits 0 to 7, and that, in bits 8 to 15
abbrev pub marked : ℕ → Beside → ℕ
marked n b = n + 256 * sort_of b

-- behind them, bits 16 to 31 are the number beside it, 0 for none, and bits 32 to 63 its place
unfoldable pub word : Refused → ℕ
word r = marked r.number r.beside + 65536 * beside_number r.beside + 4294967296 * r.place

-- a refusal that has no place, or whose place is the caller's own argument
abbrev pub unplaced : ℕ → Beside → Refused
unplaced k b = record { number = k; beside = b; place = 0 }

-- ---- an answer

-- what a call tells: what is put into the lent cells, or a refusal
pub data Given : Type 0 where
  cells : List ℕ → Given
  refuses : Refused → Given

-- the word returned is 0 where nothing is refused ..
abbrev pub returned : Given → ℕ
returned (cells c) = 0
returned (refuses r) = word r

-- .. and a refusal changes no cell
abbrev pub held : Given → List ℕ → List ℕ
held (cells c) lent = c
held (refuses r) lent = lent

-- a call that answers into lent cells
pub record Gives (g : Given) (lent : List ℕ) (r : ℕ) (after : List ℕ) : Type 0 where
  pub says : r ≡ returned g
  pub left : after ≡ held g lent

abbrev pub flag : Bool → ℕ
flag b = cond b 1 0

-- the cell at an index; one that is not there counts as 0
abbrev pub cell : List ℕ → ℕ → ℕ
cell c i = get_or c i 0

-- ---- a count of bytes

-- one cell
abbrev pub counted : Count → Given
counted (bytes n) = cells (n ∷ [])
counted (refused k b) = refuses (unplaced k b)

-- a writer: how many bytes it wrote, into one cell, and the output afterwards
pub record Writes (a : Count) (b o lent : List ℕ) (r : ℕ) (o' after : List ℕ) : Type 0 where
  pub gives : Gives (counted a) lent r after
  pub wrote : o' ≡ left_by a b o
