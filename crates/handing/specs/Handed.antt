-- What is handed out of a message and its lists, a choice, and the length of a key, as cells: 01, "The record" and "Choosing and replying".
use Rattle.std.specs.Prelude.{ℕ, ◌+◌, ◌*◌, List, [], ◌∷◌, cond, get_or, leb}
use Rattle.nts.specs.Refusal.{code}
use Rattle.nts.specs.Algorithm.{Described, known, unknown}
use Rattle.record.specs.Entry as entry
use Rattle.negotiation.specs.Negotiation as choice
use Rattle.cells.specs.Cells.{unplaced, Given, cells, refuses}

-- ---- a part, and an entry of a table

-- start and length of a part of a message of n bytes as it is handed out: 0 and 0 where it is not inside
abbrev pub part_cells : ℕ → ℕ → ℕ → List ℕ
part_cells n start len = cond (leb (start + len) n) (start ∷ len ∷ []) (0 ∷ 0 ∷ [])

-- the entry at an index of a table; a cell that is not there counts as 0
abbrev pub entry_cells : ℕ → List ℕ → ℕ → List ℕ
entry_cells n table i = part_cells n (get_or table (2 * i) 0) (get_or table (2 * i + 1) 0)

-- ---- an entry of a list: whether it is there, and its number, or both numbers of a pair

abbrev pub number_cells : entry.Entry → List ℕ
number_cells (entry.number n) = 1 ∷ n ∷ 0 ∷ []
number_cells (entry.pair a n) = 1 ∷ a ∷ n ∷ []
number_cells entry.outside = 0 ∷ 0 ∷ 0 ∷ []

-- ---- a choice: protocol and algorithm, or the protocol alone

abbrev pub choice_given : choice.Told → Given
choice_given (choice.chosen p a) = cells (p ∷ a ∷ [])
choice_given (choice.refused k b) = refuses (unplaced k b)

abbrev pub protocol_given : choice.Protocol → Given
protocol_given (choice.agreed p) = cells (p ∷ [])
protocol_given (choice.refused_with k b) = refuses (unplaced k b)

-- ---- the length of an algorithm's key: 5, with its number, for one whose length is not known

abbrev pub key_given : ℕ → Described → Given
key_given n (known m size) = cells (size ∷ [])
key_given n unknown = refuses (unplaced 5 (code n))

-- ---- the version: 1 in the third byte from the right for 1.x.y, x in the second, y in the first

abbrev pub version : ℕ
version = 0x000500
