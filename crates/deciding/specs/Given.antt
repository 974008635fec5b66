-- A finding as cells, for a host in C or Rust: 02, order 2. Forty-eight of sixteen bits: the limit, the place and the reason of the stop, and what was found,
-- three a kind.
use Rattle.std.specs.Prelude.{ℕ, zero, suc, ◌≡◌, List, [], ◌∷◌}
use Rattle.nts.specs.Refusal.{nothing}
use Rattle.walk.specs.Found.{Way, way_refused, way_ended}
use Rattle.walk.specs.Finding.{Found}
use Rattle.places.specs.Places.{room_of}
use Rattle.request.specs.Request.{told_by, table_after, decided}
use Rattle.cells.specs.Cells.{Gives, cell}
use Rattle.reading.specs.Read.{request_given}

-- ---- the cells of a finding

abbrev pub place_cell : Way → ℕ
place_cell (way_ended p) = p
place_cell (way_refused r) = r.place

-- 0 for the end record, otherwise the refusal's number
abbrev pub reason_cell : Way → ℕ
reason_cell (way_ended p) = 0
reason_cell (way_refused r) = r.number

abbrev pub finding_cells : Found → List ℕ
finding_cells f = f.limit ∷ place_cell f.way ∷ reason_cell f.way ∷ f.cells

-- ---- the finding that cells tell, whatever they hold

-- n cells from the k-th on
unfoldable pub cells_at : List ℕ → ℕ → ℕ → List ℕ
cells_at c k zero = []
cells_at c k (suc n) = cell c k ∷ cells_at c (suc k) n

-- the way that a place and a reason tell
abbrev pub way_in : ℕ → ℕ → Way
way_in place zero = way_ended place
way_in place (suc n) = way_refused (record { number = suc n; beside = nothing; place = place })

abbrev pub found_in : List ℕ → Found
found_in c = record { limit = cell c 0; cells = cells_at c 3 45; way = way_in (cell c 1) (cell c 2) }

-- ---- the second call: what is decided from the finding that the cells tell, over the message m, and the table of names afterwards

pub record DecidesRequest (c m table lent : List ℕ) (r : ℕ) (table' after : List ℕ) : Type 0 where
  pub gives : Gives (request_given (told_by m (decided (found_in c) m (room_of table)))) lent r after
  pub left : table' ≡ table_after (decided (found_in c) m (room_of table)) table
