-- A read that is fed in pieces, for a host that keeps its connection as nine cells: 02, orders 1 and 5. Cells that hold no connection are 9.
use Rattle.std.specs.Prelude.{ℕ, ◌≡◌, List, [], ◌∷◌, ◌++◌, Bool, cond, ◌&&◌, ◌||◌, leb, ltb, eqb}
use Rattle.nts.specs.Refusal.{Beside, nothing, code, protocol, algorithm, beside_number}
use Rattle.layout.specs.declared.Profile.{Profile}
use Rattle.layout.specs.declared.Profile.TheVariants.{Usual, Strict}
use Rattle.walk.specs.Judge.{Terms}
use Rattle.pieces.specs.Pieces.{Standing, pending, accepted, refused, Line, Brought, Read, Says, nothing_yet, says, says_of, held, answer_of, line_after, buffer_after, table_after}
use Rattle.cells.specs.Cells as given
use Rattle.cells.specs.Cells.{marked, word, unplaced, Given, returned, cell}

-- ---- the cells

-- whether there is an answer, 0 for none, 1 for accepted, 2 for refused; and of a refusal its number with what was not offered, as in its word, the number beside
-- it, and its place
abbrev pub standing_cells : Standing → List ℕ
standing_cells pending = 0 ∷ 0 ∷ 0 ∷ 0 ∷ []
standing_cells accepted = 1 ∷ 0 ∷ 0 ∷ 0 ∷ []
standing_cells (refused r) = 2 ∷ marked r.number r.beside ∷ beside_number r.beside ∷ r.place ∷ []

-- 0 for the usual profile, and 1 for the strict one
abbrev pub profile_cell : Profile → ℕ
profile_cell Usual = 0
profile_cell Strict = 1

-- before that the limit, the bytes gathered, where the record that is being gathered begins, and the kinds met; behind it the profile
abbrev pub line_cells : Line → List ℕ
line_cells c = c.limit ∷ c.gathered ∷ c.begins ∷ c.met ∷ standing_cells c.standing ++ (profile_cell c.profile ∷ [])

-- ---- the connection that cells hold

-- of 1 to 16 and 18, these have a number beside them; both of 17 have one as well
unfoldable pub has_beside : ℕ → Bool
has_beside n = eqb n 5 || eqb n 11 || eqb n 12

-- a refusal's number, with what was not offered: 17 and a protocol, 17 and an algorithm
abbrev pub no_protocol : ℕ
no_protocol = 273

abbrev pub no_algorithm : ℕ
no_algorithm = 529

unfoldable pub is_mark : ℕ → Bool
is_mark n = (leb 1 n && leb n 16) || eqb n 18 || eqb n no_protocol || eqb n no_algorithm

-- what was refused has such a number, one of sixteen bits beside it if it has any, and a place of thirty-two; what was not has none of them
unfoldable pub is_standing : ℕ → ℕ → ℕ → ℕ → Bool
is_standing s n x p =
    cond (ltb s 2)
    (eqb n 0 && eqb x 0 && eqb p 0)
    (eqb s 2 && is_mark n && leb x 65535 && (eqb x 0 || has_beside n || leb no_protocol n) && leb p 4294967295)

-- sixteen bits for the limit and for the kinds met, and one of the two profiles
unfoldable pub is_connection : List ℕ → Bool
is_connection c = leb (cell c 0) 65535 && leb (cell c 3) 65535 && is_standing (cell c 4) (cell c 5) (cell c 6) (cell c 7) && leb (cell c 8) 1

-- the number, and what is beside it
abbrev pub number_in : ℕ → ℕ
number_in n = cond (leb no_protocol n) 17 n

abbrev pub beside_in : ℕ → ℕ → Beside
beside_in n x = cond (eqb n no_protocol) (protocol x) (cond (eqb n no_algorithm) (algorithm x) (cond (has_beside n) (code x) nothing))

abbrev pub standing_in : ℕ → ℕ → ℕ → ℕ → Standing
standing_in s n x p = cond (eqb s 0) pending (cond (eqb s 1) accepted (refused (record { number = number_in n; beside = beside_in n x; place = p })))

abbrev pub profile_in : ℕ → Profile
profile_in p = cond (eqb p 0) Usual Strict

abbrev pub line_in : List ℕ → Line
line_in c = record { profile = profile_in (cell c 8); limit = cell c 0; gathered = cell c 1; begins = cell c 2; met = cell c 3; standing = standing_in (cell c 4) (cell c 5) (cell c 6) (cell c 7) }

-- ---- what a call tells

-- 65,535 where the read waits, which is no refusal's word and not 0
abbrev pub fed_word : {T : Type 0} → (T → Given) → Says T → ℕ
fed_word f nothing_yet = 65535
fed_word f (says t) = returned (f t)

-- the answer's cells, which neither waiting nor a refusal changes
abbrev pub fed_cells : {T : Type 0} → (T → Given) → Says T → List ℕ → List ℕ
fed_cells f nothing_yet lent = lent
fed_cells f (says t) lent = given.held (f t) lent

-- of the connection c with the buffer b, under what is lent beside them
abbrev pub says_in : (X : Read) → Line → List ℕ → Brought → Terms → Says X.Told
says_in X c b h x = says_of X (held (line_after X c b h x) (buffer_after X c b h)) (answer_of X c b h x)

-- ---- a call: f gives the cells of what is told

pub record Feeds (X : Read) (f : X.Told → Given) (c b : List ℕ) (h : Brought) (x : Terms) (t lent : List ℕ) (r : ℕ) (c' b' t' after : List ℕ) : Type 0 where
  pub word : r ≡ cond (is_connection c) (fed_word f (says_in X (line_in c) b h x)) (given.word (unplaced 9 nothing))
  pub connection : c' ≡ cond (is_connection c) (line_cells (line_after X (line_in c) b h x)) c
  pub buffer : b' ≡ cond (is_connection c) (buffer_after X (line_in c) b h) b
  pub table : t' ≡ cond (is_connection c) (table_after X (line_in c) b h x t) t
  pub answer : after ≡ cond (is_connection c) (fed_cells f (says_in X (line_in c) b h x) lent) lent
