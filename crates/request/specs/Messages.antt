-- 01, "Messages on both sides of a line": the rows marked *, in their order, as one table; and 02, order 5, messages on both sides of the strict profile's lines, as another.
use Rattle.std.specs.Prelude.{ℕ, ◌≤◌, ◌≡◌, List, [], ◌∷◌, ◌++◌, length}
use Rattle.nts.specs.Refusal.{nothing, Refused}
use Rattle.layout.specs.declared.Profile.{Profile}
use Rattle.layout.specs.declared.Profile.TheVariants.{Usual, Strict}
use Rattle.walk.specs.Judge as judge
use Rattle.walk.specs.Judge.{body_in}
use Rattle.request.specs.Request.{Form, key_exchange, map_form, request}

-- the sixteen bytes of the listing's example
abbrev pub M : List ℕ
M = 0x80 ∷ 0x01 ∷ 0x00 ∷ 0x02 ∷ 0x00 ∷ 0x00 ∷ 0x80 ∷ 0x04 ∷ 0x00 ∷ 0x02 ∷ 0x00 ∷ 0x0F ∷ 0x80 ∷ 0x00 ∷ 0x00 ∷ 0x00 ∷ []

-- what a message is answered: a refusal, or contents, each body as its bytes
pub data Outcome : Type 0 where
  refusal : Refused → Outcome
  contents : Form (List ℕ) → Outcome

abbrev pub outcome : List ℕ → judge.Answer Form → Outcome
outcome m (judge.refused r) = refusal r
outcome m (judge.accepted q) = contents (map_form (body_in m) q)

-- a number at a place, and nothing beside it
abbrev pub refused_at : ℕ → ℕ → Outcome
refused_at n place = refusal (record { number = n; beside = nothing; place = place })

-- "as M": protocol 0, algorithm 15, no name denied
abbrev pub as_m : Outcome
as_m = contents (key_exchange (0x00 ∷ 0x00 ∷ []) (0x00 ∷ 0x0F ∷ []) [])

-- the limit that a row names; where it names none it holds under every limit that the message fits
pub data Limit : Type 0 where
  any : Limit
  exactly : ℕ → Limit

abbrev pub Under : Limit → List ℕ → ℕ → Type 0
Under any m n = length m ≤ n
Under (exactly k) m n = n ≡ k

pub record Row : Type 0 where
  pub profile : Profile
  pub bytes : List ℕ
  pub limit : Limit
  pub answer : Outcome

abbrev pub row : List ℕ → Limit → Outcome → Row
row m n o = record { profile = Usual; bytes = m; limit = n; answer = o }

abbrev pub strictly : List ℕ → Limit → Outcome → Row
strictly m n o = record { profile = Strict; bytes = m; limit = n; answer = o }

abbrev pub table : List Row
table =
    -- empty; M under limits 16 and 15
    row [] any (refused_at 1 0)
    ∷ row M (exactly 16) as_m
    ∷ row M (exactly 15) (refused_at 1 12)
    -- an end record alone; M begun 00 01
    ∷ row (0x80 ∷ 0x00 ∷ 0x00 ∷ 0x00 ∷ []) any (refused_at 4 0)
    ∷ row (0x00 ∷ 0x01 ∷ 0x00 ∷ 0x02 ∷ 0x00 ∷ 0x00 ∷ 0x80 ∷ 0x04 ∷ 0x00 ∷ 0x02 ∷ 0x00 ∷ 0x0F ∷ 0x80 ∷ 0x00 ∷ 0x00 ∷ 0x00 ∷ []) any as_m
    -- an unknown record before M, its bit clear and set
    ∷ row (0x00 ∷ 0x0B ∷ 0x00 ∷ 0x00 ∷ M) any as_m
    ∷ row (0x80 ∷ 0x0B ∷ 0x00 ∷ 0x00 ∷ M) any (refused_at 3 0)
    -- a port of sizes 3 and 1
    ∷ row (0x80 ∷ 0x07 ∷ 0x00 ∷ 0x03 ∷ 0x00 ∷ 0x7B ∷ []) any (refused_at 2 0)
    ∷ row (0x80 ∷ 0x07 ∷ 0x00 ∷ 0x01 ∷ 0x00 ∷ []) any (refused_at 1 0)
    -- an odd key record; a short name, broken and whole
    ∷ row (0x80 ∷ 0x0C ∷ 0x00 ∷ 0x01 ∷ []) any (refused_at 2 0)
    ∷ row (0x80 ∷ 0x06 ∷ 0x00 ∷ 0x02 ∷ 0xC3 ∷ []) any (refused_at 2 0)
    ∷ row (0x80 ∷ 0x06 ∷ 0x00 ∷ 0x02 ∷ 0x41 ∷ []) any (refused_at 1 0)
    ∷ []

-- the strict profile
abbrev pub strict_table : List Row
strict_table =
    -- M; M begun 00 01
    strictly M any as_m
    ∷ strictly (0x00 ∷ 0x01 ∷ 0x00 ∷ 0x02 ∷ 0x00 ∷ 0x00 ∷ 0x80 ∷ 0x04 ∷ 0x00 ∷ 0x02 ∷ 0x00 ∷ 0x0F ∷ 0x80 ∷ 0x00 ∷ 0x00 ∷ 0x00 ∷ []) any (refused_at 18 0)
    -- M and a byte, inside the limit and not
    ∷ strictly (M ++ (0x00 ∷ [])) any (refused_at 18 16)
    ∷ strictly (M ++ (0x00 ∷ [])) (exactly 16) as_m
    -- M with an end record that has a body, and with one whose bit is clear
    ∷ strictly (0x80 ∷ 0x01 ∷ 0x00 ∷ 0x02 ∷ 0x00 ∷ 0x00 ∷ 0x80 ∷ 0x04 ∷ 0x00 ∷ 0x02 ∷ 0x00 ∷ 0x0F ∷ 0x80 ∷ 0x00 ∷ 0x00 ∷ 0x01 ∷ 0x00 ∷ []) any (refused_at 18 12)
    ∷ strictly (0x80 ∷ 0x01 ∷ 0x00 ∷ 0x02 ∷ 0x00 ∷ 0x00 ∷ 0x80 ∷ 0x04 ∷ 0x00 ∷ 0x02 ∷ 0x00 ∷ 0x0F ∷ 0x00 ∷ 0x00 ∷ 0x00 ∷ 0x00 ∷ []) any (refused_at 18 12)
    -- a name that is not ASCII before M, and one that is not UTF-8
    ∷ strictly (0x80 ∷ 0x06 ∷ 0x00 ∷ 0x02 ∷ 0xC3 ∷ 0xA9 ∷ M) any (refused_at 18 0)
    ∷ strictly (0x80 ∷ 0x06 ∷ 0x00 ∷ 0x01 ∷ 0xC3 ∷ M) any (refused_at 2 0)
    -- a denied name that is not UTF-8 before M, its bit clear and set; and a keep-alive record
    ∷ strictly (0x00 ∷ 0x0D ∷ 0x00 ∷ 0x01 ∷ 0xFF ∷ M) any as_m
    ∷ strictly (0x80 ∷ 0x0D ∷ 0x00 ∷ 0x01 ∷ 0xFF ∷ M) any (refused_at 3 0)
    ∷ strictly (0x00 ∷ 0x08 ∷ 0x00 ∷ 0x00 ∷ M) any as_m
    ∷ strictly (0x80 ∷ 0x08 ∷ 0x00 ∷ 0x00 ∷ M) any (refused_at 3 0)
    -- no algorithms, and a byte after the end
    ∷ strictly (0x80 ∷ 0x01 ∷ 0x00 ∷ 0x02 ∷ 0x00 ∷ 0x00 ∷ 0x80 ∷ 0x00 ∷ 0x00 ∷ 0x00 ∷ 0x00 ∷ []) any (refused_at 18 10)
    -- an error record alone, its bit clear; and one of size 3
    ∷ strictly (0x00 ∷ 0x02 ∷ 0x00 ∷ 0x02 ∷ 0x00 ∷ 0x01 ∷ []) any (refused_at 18 0)
    ∷ strictly (0x00 ∷ 0x02 ∷ 0x00 ∷ 0x03 ∷ 0x00 ∷ 0x01 ∷ []) any (refused_at 2 0)
    ∷ []

-- each row's message is answered as the row says, under each of its limits and whatever room the table has
abbrev pub Holds : List Row → Type 0
Holds [] = Unit {0}
Holds (r ∷ rows) =
    ((n room : ℕ) → Under r.limit r.bytes n → outcome r.bytes (request r.profile r.bytes n room) ≡ r.answer)
    × Holds rows
