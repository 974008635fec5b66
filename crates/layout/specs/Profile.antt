-- A profile: what a reader asks of a record, by its kind. There are two: 01's own way of reading, and 02, order 5, "a profile for plants that allow only the RFC", which is
-- RFC 8915, section 4 and sections 4.1.1 to 4.1.8. They part in `asks_of` and in `is_final`, and nowhere else; what follows from them is below.
use Rattle.std.specs.Prelude.{ℕ, List, Bool, true, false, cond, not, ◌&&◌, ◌||◌, length, eqb}
use Rattle.utf8.specs.Ascii.{is_ascii}
use Rattle.layout.specs.Table.{shape_of, is_unknown_shape}
use Rattle.layout.specs.declared.Shape.{Shape}
use Rattle.layout.specs.declared.Shape.TheVariants.{Unknown}
use Rattle.layout.specs.declared.Profile.{Profile}
use Rattle.layout.specs.declared.Profile.TheVariants.{Usual, Strict}

-- ---- by kind

pub record Asks : Type 0 where
  -- what a body holds; of a kind that is not known, nothing is looked at but that it is all there
  pub body : Shape
  -- the critical bit must be set
  pub bit : Bool
  -- the body must be empty
  pub empty : Bool
  -- its bytes must be ASCII
  pub ascii : Bool

-- a body, and nothing more
abbrev pub plain : Shape → Asks
plain x = record { body = x; bit = false; empty = false; ascii = false }

-- .. and the bit set
abbrev pub critical : Shape → Asks
critical x = record { body = x; bit = true; empty = false; ascii = false }

-- "In it kinds 0, 1, 2 and 3 need their critical bit, an end record has no body, a server name is ASCII"; "Kinds 8 to 14 count as unknown"
unfoldable pub asks_of : Profile → ℕ → Asks
asks_of Usual k = plain (shape_of k)  -- 01, "The record"
asks_of Strict k =
    cond (eqb k 0) (record { body = shape_of k; bit = true; empty = true; ascii = false })  -- RFC 8915, 4.1.1: end of message
    (cond (eqb k 1) (critical (shape_of k))  -- 4.1.2: next protocol
    (cond (eqb k 2) (critical (shape_of k))  -- 4.1.3: error
    (cond (eqb k 3) (critical (shape_of k))  -- 4.1.4: warning
    (cond (eqb k 4) (plain (shape_of k))  -- 4.1.5: AEAD algorithm, whose bit may be set
    (cond (eqb k 5) (plain (shape_of k))  -- 4.1.6: new cookie
    (cond (eqb k 6) (record { body = shape_of k; bit = false; empty = false; ascii = true })  -- 4.1.7: server
    (cond (eqb k 7) (plain (shape_of k))  -- 4.1.8: port
    (plain Unknown))))))))  -- 4: any other type is not recognized

-- ---- after the end record

-- RFC 8915, 4.1.1: it is the final record. "No byte follows the end record within the limit"
unfoldable pub is_final : Profile → Bool
is_final Usual = false
is_final Strict = true

-- ---- what follows from them

-- what a kind's body holds
unfoldable pub shape_in : Profile → ℕ → Shape
shape_in P k = (asks_of P k).body

-- which kinds are known: "unknown" is the profile's own word
unfoldable pub knows : Profile → ℕ → Bool
knows P k = not (is_unknown_shape (shape_in P k))

-- 18 for a record of which something more is asked than it has
unfoldable pub allows : Asks → Bool → List ℕ → Bool
allows x bit b = (not x.bit || bit) && (not x.empty || eqb (length b) 0) && (not x.ascii || is_ascii b)

-- the kind as which a record is taken: one that the strict profile does not know as 11, which 01 does not know
unfoldable pub taken_as : Profile → ℕ → ℕ
taken_as Usual k = k
taken_as Strict k = cond (knows Strict k) k 11
