-- A tray: 01, "Choosing and replying": fields of a tag, a two-byte big-endian length and a body, one after the other.
use Rattle.std.specs.Prelude.{ℕ, zero, suc, ◌+◌, ◌≡◌, List, [], ◌∷◌, ◌++◌, cond, length, take, drop, ltb, eqb}
use Rattle.wire.specs.Bytes.{number_at}
use Rattle.wire.specs.Over.{over, bytes_of}
use Rattle.utf8.specs.Utf8.{well_formed}
use Rattle.nts.specs.Refusal.{nothing}
use Rattle.layout.specs.Write.{Count, bytes, refused, told_count}
use Rattle.layout.specs.declared.ByteCount.{ByteCount}

-- what a used part holds: nothing that a tray may hold, or bodies in their order
pub data Fields : Type 0 where
  broken : Fields
  fields : List (List ℕ) → Fields

-- one body more in front
abbrev pub before : List ℕ → Fields → Fields
before b broken = broken
before b (fields l) = fields (b ∷ l)

-- from s on, after k more bytes of the field begun: a last field that is cut, or one with another tag, breaks the tray
unfoldable pub fields_from : ℕ → ℕ → List ℕ → Fields
fields_from tag zero [] = fields []
fields_from tag (suc k) [] = broken
fields_from tag (suc k) (b ∷ s) = fields_from tag k s
fields_from tag zero (b ∷ s) =
    cond (eqb b tag)
    (before (take (number_at s 0) (drop 2 s)) (fields_from tag (2 + number_at s 0) s))
    broken

-- .. and so does a used length that exceeds the tray
unfoldable pub fields_in : ℕ → ℕ → List ℕ → Fields
fields_in tag used tray = cond (ltb (length tray) used) broken (fields_from tag 0 (take used tray))

-- tag 1 for a cookie: at most 8 of them; tag 2 for a denied name: any number
abbrev pub at_most : ℕ → Fields → Fields
at_most n broken = broken
at_most n (fields l) = cond (ltb n (length l)) broken (fields l)

unfoldable pub cookies_in : ℕ → List ℕ → Fields
cookies_in used tray = at_most 8 (fields_in 1 used tray)

unfoldable pub names_in : ℕ → List ℕ → Fields
names_in used tray = fields_in 2 used tray

-- one field as it stands in a tray
unfoldable pub field_bytes : ℕ → List ℕ → List ℕ
field_bytes tag b = tag ∷ (bytes_of (length b) ++ b)

-- all their bodies' bytes together
abbrev pub bytes_in : List (List ℕ) → ℕ
bytes_in [] = 0
bytes_in (b ∷ l) = length b + bytes_in l

-- ---- a field appended behind the used part

-- how many bytes are used then, for a body of n; 10 for no room
abbrev pub room_for : ℕ → ℕ → ℕ → Count
room_for room used n = cond (ltb room (used + (3 + n))) (refused 10 nothing) (bytes (used + (3 + n)))

-- a tray with bytes behind its used part; no other byte changes
abbrev pub behind : ℕ → List ℕ → List ℕ → List ℕ
behind used b tray = take used tray ++ over b (drop used tray)

-- the tray afterwards: only the bytes of the field that was added change
abbrev pub grown_tray : Count → ℕ → ℕ → List ℕ → List ℕ → List ℕ
grown_tray (refused k b) tag used body tray = tray
grown_tray (bytes n) tag used body tray = behind used (field_bytes tag body) tray

-- a denied name: 9 for a broken tray and for a name that is not UTF-8, then 8 for its length, then 10
abbrev pub deny_by : ℕ → ℕ → List ℕ → Fields → Count
deny_by room used name broken = refused 9 nothing
deny_by room used name (fields l) =
    cond (well_formed name)
    (cond (ltb 65535 (length name)) (refused 8 nothing) (room_for room used (length name)))
    (refused 9 nothing)

unfoldable pub deny : ℕ → List ℕ → List ℕ → Count
deny used name tray = deny_by (length tray) used name (names_in used tray)

-- the contract: how many bytes are used then, and the tray afterwards
pub record Denies (used : ℕ) (name tray : List ℕ) (r : ByteCount) (tray' : List ℕ) : Type 0 where
  pub says : told_count r ≡ deny used name tray
  pub left : tray' ≡ grown_tray (deny used name tray) 2 used name tray
