-- A message in the words of demand 3: whole records, the end record, and what follows it: 01, "The record" (a record
-- takes exactly 4 + size bytes) and "From records to a request"; and what an accepted answer shows of it. A record stands here for its bytes.
use Rattle.std.specs.Prelude.{ℕ, ◌+◌, ◌≤◌, ◌≡◌, List, [], ◌∷◌, ◌++◌, true, cond, length, eqb}
use Rattle.record.specs.Record.{kind, size, there}
use Rattle.layout.specs.Profile.{is_final}
use Rattle.walk.specs.Walk.{Reader, Sighting}
use Rattle.walk.specs.Judge.{Under, Judge, body_in, accepted, read_as}

-- ---- records

abbrev pub Whole : List ℕ → Type 0
Whole c = length c ≡ 4 + size c

-- a record before the end record ..
abbrev pub Record : List ℕ → Type 0
Record c = Whole c × (kind c ≡ 0 → ⊥)

-- .. and the end record
abbrev pub End : List ℕ → Type 0
End e = Whole e × (kind e ≡ 0)

abbrev pub Each : (List ℕ → Type 0) → List (List ℕ) → Type 0
Each P [] = Unit {0}
Each P (c ∷ cs) = P c × Each P cs

-- the bodies of the records of a kind, in their order
abbrev pub bodies : ℕ → List (List ℕ) → List (List ℕ)
bodies k [] = []
bodies k (c ∷ cs) = cond (eqb (kind c) k) (there c ∷ bodies k cs) (bodies k cs)

-- ---- a message of them

-- one record after the other
abbrev pub flat : List (List ℕ) → List ℕ
flat [] = []
flat (c ∷ cs) = c ++ flat cs

-- records, an end record, and a tail
abbrev pub message : List (List ℕ) → List ℕ → List ℕ → List ℕ
message cs e t = flat cs ++ (e ++ t)

-- m is chunks of one sort, then one of another through which it fits the limit n, and a tail; as records and an end: `Parts Record End m n`
pub record Parts (P E : List ℕ → Type 0) (m : List ℕ) (n : ℕ) : Type 0 where
  pub front : List (List ℕ)
  pub last : List ℕ
  pub tail : List ℕ
  pub joined : m ≡ message front last tail
  pub each : Each P front
  pub ends : E last
  pub fits : length (flat front) + length last ≤ n

-- the tail of another message: any, or the same where the profile lets nothing follow the end record
abbrev pub SameTail : Under → List ℕ → List ℕ → Type 0
SameTail u t t' = is_final u.profile ≡ true → t' ≡ t

-- ---- an accepted message

-- what its answer shows: each part as the bytes that stand there
abbrev pub contents : (D : Judge) → List ℕ → D.Q Sighting → D.Q (List ℕ)
contents D m q = D.map_q (body_in m) q

-- m is accepted under what is asked, and its answer shows x
abbrev pub Shows : Reader → (D : Judge) → List ℕ → Under → D.Q (List ℕ) → Type 0
Shows R D m u x = (q : D.Q Sighting) × (read_as R D m u ≡ accepted q) × (contents D m q ≡ x)
