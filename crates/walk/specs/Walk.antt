-- The walk over a message, once for every reader: 01, "From records to a request" and "Choosing and replying": read through the first end
-- record; the first fault in record order is the one told, at the place of its record; and then what follows the end: it is not looked at, or, 02, order 5, none may.
use Rattle.std.specs.Prelude.{ℕ, zero, suc, ◌+◌, ◌≡◌, List, [], ◌∷◌, ◌++◌, Bool, false, cond, ◌&&◌, ◌||◌, length, take, ltb, eqb}
use Rattle.std.specs.Borrow.{Bor}
use Rattle.nts.specs.Refusal.{Beside, nothing, Refused}
use Rattle.layout.specs.declared.Shape.{Shape}
use Rattle.record.specs.Record.{kind, critical, size, there, fault_by}

-- ---- a reader is a table by kind

-- what it does with a record that has no fault: it ends with it, passes over it, notes it for the decision after the end, or refuses it
pub data Act : Type 0 where
  ends passes notes : Act
  refuses : ℕ → Beside → Act

pub record Reader : Type 0 where
  -- what a kind's body holds
  pub shape : ℕ → Shape
  -- by kind, critical bit and body
  pub act : ℕ → Bool → List ℕ → Act
  -- a second record of such a kind is 4
  pub once : ℕ → Bool
  -- no byte may follow the end record
  pub final : Bool

-- of the record at the list's front: the fault of its header or body, 0 for none ..
abbrev pub fault_in : Reader → List ℕ → ℕ
fault_in R s = fault_by R.shape s

-- .. and then its meaning
unfoldable pub act_in : Reader → List ℕ → Act
act_in R s = R.act (kind s) (critical s) (there s)

-- ---- one record

-- a record that was noted: its kind, and where its body lies in the message
pub record Sighting : Type 0 where
  pub of : ℕ
  pub start : ℕ
  pub len : ℕ

-- how a walk stops: with a refusal, or with the end record at a place, the place after it, and what was noted, in record order
pub data Outcome : Type 0 where
  stopped : Refused → Outcome
  ended : ℕ → ℕ → List Sighting → Outcome

pub data Step : Type 0 where
  stops : Outcome → Step
  goes : List Sighting → Step

-- whether a record of the kind was noted
unfoldable pub has : ℕ → List Sighting → Bool
has k [] = false
has k (x ∷ st) = eqb x.of k || has k st

-- what a record of n body bytes at a place does to what was noted
unfoldable pub meet : Reader → List Sighting → ℕ → ℕ → ℕ → Act → Step
meet R st at k n ends = stops (ended at (at + (4 + n)) st)
meet R st at k n passes = goes st
meet R st at k n notes =
    cond (R.once k && has k st)
    (stops (stopped (record { number = 4; beside = nothing; place = at })))
    (goes (st ++ (record { of = k; start = at + 4; len = n } ∷ [])))
meet R st at k n (refuses c b) = stops (stopped (record { number = c; beside = b; place = at }))

-- the fault first, and where there is none the meaning
unfoldable pub judge : Reader → List Sighting → ℕ → List ℕ → ℕ → Step
judge R st at s zero = meet R st at (kind s) (size s) (act_in R s)
judge R st at s (suc f) = stops (stopped (record { number = suc f; beside = nothing; place = at }))

-- the record at the front of s, which begins at `at`
unfoldable pub step : Reader → List Sighting → ℕ → List ℕ → Step
step R st at s = judge R st at s (fault_in R s)

-- ---- one record after the other

-- from s on, which begins at `at`, after k more bytes of the record begun
unfoldable pub walk : Reader → List Sighting → ℕ → ℕ → List ℕ → Outcome
walk R st at k [] = stopped (record { number = 1; beside = nothing; place = at })
walk R st at (suc k) (b ∷ s) = walk R st at k s
walk R st at zero (b ∷ s) =
    elim (step R st at (b ∷ s)) [ stops o ↦ o | goes st' ↦ walk R st' (at + (4 + size (b ∷ s))) (3 + size (b ∷ s)) s ]

-- ---- after the end record of the message s: a byte at the place behind it is 18 there, where none may follow; otherwise it is not looked at

unfoldable pub behind : Reader → List ℕ → Outcome → Outcome
behind R s (stopped r) = stopped r
behind R s (ended at next st) =
    cond (R.final && ltb next (length s)) (stopped (record { number = 18; beside = nothing; place = next })) (ended at next st)

-- a whole message
unfoldable pub walked : Reader → List ℕ → Outcome
walked R s = behind R s (walk R [] 0 0 s)

-- ---- the message that it is over: 01, "Which part of the crate": as if it were cut after so many bytes

-- r refers to what a limit of n bytes leaves of the message that m refers to, and points to its front
pub record CutOf (m : Bor (List ℕ)) (n : ℕ) (r : Bor (List ℕ)) : Type 0 where
  pub holds : r.now ≡ take n m.now
  pub place : r.ref_ptr ≡ m.ref_ptr
