-- Which kinds a walk has met, kept as one number, and how the walk goes on from it: 02, order 1: all that a connection record keeps of the records before
-- the one that is being gathered.
use Rattle.std.specs.Prelude.{ℕ, zero, suc, ◌/◌, ◌%◌, ◌^◌, List, [], ◌∷◌, Bool, true, false, cond, eqb}
use Rattle.std.specs.Int.Bits.{bit_or}
use Rattle.record.specs.Record.{kind}
use Rattle.walk.specs.Walk.{Reader, Sighting, stopped, ended, Step, stops, goes, step}
use Rattle.walk.specs.Shown.{slot_of}
use Rattle.walk.specs.declared.Passed.{Passed}
use Rattle.walk.specs.declared.Passed.TheVariants as passed

-- ---- a bit for each kind up to 14, and that of 11 for all unknown ones

unfoldable pub is_met : ℕ → ℕ → Bool
is_met met k = eqb (met / 2 ^ k % 2) 1

unfoldable pub with_met : ℕ → ℕ → ℕ
with_met met k = bit_or met (2 ^ k)

-- the kinds below k that were met, as a walk notes records: it asks of them their kind alone
unfoldable pub met_below : ℕ → ℕ → List Sighting
met_below met zero = []
met_below met (suc k) = cond (is_met met k) (record { of = k; start = 0; len = 0 } ∷ met_below met k) (met_below met k)

-- ---- the record at the front of s, by the walk's own step

-- the walk stops with it, or goes on with its kind met as well
pub data Passing : Type 0 where
  halts : Passing
  on : ℕ → Passing

unfoldable pub passing : Reader → ℕ → List ℕ → Passing
passing R met s = elim (step R (met_below met 15) 0 s) [ stops o ↦ halts | goes st ↦ on (with_met met (slot_of R.shape (kind s))) ]

-- .. and whether it ends the message: with no fault, and by its meaning
abbrev pub is_ended : Step → Bool
is_ended (stops (stopped r)) = false
is_ended (stops (ended at next st)) = true
is_ended (goes st) = false

unfoldable pub ends : Reader → List ℕ → Bool
ends R s = is_ended (step R [] 0 s)

-- what each case of the answer says
abbrev pub told_passed : Passed → Passing
told_passed passed.Stopped = halts
told_passed (passed.On met) = on met
