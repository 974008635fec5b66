-- What is seen of a record: where it lies, and the verdict on it.
-- Assumes nothing.
use mathlib.Core.Path.{◌≡◌}
use mathlib.Core.List.{List, []}
use mathlib.Core.Bool.{Bool, true, false}
use Prim.Native.Nat.{ℕ, ◌+◌, ◌<◌, ◌≤◌}
use lib.ListN.{length}
use Rattle.wire.specs.Bytes.{number_at}
use Rattle.nts.specs.declared.NtsError.{NtsError}
use Rattle.layout.specs.Profile.{shape_in}
use Rattle.layout.specs.declared.Profile.{Profile}
use Rattle.record.proofs.Read.{look_inside}
use Rattle.walk.specs.Code.{error_of, asked, meant_of, verdict_of, Sees}
use Rattle.walk.specs.declared.Verdict.{Verdict}
use Rattle.walk.specs.declared.Verdict.TheVariants.{Stop}
use Rattle.walk.proofs.Looking.{slot_below}

module _ (P : Profile) (s : List ℕ) (at j n : ℕ) (bit : Bool) where
  pub sees_within : (ok : Bool) → Sees P s at j bit n ok → j < 15
  sees_within ok x = slot_below (record { profile = P; entries = [] }) j x.kind x.stands

  pub sees_inside : (ok : Bool) → Sees P s at j bit n ok → at + 4 + n ≤ length s
  sees_inside ok x = look_inside (shape_in P) s at x.kind bit n x.looks

  -- by an entry of the table, after so many records of its kind
  pub says_meant : (r before : ℕ) (v : Verdict) → Sees P s at j bit n true → v ≡ meant_of r j bit (error_of j (number_at s (at + 4))) before n → v ≡ verdict_of r (asked P s j bit (at + 4) n) before n
  unfolding verdict_of
  says_meant r before v x e = rw x.allowed e

  pub says_not_allowed : (r before : ℕ) → Sees P s at j bit n false → Stop NtsError.NotAllowed ≡ verdict_of r (asked P s j bit (at + 4) n) before n
  unfolding verdict_of
  says_not_allowed r before x = rw x.allowed
