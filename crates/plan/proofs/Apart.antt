-- What is told of an answer tells any two answers apart: it can be turned back into the answer.
-- Assumes nothing.
use mathlib.Core.Path.{◌≡◌, refl, ap}
use Prim.Native.Nat.{ℕ}
use native.Mathlib.Omega.{arith}
use Rattle.nts.specs.Refusal.{number_of, beside_of}
use Rattle.nts.proofs.Apart.{apart, error_apart}
use Rattle.plan.specs.Code.{Count, none, whole, told_tally}
use Rattle.plan.specs.Plan.{told_appended}
use Rattle.plan.specs.declared.Tally.{Tally}
use Rattle.plan.specs.declared.Tally.TheVariants as tally
use Rattle.plan.specs.declared.Appended.{Appended}
use Rattle.plan.specs.declared.Appended.TheVariants as appended

tally_from : Count → Tally
tally_from none = tally.Broken
tally_from (whole n m) = tally.Whole (record { fields = n; bytes = m })

tally_back : (x : Tally) → tally_from (told_tally x) ≡ x
unfolding tally_from
tally_back tally.Broken = refl
tally_back (tally.Whole x) = refl

pub tally_apart : (x y : Tally) → told_tally x ≡ told_tally y → x ≡ y
tally_apart = apart told_tally tally_from tally_back

pub appended_apart : (x y : Appended) → told_appended x ≡ told_appended y → x ≡ y
appended_apart (appended.Plan p) (appended.Plan q) e = ap appended.Plan (cc)
appended_apart (appended.Plan p) (appended.Refused s) e = let o : ◌≡◌ {A = ℕ} 0 1 = cc in absurd (omega arith)
appended_apart (appended.Refused r) (appended.Plan q) e = let o : ◌≡◌ {A = ℕ} 0 1 = cc in absurd (omega arith)
appended_apart (appended.Refused r) (appended.Refused s) e =
    let n : number_of r ≡ number_of s = cc in
    let b : beside_of r ≡ beside_of s = cc in
    ap appended.Refused (error_apart r s n b)
