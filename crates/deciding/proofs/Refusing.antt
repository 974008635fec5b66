-- What a request's finding can hold, and what is refused: a walk stops with 1 to 4 at a place not past the limit, so cells with another reason are 9, and no
-- refusal has a place past the limit.
-- Assumes nothing.
use mathlib.Core.Path.{◌≡◌, refl, ap, ◌∙◌}
use mathlib.Core.List.{List}
use mathlib.Core.Bool.{Bool, true, false, cond}
use Prim.Native.Nat.{ℕ, zero, suc, ◌<◌, ◌≤◌}
use native.Mathlib.Omega.{arith}
use lib.ListN.{take}
use Rattle.nts.specs.Refusal.{nothing, Refused}
use Rattle.layout.specs.declared.Profile.TheVariants.{Usual}
use Rattle.walk.specs.Walk.{Outcome, stopped, ended, walked}
use Rattle.walk.specs.Judge as judge
use Rattle.walk.specs.Found.{way_of, place_of}
use Rattle.walk.specs.Finding.{Found, found_by, same_found, told_finding}
use Rattle.walk.specs.declared.Finding.{Finding}
use Rattle.walk.proofs.Sameness.{found_other}
use Rattle.walk.proofs.Within.{stops_within}
use Rattle.request.specs.Request.{reader, request, refused_with, told_by, decided}
use Rattle.request.proofs.Numbered.{stop_numbered}
use Rattle.request.proofs.Within.{told_within}
use Rattle.cells.specs.Cells.{cell, unplaced}
use Rattle.deciding.specs.Given.{place_cell, reason_cell, way_in, found_in}
use Rattle.deciding.proofs.Copying.{place_by}

-- ---- a request's finding

module _ (m : List ℕ) (n : ℕ) where
  -- its reason
  pub reason_few : reason_cell (found_by (reader Usual) m n).way ≤ 4
  unfolding found_by
  reason_few = go (walked (reader Usual) (take n m)) refl
    where
      go : (o : Outcome) → walked (reader Usual) (take n m) ≡ o → reason_cell (way_of o) ≤ 4
      go (stopped r) e = (stop_numbered (λ k. k ≤ 4) (omega arith, omega arith, omega arith, omega arith) Usual tt (take n m) r e).one
      go (ended at next st) e = omega arith

  -- its place ..
  pub place_within : place_cell (found_by (reader Usual) m n).way ≤ n
  unfolding found_by
  place_within = go (walked (reader Usual) (take n m)) (stops_within (reader Usual) m n)
    where
      go : (o : Outcome) → place_of o ≤ n → place_cell (way_of o) ≤ n
      go (stopped r) h = h
      go (ended at next st) h = h

  -- .. as a finding in code tells it
  pub finding_within : (f : Finding) → told_finding f ≡ found_by (reader Usual) m n → f.place ≤ n
  finding_within f e =
      let p = ap (λ (x : Found). place_cell x.way) e in
      omega (arith, place_by f.place f.stop, p, place_within)

-- ---- the decision

pub reason_in : (place n : ℕ) → reason_cell (way_in place n) ≡ n
reason_in place zero = refl
reason_in place (suc n) = refl

-- a reason above 4 is no walk's
pub decided_none : (c m : List ℕ) (room : ℕ) → 4 < cell c 2 → decided (found_in c) m room ≡ judge.refused (unplaced 9 nothing)
unfolding decided
decided_none c m room h = rw (found_other (found_by (reader Usual) m (cell c 0)) (found_in c) other)
  where
    other : found_by (reader Usual) m (cell c 0) ≡ found_in c → ⊥
    other e =
        let p : reason_cell (found_by (reader Usual) m (cell c 0)).way ≡ cell c 2 = ap (λ (x : Found). reason_cell x.way) e ∙ reason_in (cell c 1) (cell c 2) in
        omega (arith, p, reason_few m (cell c 0))

-- the place of a refusal
pub decided_within : (f : Found) (m : List ℕ) (room : ℕ) (r : Refused) → refused_with r ≡ told_by m (decided f m room) → r.place ≤ f.limit
unfolding decided
decided_within f m room r e = go (same_found (found_by (reader Usual) m f.limit) f) e
  where
    go : (b : Bool) → refused_with r ≡ told_by m (cond b (request Usual m f.limit room) (judge.refused (unplaced 9 nothing))) → r.place ≤ f.limit
    go true q = told_within Usual m f.limit room r q
    go false q = let z : r ≡ unplaced 9 nothing = cc in omega (arith, ap (λ (x : Refused). x.place) z)
