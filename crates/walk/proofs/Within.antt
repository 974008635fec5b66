-- A walk stops at a place not past the limit, and so does a reader that refuses, whether by the walk or by the decision after it.
-- Assumes nothing.
use mathlib.Core.Path.{◌≡◌, refl, ap}
use mathlib.Core.List.{List, []}
use Prim.Native.Nat.{ℕ, ◌≤◌}
use native.Mathlib.Omega.{arith}
use mathlib.Core.Bool.{Bool, true, false, cond, ◌&&◌}
use lib.ListN.{length, take, length-take}
use lib.Dec.{ltb}
use borrow.Author.Tests.{ltb-true}
use Rattle.nts.specs.Refusal.{Refused, nothing}
use Rattle.walk.specs.Walk.{Reader, Sighting, Outcome, stopped, ended, walk, behind, walked}
use Rattle.walk.specs.Judge.{Under, Judge, Verdict, no, yes, of_kind, body_in, refused, placed, finish, read_as}
use Rattle.walk.specs.Found.{place_of}
use Rattle.walk.proofs.Meets.{place_between}

-- inside its message
pub stops_inside : (R : Reader) (s : List ℕ) → place_of (walked R s) ≤ length s
unfolding walked behind
stops_inside R s = go (walk R [] 0 0 s) (place_between R [] 0 0 s (length s) (omega arith) (omega arith)).1
  where
    by : (at next : ℕ) (st : List Sighting) → at ≤ length s → (b : Bool) → ltb next (length s) ≡ b → (c : Bool)
        → place_of (cond (c && b) (stopped (record { number = 18; beside = nothing; place = next })) (ended at next st)) ≤ length s
    by at next st h true e true = let l = ltb-true next (length s) e in omega arith
    by at next st h true e false = h
    by at next st h false e true = h
    by at next st h false e false = h

    go : (o : Outcome) → place_of o ≤ length s → place_of (behind R s o) ≤ length s
    go (stopped r) h = h
    go (ended at next st) h = by at next st h (ltb next (length s)) refl R.final

pub stops_within : (R : Reader) (m : List ℕ) (n : ℕ) → place_of (walked R (take n m)) ≤ n
stops_within R m n = omega (arith, stops_inside R (take n m), length-take n m)

pub refused_within : (R : Reader) (D : Judge) (m : List ℕ) (u : Under) (r : Refused) → read_as R D m u ≡ refused r → r.place ≤ u.limit
unfolding read_as finish
refused_within R D m u r e = go (walked R (take u.limit m)) (stops_within R m u.limit) e
  where
    decided : (at : ℕ) (v : Verdict D.Q _) → at ≤ u.limit → placed at v ≡ refused r → r.place ≤ u.limit
    decided at (no n b) l q = let z : record { number = n; beside = b; place = at } ≡ r = cc in omega (arith, ap (λ (x : Refused). x.place) z)
    decided at (yes a) l q = let z : ◌≡◌ {A = ℕ} 0 1 = cc in absurd (omega arith)

    go : (o : Outcome) → place_of o ≤ u.limit → finish D u m o ≡ refused r → r.place ≤ u.limit
    go (stopped x) l q = let z : x ≡ r = cc in omega (arith, ap (λ (y : Refused). y.place) z)
    go (ended at next st) l q = decided at (D.decide u (body_in m) (λ k. of_kind k st)) l q
