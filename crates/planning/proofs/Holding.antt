-- The plan that a host's cells hold: the tests of its cells, and what a call on it answers and leaves.
-- Assumes nothing.
use mathlib.Core.Path.{◌≡◌, subst}
use mathlib.Core.Bool.{Bool, true, ◌&&◌}
use mathlib.Core.List.{List}
use Prim.Native.Nat.{ℕ, ◌≤◌}
use borrow.Author.Tests.{leb-true}
use lib.Dec.{leb}
use lib.ListN.{length}
use Rattle.utf8.proofs.Tests.{and_left, and_right}
use Rattle.plan.specs.Plan.{tray_after}
use Rattle.cells.specs.Cells.{Gives, Writes, cell}
use Rattle.cells.proofs.Lent.{given}
use Rattle.planning.specs.Planned.{Held, is_plan, plan_in, grown_given, appended, used_in, AppendsTo, planned_reply, planned_bytes}

-- what the tests say where they all hold
pub record Sound (c : List ℕ) : Type 0 where
  pub protocol : cell c 0 ≤ 65535
  pub algorithm : cell c 1 ≤ 65535
  pub port : cell c 3 ≤ 65535
  pub name : cell c 5 ≤ 65535

pub plan_sound : (c : List ℕ) → is_plan c ≡ true → Sound c
unfolding is_plan
plan_sound c e =
    of (leb (cell c 0) 65535) (leb (cell c 1) 65535) (leb (cell c 2) 1) (leb (cell c 3) 65535) (leb (cell c 4) 1) (leb (cell c 5) 65535) (leb (cell c 6) 1)
    (leb-true (cell c 0) 65535) (leb-true (cell c 1) 65535) (leb-true (cell c 3) 65535) (leb-true (cell c 5) 65535) e
  where
    of : (t0 t1 t2 t3 t4 t5 t6 : Bool) → (t0 ≡ true → cell c 0 ≤ 65535) → (t1 ≡ true → cell c 1 ≤ 65535) → (t3 ≡ true → cell c 3 ≤ 65535) → (t5 ≡ true → cell c 5 ≤ 65535)
        → (t0 && t1 && t2 && t3 && t4 && t5 && t6) ≡ true → Sound c
    of t0 t1 t2 t3 t4 t5 t6 p a n m i =
        let i5 = and_left (t0 && t1 && t2 && t3 && t4 && t5) t6 i in
        let i3 = and_left (t0 && t1 && t2 && t3) t4 (and_left (t0 && t1 && t2 && t3 && t4) t5 i5) in
        let i1 = and_left (t0 && t1) t2 (and_left (t0 && t1 && t2) t3 i3) in
        record {
          protocol = p (and_left t0 t1 i1);
          algorithm = a (and_right t0 t1 i1);
          port = n (and_right (t0 && t1 && t2) t3 i3);
          name = m (and_right (t0 && t1 && t2 && t3 && t4) t5 i5);
        }

-- a cookie appended to the plan that cells hold
pub appends : {h : Held} {c cookie tray after tray' : List ℕ} {r : ℕ} → h ≡ plan_in c → Gives (grown_given (appended h cookie tray)) c r after
    → tray' ≡ tray_after (appended h cookie tray) (used_in h) cookie tray → AppendsTo c cookie tray r after tray'
appends {cookie = cookie} {tray = tray} e p q = record { gives = given (λ x. grown_given (appended x cookie tray)) e p; left = rw (← e) q }

-- what was written for it
pub writes : {h k : Held} (tray server : List ℕ) {o lent o' after : List ℕ} {r : ℕ} → h ≡ k
    → Writes (planned_reply h tray server (length o)) (planned_bytes h tray server) o lent r o' after
    → Writes (planned_reply k tray server (length o)) (planned_bytes k tray server) o lent r o' after
writes tray server {o} {lent} {o'} {after} {r} e p =
    subst (λ x. Writes (planned_reply x tray server (length o)) (planned_bytes x tray server) o lent r o' after) e p
