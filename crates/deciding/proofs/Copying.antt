-- A finding's cells and what was found, cell by cell: the two loops that copy one into the other.
-- Assumes nothing.
use mathlib.Core.Path.{◌≡◌, refl, sym, ap, ◌∙◌}
use mathlib.Core.List.{List, [], ◌∷◌}
use mathlib.Core.Bool.{Bool, true, false}
use Prim.Native.Nat.{ℕ, zero, suc, ◌+◌, ◌<◌, ◌≤◌}
use native.Mathlib.Omega.{arith}
use lib.ListN.{length, set, length-set}
use lib.Seq.{get_or-set_same, get_or-set_other}
use lib.Dec.{eqb}
use borrow.Author.Tests.{eqb-true, eqb-false}
use Rattle.cells.specs.Cells.{cell}
use Rattle.walk.specs.Found.{way_by}
use Rattle.walk.specs.declared.Stop.{Stop}
use Rattle.walk.specs.declared.Stop.TheVariants as stop
use Rattle.deciding.specs.Given.{place_cell, cells_at}

-- ---- cells from one on

-- a list of n is those of another one that are the same, cell by cell
pub cells_at_lem : (l c : List ℕ) (k n : ℕ) → length l ≡ n → ((j : ℕ) → j < n → cell l j ≡ cell c (k + j)) → l ≡ cells_at c k n
unfolding cells_at
cells_at_lem [] c k zero e h = refl
cells_at_lem [] c k (suc n) e h = absurd (omega arith)
cells_at_lem (x ∷ l) c k zero e h = absurd (omega arith)
cells_at_lem (x ∷ l) c k (suc n) e h =
    let first : x ≡ cell c k = h 0 (omega arith) ∙ ap (cell c) (omega arith) in
    let rest : l ≡ cells_at c (suc k) n = cells_at_lem l c (suc k) n (omega arith) (λ j i. h (suc j) (omega arith) ∙ ap (cell c) (omega arith)) in
    cc

-- ---- a loop has copied i of forty-five

pub record Copying (l c : List ℕ) (i : ℕ) : Type 0 where
  pub near : i ≤ 45
  pub long : length l ≡ 45
  pub same : (j : ℕ) → j < i → cell l j ≡ cell c (j + 3)

pub copying_start : (l c : List ℕ) → length l ≡ 45 → Copying l c 0
copying_start l c e = record { near = omega arith; long = e; same = λ j h. absurd (omega arith) }

module _ {l c : List ℕ} {i : ℕ} (g : Copying l c i) where
  -- into the finding's cells
  pub copying_out : i + 3 < length c → i < 45 → Copying l (set c (i + 3) (cell l i)) (i + 1)
  copying_out d h = record {
    near = omega arith;
    long = g.long;
    same = λ j k. go j k (eqb j i) refl;
  }
    where
      go : (j : ℕ) → j < i + 1 → (t : Bool) → eqb j i ≡ t → cell l j ≡ cell (set c (i + 3) (cell l i)) (j + 3)
      go j k true e = let z : j ≡ i = eqb-true j i e in rw z (sym (get_or-set_same c (i + 3) (cell l i) 0 d))
      go j k false e =
          let z : j ≡ i → ⊥ = eqb-false j i e in
          let less : j < i = omega (arith, z) in
          g.same j less ∙ sym (get_or-set_other c (i + 3) (j + 3) (cell l i) 0 (λ q. omega arith))

  -- out of them
  pub copying_in : i < 45 → Copying (set l i (cell c (i + 3))) c (i + 1)
  copying_in h = record {
    near = omega arith;
    long = length-set l i (cell c (i + 3)) ∙ g.long;
    same = λ j k. go j k (eqb j i) refl;
  }
    where
      go : (j : ℕ) → j < i + 1 → (t : Bool) → eqb j i ≡ t → cell (set l i (cell c (i + 3))) j ≡ cell c (j + 3)
      go j k true e = let z : j ≡ i = eqb-true j i e in rw z (get_or-set_same l i (cell c (i + 3)) 0 (omega (arith, g.long)))
      go j k false e =
          let z : j ≡ i → ⊥ = eqb-false j i e in
          let less : j < i = omega (arith, z) in
          get_or-set_other l i j (cell c (i + 3)) 0 z ∙ g.same j less

  pub copying_end : 45 ≤ i → l ≡ cells_at c 3 45
  copying_end h = cells_at_lem l c 3 45 g.long (λ j k. g.same j (omega (arith, g.near)) ∙ ap (cell c) (omega arith))

-- ---- and the first three stay as they were: a is what stood there

pub record Putting (l a c : List ℕ) (i : ℕ) : Type 0 where
  pub copied : Copying l c i
  pub all : length c ≡ 48
  pub kept : (j : ℕ) → j < 3 → cell c j ≡ cell a j

pub putting_start : (l a : List ℕ) → length l ≡ 45 → length a ≡ 48 → Putting l a a 0
putting_start l a e f = record { copied = copying_start l a e; all = f; kept = λ j h. refl }

module _ {l a c : List ℕ} {i : ℕ} (g : Putting l a c i) where
  pub putting_on : i < 45 → Putting l a (set c (i + 3) (cell l i)) (i + 1)
  putting_on h = record {
    copied = copying_out g.copied (omega (arith, g.all)) h;
    all = length-set c (i + 3) (cell l i) ∙ g.all;
    kept = λ j k. get_or-set_other c (i + 3) j (cell l i) 0 (λ q. omega arith) ∙ g.kept j k;
  }

  pub putting_end : 45 ≤ i → c ≡ cell a 0 ∷ cell a 1 ∷ cell a 2 ∷ l
  unfolding cells_at
  putting_end h =
      let whole : c ≡ cell c 0 ∷ cell c 1 ∷ cell c 2 ∷ cells_at c 3 45 = cells_at_lem c c 0 48 g.all (λ j k. ap (cell c) (omega arith)) in
      let p = g.kept 0 (omega arith) in
      let q = g.kept 1 (omega arith) in
      let r = g.kept 2 (omega arith) in
      let s = copying_end g.copied h in
      whole ∙ rw (p, q, r, ← s)

-- ---- the place of a stop

pub place_by : (place : ℕ) (s : Stop) → place_cell (way_by place s) ≡ place
place_by place stop.End = refl
place_by place (stop.Refused e) = refl
