-- The cells of a request's finding tell that finding; and which cells tell one finding.
-- Assumes nothing.
use mathlib.Core.Path.{◌≡◌, refl, sym, ap, ◌∙◌}
use mathlib.Core.List.{List, [], ◌∷◌, map}
use mathlib.Core.Bool.{true, true≢false}
use Prim.Native.Nat.{ℕ, zero, suc, ◌+◌, ◌<◌, ◌≤◌}
use native.Mathlib.Omega.{arith}
use lib.ListN.{length, take}
use Rattle.nts.specs.Refusal.{Beside, nothing, code, protocol, algorithm, Refused}
use Rattle.layout.specs.Profile.{shape_in}
use Rattle.layout.specs.declared.Profile.TheVariants.{Usual}
use Rattle.walk.specs.Walk.{Outcome, stopped, ended, walked}
use Rattle.walk.specs.Shown.{shown, counted}
use Rattle.walk.specs.Found.{way_refused, way_of}
use Rattle.walk.specs.Finding.{Found, found_by}
use Rattle.walk.proofs.Numbered.{bare_number, bare_not, Fits}
use Rattle.walk.proofs.Telling.{told_stands}
use Rattle.request.specs.Request.{reader}
use Rattle.request.proofs.Numbered.{stop_numbered}
use Rattle.cells.specs.Cells.{cell}
use Rattle.deciding.specs.Given.{place_cell, reason_cell, finding_cells, cells_at, way_in, found_in}
use Rattle.deciding.proofs.Copying.{cells_at_lem}
use Rattle.deciding.proofs.Refusing.{reason_in}

-- ---- from a finding to its cells and back

behind_three : (x y z : ℕ) (l : List ℕ) → length l ≡ 45 → cells_at (x ∷ y ∷ z ∷ l) 3 45 ≡ l
behind_three x y z l e = sym (cells_at_lem l (x ∷ y ∷ z ∷ l) 3 45 e (λ j h. let p : suc (suc (suc j)) ≡ 3 + j = omega arith in ap (cell (x ∷ y ∷ z ∷ l)) p))

-- a refusal that bears no number beside its own
way_back : (r : Refused) → 1 ≤ r.number → r.beside ≡ nothing → way_in r.place r.number ≡ way_refused r
way_back r h b = go r.number refl
  where
    go : (n : ℕ) → r.number ≡ n → way_in r.place n ≡ way_refused r
    go zero e = absurd (omega arith)
    go (suc n) e = ap way_refused (sym (λ i. record { number = e i; beside = b i; place = r.place }))

bare : (n : ℕ) (b : Beside) → bare_number n ≡ true → Fits n b → b ≡ nothing
bare n nothing c f = refl
bare n (code x) c f = absurd (true≢false (sym f ∙ (bare_not n c).0))
bare n (protocol x) c f = absurd (true≢false (sym f ∙ (bare_not n c).1))
bare n (algorithm x) c f = absurd (true≢false (sym f ∙ (bare_not n c).1))

module _ (m : List ℕ) (n : ℕ) where
  way_told : (o : Outcome) → walked (reader Usual) (take n m) ≡ o → way_in (place_cell (way_of o)) (reason_cell (way_of o)) ≡ way_of o
  way_told (stopped r) e =
      let k = stop_numbered (λ n. (1 ≤ n) × (bare_number n ≡ true)) ((omega arith, refl), (omega arith, refl), (omega arith, refl), (omega arith, refl)) Usual tt (take n m) r e in
      way_back r k.one.0 (bare r.number r.beside k.one.1 k.fits)
  way_told (ended at next st) e = refl

  pub found_back : found_in (finding_cells (found_by (reader Usual) m n)) ≡ found_by (reader Usual) m n
  unfolding found_by
  found_back =
      let c = behind_three n _ _ _ (told_stands (map (counted (shape_in Usual)) (shown (reader Usual) [] 0 0 (take n m)))).all in
      let w = way_told (walked (reader Usual) (take n m)) refl in
      λ i. record { limit = n; cells = c i; way = w i }

-- ---- cells that tell one finding are the same, one by one

place_in : (place n : ℕ) → place_cell (way_in place n) ≡ place
place_in place zero = refl
place_in place (suc n) = refl

at_cell : (c : List ℕ) (k n j : ℕ) → j < n → cell (cells_at c k n) j ≡ cell c (k + j)
unfolding cells_at
at_cell c k zero j h = absurd (omega arith)
at_cell c k (suc n) zero h = ap (cell c) (omega arith)
at_cell c k (suc n) (suc j) h = at_cell c (suc k) n j (omega arith) ∙ ap (cell c) (omega arith)

pub cells_alike : (c d : List ℕ) → found_in c ≡ found_in d → (j : ℕ) → j < 48 → cell c j ≡ cell d j
cells_alike c d e zero h = ap (λ (f : Found). f.limit) e
cells_alike c d e (suc zero) h = sym (place_in (cell c 1) (cell c 2)) ∙ ap (λ (f : Found). place_cell f.way) e ∙ place_in (cell d 1) (cell d 2)
cells_alike c d e (suc (suc zero)) h = sym (reason_in (cell c 1) (cell c 2)) ∙ ap (λ (f : Found). reason_cell f.way) e ∙ reason_in (cell d 1) (cell d 2)
cells_alike c d e (suc (suc (suc j))) h =
    let p : suc (suc (suc j)) ≡ 3 + j = omega arith in
    ap (cell c) p ∙ sym (at_cell c 3 45 j (omega arith)) ∙ ap (λ (f : Found). cell f.cells j) e ∙ at_cell d 3 45 j (omega arith) ∙ ap (cell d) (sym p)

-- .. and back
rows_alike : (c d : List ℕ) (k n : ℕ) → ((j : ℕ) → j < n → cell c (k + j) ≡ cell d (k + j)) → cells_at c k n ≡ cells_at d k n
unfolding cells_at
rows_alike c d k zero h = refl
rows_alike c d k (suc n) h =
    let first : cell c k ≡ cell d k = ap (cell c) (omega arith) ∙ h 0 (omega arith) ∙ ap (cell d) (omega arith) in
    let rest = rows_alike c d (suc k) n (λ j i. ap (cell c) (omega arith) ∙ h (suc j) (omega arith) ∙ ap (cell d) (omega arith)) in
    λ i. first i ∷ rest i

pub alike_told : (c d : List ℕ) → ((j : ℕ) → j < 48 → cell c j ≡ cell d j) → found_in c ≡ found_in d
alike_told c d h =
    let l = h 0 (omega arith) in
    let p = h 1 (omega arith) in
    let r = h 2 (omega arith) in
    let x = rows_alike c d 3 45 (λ j k. h (3 + j) (omega arith)) in
    λ i. record { limit = l i; cells = x i; way = way_in (p i) (r i) }
