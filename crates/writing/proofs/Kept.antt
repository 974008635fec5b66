-- An append that is refused changes neither the cell of the used length nor the tray.
-- Assumes nothing.
use mathlib.Core.Path.{◌≡◌, refl, ap, ◌∙◌}
use mathlib.Core.List.{List}
use Prim.Native.Nat.{ℕ}
use Rattle.layout.specs.Write.{Count, bytes, refused}
use Rattle.plan.specs.Tray.{deny, grown_tray}
use Rattle.cells.specs.Cells.{returned, cell, counted}
use Rattle.cells.proofs.Lent.{gives_kept}
use Rattle.writing.specs.Given.{DeniesTo}

pub denies_kept : {lent name tray after tray' : List ℕ} {r : ℕ} → DeniesTo lent name tray r after tray' → (r ≡ 0 → ⊥) → (after ≡ lent) × (tray' ≡ tray)
denies_kept {lent} {name} {tray} {after} {tray'} {r} p h = (gives_kept p.gives h, p.left ∙ go (deny (cell lent 0) name tray) refl)
  where
    go : (x : Count) → deny (cell lent 0) name tray ≡ x → grown_tray x 2 (cell lent 0) name tray ≡ tray
    go (refused k b) e = refl
    go (bytes n) e = absurd (h (p.gives.says ∙ ap (λ (x : Count). returned (counted x)) e))
