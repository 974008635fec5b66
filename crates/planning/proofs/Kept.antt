-- An append that is refused changes neither the plan's cells nor the tray.
-- Assumes nothing.
use mathlib.Core.Path.{◌≡◌, refl, ap, ◌∙◌}
use mathlib.Core.List.{List}
use Prim.Native.Nat.{ℕ}
use Rattle.plan.specs.Plan as plan
use Rattle.cells.specs.Cells.{returned}
use Rattle.cells.proofs.Lent.{gives_kept}
use Rattle.planning.specs.Planned.{plan_in, appended, used_in, grown_given, AppendsTo}

pub appends_kept : {lent cookie tray after tray' : List ℕ} {r : ℕ} → AppendsTo lent cookie tray r after tray' → (r ≡ 0 → ⊥) → (after ≡ lent) × (tray' ≡ tray)
appends_kept {lent} {cookie} {tray} {after} {tray'} {r} p h = (gives_kept p.gives h, p.left ∙ go (appended (plan_in lent) cookie tray) refl)
  where
    go : (x : plan.Told) → appended (plan_in lent) cookie tray ≡ x → plan.tray_after x (used_in (plan_in lent)) cookie tray ≡ tray
    go (plan.refused_with k b) e = refl
    go (plan.grown y) e = absurd (h (p.gives.says ∙ ap (λ (x : plan.Told). returned (grown_given x)) e))
