-- A refused request's place is not past the limit.
-- Assumes nothing.
use mathlib.Core.Path.{◌≡◌, refl, ap, ◌∙◌}
use mathlib.Core.List.{List}
use Prim.Native.Nat.{ℕ, ◌≤◌}
use native.Mathlib.Omega.{arith}
use Rattle.nts.specs.Refusal.{Refused}
use Rattle.layout.specs.declared.Profile.{Profile}
use Rattle.walk.specs.Judge as judge
use Rattle.walk.specs.Judge.{room_for}
use Rattle.walk.proofs.Within.{refused_within}
use Rattle.request.specs.Request.{reader, judging, Form, key_exchange, fixed_key, support, request, refused_with, told_by}

pub told_within : (P : Profile) (m : List ℕ) (n room : ℕ) (r : Refused) → refused_with r ≡ told_by m (request P m n room) → r.place ≤ n
unfolding request
told_within P m n room r e = go (request P m n room) refl e
  where
    go : (x : judge.Answer Form) → request P m n room ≡ x → refused_with r ≡ told_by m x → r.place ≤ n
    go (judge.refused y) h q = let z : y ≡ r = cc in refused_within (reader P) judging m (record { profile = P; limit = n; terms = room_for room }) r (h ∙ ap (λ s. judge.refused s) z)
    go (judge.accepted (key_exchange p a d)) h q = let z : ◌≡◌ {A = ℕ} 0 1 = cc in absurd (omega arith)
    go (judge.accepted (fixed_key u x a p k)) h q = let z : ◌≡◌ {A = ℕ} 0 1 = cc in absurd (omega arith)
    go (judge.accepted (support u p a k)) h q = let z : ◌≡◌ {A = ℕ} 0 1 = cc in absurd (omega arith)
