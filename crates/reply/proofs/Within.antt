-- A refused reply's place is not past the limit.
-- Assumes nothing.
use mathlib.Core.Path.{◌≡◌, refl, ap, ◌∙◌}
use mathlib.Core.List.{List}
use Prim.Native.Nat.{ℕ, ◌≤◌}
use native.Mathlib.Omega.{arith}
use Rattle.nts.specs.Refusal.{Refused}
use Rattle.layout.specs.declared.Profile.{Profile}
use Rattle.walk.specs.Judge as judge
use Rattle.walk.specs.Judge.{Terms}
use Rattle.walk.proofs.Within.{refused_within}
use Rattle.reply.specs.Reply.{reader, judging, Form, reply, reply_of, refused_with, told_by}

pub told_within : (P : Profile) (m : List ℕ) (n : ℕ) (x : Terms) (r : Refused) → refused_with r ≡ told_by m (reply_of P m n x) → r.place ≤ n
unfolding reply_of
told_within P m n x r e = go (reply_of P m n x) refl e
  where
    go : (v : judge.Answer Form) → reply_of P m n x ≡ v → refused_with r ≡ told_by m v → r.place ≤ n
    go (judge.refused y) h q = let z : y ≡ r = cc in refused_within (reader P) judging m (record { profile = P; limit = n; terms = x }) r (h ∙ ap (λ s. judge.refused s) z)
    go (judge.accepted (reply p a s t k c)) h q = let z : ◌≡◌ {A = ℕ} 0 1 = cc in absurd (omega arith)
