-- What is decided from a finding: the reader's answer where it is the walk's own, and 9 exactly where it is not.
-- Assumes nothing.
use mathlib.Core.Path.{◌≡◌, refl, sym, ap, ◌∙◌}
use mathlib.Core.List.{List}
use mathlib.Core.Bool.{Bool, true, false, cond}
use Prim.Native.Nat.{ℕ}
use native.Mathlib.Omega.{arith}
use Rattle.nts.specs.Refusal.{nothing, Refused}
use Rattle.walk.specs.Judge as judge
use Rattle.walk.specs.Finding.{Found, found_by, same_found}
use Rattle.walk.proofs.Sameness.{found_self, found_other}
use Rattle.layout.specs.declared.Profile.TheVariants.{Usual}
use Rattle.request.specs.Request.{reader, Form, request, decided}
use Rattle.request.proofs.Numbered.{request_numbered}

-- the refusal of a finding that no walk over the message gives
abbrev pub nine : judge.Answer Form
nine = judge.refused (record { number = 9; beside = nothing; place = 0 })

module _ (f : Found) (m : List ℕ) (room : ℕ) where
  pub decided_found : f ≡ found_by (reader Usual) m f.limit → decided f m room ≡ request Usual m f.limit room
  unfolding decided
  decided_found e = rw (ap (λ (g : Found). same_found g f) (sym e) ∙ found_self f)

  pub decided_other : (f ≡ found_by (reader Usual) m f.limit → ⊥) → decided f m room ≡ nine
  unfolding decided
  decided_other n = rw (found_other (found_by (reader Usual) m f.limit) f (λ q. n (sym q)))

  -- it is one or the other, and where 9 is told it is the other
  pub decided_by : (P : judge.Answer Form → Type 0) → P (request Usual m f.limit room) → P nine → P (decided f m room)
  unfolding decided
  decided_by P p q = go (same_found (found_by (reader Usual) m f.limit) f)
    where
      go : (b : Bool) → P (cond b (request Usual m f.limit room) nine)
      go true = p
      go false = q

  pub nine_other : (r : Refused) → decided f m room ≡ judge.refused r → r.number ≡ 9 → f ≡ found_by (reader Usual) m f.limit → ⊥
  nine_other r e n q = (request_numbered (λ k. k ≡ 9 → ⊥) ((λ z. omega arith), (λ z. omega arith), (λ z. omega arith), (λ z. omega arith), (λ z. omega arith), (λ z. omega arith), (λ z. omega arith)) Usual tt m f.limit room r (sym (decided_found q) ∙ e)).one n

-- the walk's own finding
pub decided_own : (m : List ℕ) (n room : ℕ) → decided (found_by (reader Usual) m n) m room ≡ request Usual m n room
unfolding found_by
decided_own m n room = decided_found (found_by (reader Usual) m n) m room refl
