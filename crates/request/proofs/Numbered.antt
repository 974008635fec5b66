-- A request's walk stops with 1 to 4, and a request is refused with 1 to 7, in the strict profile with 18 too, and no other number; 5 alone has a number beside it, of sixteen bits, where the message is bytes.
-- Assumes nothing.
use mathlib.Core.Path.{◌≡◌, refl}
use mathlib.Core.List.{List}
use mathlib.Core.Bool.{◌&&◌, ◌||◌}
use Prim.Native.Nat.{ℕ, ◌/◌}
use lib.ListN.{length}
use lib.Dec.{ltb, eqb}
use Rattle.wire.specs.Bytes.{number_at}
use Rattle.wire.proofs.Bytes.{small_part, number_small}
use Rattle.nts.specs.Refusal.{nothing, Refused}
use Rattle.nts.specs.Algorithm.{Described, known, unknown, describe}
use Rattle.layout.specs.declared.Profile.{Profile}
use Rattle.walk.specs.Walk.{passes, notes, Sighting, stopped, walked}
use Rattle.walk.specs.Judge.{room_for, some, body_in, refused}
use Rattle.walk.proofs.Numbered.{Numbered, bare, ActBy, VerdictBy, Barred, act_if, act_by_lem, final_by, verdict_if, verdict_first, stopped_numbered, refused_numbered}
use Rattle.request.specs.Request.{act, reader, Form, keyed, fixed_by, decide, judging, request}

-- ---- the walk

act_numbered : (P : ℕ → Type 0) → P 4 → (k : ℕ) (b : List ℕ) → ActBy P b (act k b)
unfolding act
act_numbered P p k b = act_if P b (eqb k 2 || eqb k 3 || eqb k 5) _ _ (bare P b 4 refl p) (act_if P b (eqb k 6 || eqb k 7) passes notes tt tt)

-- P says of a number that it may be told: what holds of these four holds of the number that stops a walk
pub stop_numbered : (P : ℕ → Type 0) → P 1 × P 2 × P 3 × P 4 → (X : Profile) → Barred P X → (s : List ℕ) (r : Refused) → walked (reader X) s ≡ stopped r → Numbered P s r.number r.beside
stop_numbered P p X x s r e = stopped_numbered P (p.0, p.1, p.3) (reader X) (act_by_lem P p.2 X x act (act_numbered P p.3)) (final_by P X x) s r e

-- ---- the whole reader

-- what holds of these seven, and of 18 where the profile has it, holds of the number of every refusal
module _ (P : ℕ → Type 0) (p : P 1 × P 2 × P 3 × P 4 × P 5 × P 6 × P 7) where
  module _ (m : List ℕ) where
    four : Numbered P m 4 nothing
    four = bare P m 4 refl p.3

    keyed_numbered : (x : Sighting) (d : Described) (half : ℕ) (f : Form Sighting) → VerdictBy P m (keyed d (number_at (body_in m x) 0) half f)
    unfolding keyed
    keyed_numbered x unknown half f = record { one = p.4; fits = refl; beside = λ h. number_small (body_in m x) (small_part m x.len x.start h) }
    keyed_numbered x (known n size) half f = verdict_if P m (eqb half size) _ _ tt (bare P m 6 refl p.5)

    decide_numbered : (room : ℕ) (l : ℕ → List Sighting) → VerdictBy P m (decide room (body_in m) l)
    unfolding decide fixed_by
    decide_numbered room l =
        verdict_if P m (some (l 9) || some (l 10)) _ _
        (verdict_first P m (l 14) _ _ four (λ u. verdict_if P m (some (l 12) || some (l 1) || some (l 4)) _ _ four tt))
        (verdict_first P m (l 12) _ _
        (verdict_first P m (l 1) _ _ four (λ q. verdict_first P m (l 4) _ _ four (λ a. verdict_if P m (ltb room (length (l 13))) _ _ (bare P m 7 refl p.6) tt)))
        (λ x. verdict_first P m (l 14) _ _ four
        (λ u. verdict_first P m (l 1) _ _ four
        (λ q. verdict_first P m (l 4) _ _ four
        (λ a. verdict_if P m (eqb (length (body_in m q)) 2 && eqb (length (body_in m a)) 2) _ _ (keyed_numbered a (describe (number_at (body_in m a) 0)) (length (body_in m x) / 2) _) four)))))

  pub request_numbered : (X : Profile) → Barred P X → (m : List ℕ) (n room : ℕ) (r : Refused) → request X m n room ≡ refused r → Numbered P m r.number r.beside
  unfolding request
  request_numbered X x m n room r e =
      refused_numbered P (p.0, p.1, p.3) (reader X) (act_by_lem P p.2 X x act (act_numbered P p.3)) (final_by P X x) judging m (record { profile = X; limit = n; terms = room_for room }) (λ l. decide_numbered m room l) r e
