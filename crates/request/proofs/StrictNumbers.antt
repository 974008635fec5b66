-- In the strict profile a request is refused with 1 to 4 and 18, and no other number: kinds from 8 on are unknown there, so that no supported list, no keys and no denied name
-- are noted, and after the end nothing is asked but that both lists are there.
-- Assumes nothing.
use mathlib.Core.Path.{◌≡◌, refl}
use mathlib.Core.List.{List, [], ◌∷◌}
use Prim.Native.Nat.{ℕ, ◌≤◌, zero-le}
use native.Mathlib.Omega.{arith}
use borrow.Author.Tests.{le-ltb}
use lib.ListN.{take}
use Rattle.nts.specs.Refusal.{Refused}
use Rattle.layout.specs.declared.Profile.TheVariants.{Strict}
use Rattle.layout.proofs.Profiles.{strict_far}
use Rattle.walk.specs.Walk.{Sighting, Outcome, stopped, ended, walked}
use Rattle.walk.specs.Judge.{Under, room_for, of_kind, refused, placed, finish, read_as}
use Rattle.walk.proofs.Behind.{walked_ended}
use Rattle.walk.proofs.Unnoted.{walk_unnoted}
use Rattle.request.specs.Request.{reader, exchange_by, decide, judging, request}
use Rattle.request.proofs.Answering.{never_notes}
use Rattle.request.proofs.Numbered.{stop_numbered}

-- P says of a number that it may be told: what holds of these five holds of the number of every refusal
module _ (P : ℕ → Type 0) (p : P 1 × P 2 × P 3 × P 4) (barred : P 18) (m : List ℕ) (n room : ℕ) (r : Refused) where
  -- with no name denied: one of the two lists is missing
  by_lists : (at : ℕ) (l : ℕ → List Sighting) → l 13 ≡ [] → (x y : List Sighting) → l 1 ≡ x → l 4 ≡ y → placed at (exchange_by room l) ≡ refused r → P r.number
  by_lists at l none [] y e f q = let z : 4 ≡ r.number = cc (rw e at q) in rw (← z) p.3
  by_lists at l none (a ∷ x) [] e f q = let z : 4 ≡ r.number = cc (rw (e, f) at q) in rw (← z) p.3
  by_lists at l none (a ∷ x) (b ∷ y) e f q = let z : ◌≡◌ {A = ℕ} 0 1 = cc (rw (e, f, none, le-ltb room 0 zero-le) at q) in absurd (omega arith)

  pub strict_numbered : request Strict m n room ≡ refused r → P r.number
  unfolding request read_as finish decide
  strict_numbered e = go (walked (reader Strict) (take n m)) refl e
    where
      u : Under
      u = record { profile = Strict; limit = n; terms = room_for room }

      go : (o : Outcome) → walked (reader Strict) (take n m) ≡ o → finish judging u m o ≡ refused r → P r.number
      go (stopped x) w q = let z : x ≡ r = cc in rw (← z) (stop_numbered P p Strict barred (take n m) x w).one
      go (ended at next st) w q =
          let none : (k : ℕ) → 8 ≤ k → of_kind k st ≡ [] = λ k h.
          walk_unnoted (reader Strict) k (never_notes Strict k (strict_far k h)) [] 0 0 (take n m) at next st (walked_ended (reader Strict) (take n m) at next st w) in
          by_lists at (λ k. of_kind k st) (none 13 (omega arith)) (of_kind 1 st) (of_kind 4 st) refl refl (rw (none 9 (omega arith), none 10 (omega arith), none 12 (omega arith)) at q)
