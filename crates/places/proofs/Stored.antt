-- The table after a whole read: an accepted answer stores no record, or all that were noted of one kind, for which there is room; then what `fill` leaves of the bytes before the
-- place at which the walk stopped is what the answer stores. For every reader and judge.
-- Assumes nothing.
use mathlib.Core.Path.{◌≡◌, refl, sym, ap, ◌∙◌}
use mathlib.Core.List.{List, [], ◌∷◌}
use mathlib.Core.Bool.{Bool, false}
use Prim.Native.Nat.{ℕ, ◌-◌, ◌<◌, ◌≤◌}
use native.Mathlib.Omega.{arith}
use lib.ListN.{length, take, drop, length-take}
use Rattle.wire.specs.Over.{over}
use Rattle.wire.proofs.Over.{over_none}
use Rattle.nts.specs.Refusal.{Refused}
use Rattle.walk.specs.Walk.{notes, Reader, Sighting, Outcome, stopped, ended, walked}
use Rattle.walk.specs.Judge.{Verdict, no, yes, Terms, Under, Judge, of_kind, body_in, Answer, refused, accepted, placed, finish, read_as}
use Rattle.walk.specs.Found.{place_of}
use Rattle.layout.specs.declared.Profile.{Profile}
use Rattle.walk.proofs.Within.{stops_inside}
use Rattle.walk.proofs.Behind.{walked_ended}
use Rattle.walk.proofs.Noted.{Inside, walk_inside}
use Rattle.walk.proofs.Verdicts.{Held}
use Rattle.places.specs.Places.{cells, room_of, Fills}
use Rattle.places.specs.declared.Filled.{Filled}
use Rattle.places.proofs.Walked.{fill_noted}

-- the walk over a message, cut after n bytes, stops inside it
pub stop_inside : (R : Reader) (m : List ℕ) (n p : ℕ) → p ≡ place_of (walked R (take n m)) → p ≤ length m
stop_inside R m n p e = omega (arith, e, stops_inside R (take n m), length-take n m)

-- where none is stored, no cell is written
pub none_stored : (l : List Sighting) (t : List ℕ) → length l ≡ 0 → t ≡ over (cells l) t
none_stored [] t e = sym (over_none t)
none_stored (x ∷ l) t e = absurd (omega arith)

-- a reader that notes every record of kind k, as often as it stands; F says what an answer stores, and no refusal stores any
module _ (R : Reader) (k : ℕ) (always : (bit : Bool) (b : List ℕ) → R.act k bit b ≡ notes) (often : R.once k ≡ false) (D : Judge) (F : Answer D.Q → List Sighting)
    (none : (r : Refused) → F (refused r) ≡ []) (P : Profile) (m : List ℕ) (n : ℕ) (x : Terms) (t : List ℕ) where
  abbrev u : Under
  u = record { profile = P; limit = n; terms = x }

  -- of what was noted: an accepted answer that stores any stores all of the kind, and there is room
  abbrev pub Stores : List Sighting → D.Q Sighting → Type 0
  Stores st q = (length (F (accepted q)) ≡ 0 → ⊥) → (F (accepted q) ≡ of_kind k st) × (length (of_kind k st) ≤ room_of t)

  module _ (held : (st : List Sighting) → Inside (length m) st → Held D (Stores st) (D.decide u (body_in m) (λ j. of_kind j st))) where
    -- count is how many the answer stores, and p the place at which the walk stopped
    pub all_stored : (count : ℕ) → count ≡ length (F (read_as R D m u)) → (count ≡ 0 → ⊥) → n < 65536 → (p : ℕ) → p ≡ place_of (walked R (take n m))
        → (r : Filled) (t' : List ℕ) → Fills k count (take (p - 0) (drop 0 m)) t r t' → t' ≡ over (cells (F (read_as R D m u))) t
    unfolding read_as finish
    all_stored count all some l p stop r t' f = go (walked R (take n m)) refl all stop
      where
        decided : (at next : ℕ) (st : List Sighting) → walked R (take n m) ≡ ended at next st → p ≡ at → (v : Verdict D.Q Sighting) → Held D (Stores st) v
            → count ≡ length (F (placed at v)) → t' ≡ over (cells (F (placed at v))) t
        decided at next st e q (no c b) h a = absurd (some (a ∙ ap length (none _)))
        decided at next st e q (yes x) h a =
            let d = h (λ z. some (a ∙ z)) in
            let every : count ≡ length (of_kind k st) = a ∙ ap length d.0 in
            fill_noted R k always often m n at next st (walked_ended R (take n m) at next st e) t count every (omega (arith, every, d.1)) l p q r t' f ∙ ap (λ (y : List Sighting). over (cells y) t) (sym d.0)

        go : (o : Outcome) → walked R (take n m) ≡ o → count ≡ length (F (finish D u m o)) → p ≡ place_of o → t' ≡ over (cells (F (finish D u m o))) t
        go (stopped x) e a q = absurd (some (a ∙ ap length (none x)))
        go (ended at next st) e a q =
            let i = walk_inside R [] 0 0 (take n m) (length m) at next st (simp length-take (omega arith)) tt (walked_ended R (take n m) at next st e) in
            decided at next st e q (D.decide u (body_in m) (λ j. of_kind j st)) (held st i) a
