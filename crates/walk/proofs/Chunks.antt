-- Whole records as chunks of a message: in front of more bytes a chunk is read as it is alone, and a walk goes from chunk to chunk.
-- Assumes nothing.
use mathlib.Core.Path.{◌≡◌, refl, ◌∙◌, ap}
use mathlib.Core.List.{List, [], ◌∷◌, ◌++◌, append_assoc}
use Prim.Native.Nat.{ℕ, zero, suc, ◌+◌, ◌≤◌, ◌<◌}
use native.Mathlib.Omega.{arith}
use native.Mathlib.Nat.{add_assoc, add-zero}
use lib.ListN.{length, drop, length-append, length-drop, get_or-append}
use lib.Seq.{drop_at, drop-append-le, take-append-le}
use borrow.Author.Tests.{le-ltb}
use Rattle.wire.specs.Bytes.{number_at}
use Rattle.record.specs.Record.{kind, critical, size, there, fault_by}
use Rattle.walk.specs.Walk.{Reader, fault_in, act_in, Sighting, Outcome, Step, stops, goes, judge, step, walk}
use Rattle.walk.specs.Message.{Whole, Each, flat}
use Rattle.walk.proofs.Unroll.{after, unroll}

-- ---- a chunk in front of more bytes

module _ (c r : List ℕ) (header : 4 ≤ length c) where
  number_append : (i : ℕ) → i + 1 < 4 → number_at (c ++ r) i ≡ number_at c i
  unfolding number_at
  number_append i l = rw (get_or-append c r 0 i (omega arith), get_or-append c r 0 (i + 1) (omega arith))

  pub kind_append : kind (c ++ r) ≡ kind c
  unfolding kind
  kind_append = rw (number_append 0 (omega arith))

  pub critical_append : critical (c ++ r) ≡ critical c
  unfolding critical
  critical_append = rw (number_append 0 (omega arith))

  pub size_append : size (c ++ r) ≡ size c
  unfolding size
  size_append = number_append 2 (omega arith)

module _ (c r : List ℕ) (whole : Whole c) where
  header : 4 ≤ length c
  header = omega arith

  pub there_append : there (c ++ r) ≡ there c
  unfolding there
  there_append =
      rw (size_append c r header, drop-append-le 4 c r header, take-append-le (size c) (drop 4 c) r (simp length-drop (omega arith)))

  module _ (R : Reader) where
    pub fault_append : fault_in R (c ++ r) ≡ fault_in R c
    unfolding fault_by
    fault_append =
        let long : 4 ≤ length (c ++ r) = simp length-append (omega arith) in
        rw (kind_append c r header, size_append c r header, there_append, le-ltb (length (c ++ r)) 4 long, le-ltb (length c) 4 header)

    pub act_append : act_in R (c ++ r) ≡ act_in R c
    unfolding act_in
    act_append = cc (kind_append c r header, critical_append c r header, there_append)

    pub step_append : (st : List Sighting) (at : ℕ) → step R st at (c ++ r) ≡ step R st at c
    unfolding step judge
    step_append st at = rw fault_append (go (fault_in R c))
      where
        go : (f : ℕ) → judge R st at (c ++ r) f ≡ judge R st at c f
        go zero = rw (kind_append c r header, size_append c r header, act_append)
        go (suc f) = refl

    pub unroll_chunk : (st : List Sighting) (at : ℕ)
        → walk R st at 0 (c ++ r) ≡ after (step R st at c) (λ st'. walk R st' (at + length c) 0 r)
    unroll_chunk st at = unroll R st at (c ++ r) ∙ rw (step_append st at, size_append c r header, ← whole, drop_at c r (length c) refl)

-- ---- the walk over chunks

pub each_map : {P Q : List ℕ → Type 0} → ((c : List ℕ) → P c → Q c) → (cs : List (List ℕ)) → Each P cs → Each Q cs
each_map f [] h = tt
each_map f (c ∷ cs) h = (f c h.0, each_map f cs h.1)

-- a step, and the next if it goes on
abbrev pub follow : Step → (List Sighting → Step) → Step
follow (stops o) f = stops o
follow (goes st) f = f st

after_follow : (x : Step) (f : List Sighting → Step) (g : List Sighting → Outcome) → after (follow x f) g ≡ after x (λ st. after (f st) g)
after_follow (stops o) f g = refl
after_follow (goes st) f g = refl

unfoldable pub run : Reader → List Sighting → ℕ → List (List ℕ) → Step
run R st at [] = goes st
run R st at (c ∷ cs) = follow (step R st at c) (λ st'. run R st' (at + length c) cs)

module _ (R : Reader) (r : List ℕ) where
  pub walk_run : (st : List Sighting) (at : ℕ) (cs : List (List ℕ)) → Each Whole cs
      → walk R st at 0 (flat cs ++ r) ≡ after (run R st at cs) (λ st'. walk R st' (at + length (flat cs)) 0 r)
  unfolding run
  walk_run st at [] w = rw add-zero
  walk_run st at (c ∷ cs) w =
      rw (append_assoc, length-append, ← add_assoc at (length c) (length (flat cs)), after_follow)
      (unroll_chunk c (flat cs ++ r) w.0 R st at ∙ ap (after (step R st at c)) (λ j st'. walk_run st' (at + length c) cs w.1 j))
