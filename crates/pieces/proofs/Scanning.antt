-- The loop that walks over the whole records: what holds whenever a record is about to be judged, and what each way out and the way on needs.
-- Assumes nothing.
use mathlib.Core.Path.{◌≡◌, refl, sym, ◌∙◌, ap}
use mathlib.Core.List.{List}
use mathlib.Core.Bool.{Bool, true, false, cond}
use Prim.Native.Nat.{ℕ, ◌+◌, ◌-◌, ◌≤◌, ◌<◌}
use native.Mathlib.Omega.{arith}
use lib.ListN.{length, drop, length-drop}
use lib.Seq.{drop-drop}
use Rattle.wire.specs.Bytes.{number_at}
use Rattle.wire.proofs.Bytes.{number_drop}
use Rattle.record.specs.Record.{size}
use Rattle.walk.specs.Walk.{Reader}
use Rattle.walk.specs.Met.{halts, on, passing}
use Rattle.pieces.specs.Pieces.{whole, waits, decides, going}
use Rattle.pieces.proofs.Going.{whole_long, long_whole, short_whole, going_waits, going_halts, going_on}

-- ---- the size of a whole record, and 0 for none

module _ (s : List ℕ) (at : ℕ) where
  pub sized_short : length s - at < 4 → 0 ≡ cond (whole (drop at s)) (4 + size (drop at s)) 0
  sized_short h = rw (short_whole (drop at s) (omega (arith, length-drop at s)))

  module _ (n : ℕ) (e : n ≡ number_at s (at + 2)) where
    size_is : size (drop at s) ≡ n
    unfolding size
    size_is = number_drop s at 2 ∙ sym e

    pub sized_cut : length s - at < 4 + n → 0 ≡ cond (whole (drop at s)) (4 + size (drop at s)) 0
    sized_cut h = rw (short_whole (drop at s) (omega (arith, length-drop at s, size_is)))

    pub sized_whole : 4 + n ≤ length s - at → 4 + n ≡ cond (whole (drop at s)) (4 + size (drop at s)) 0
    sized_whole h = rw (long_whole (drop at s) (omega (arith, length-drop at s, size_is))) (ap (λ (k : ℕ). 4 + k) (sym size_is))

none_whole : (t : Bool) (k n : ℕ) → n ≡ cond t (4 + k) 0 → n ≡ 0 → t ≡ false
none_whole true k n e z = absurd (let f : ⊥ = omega arith in f)
none_whole false k n e z = refl

some_whole : (t : Bool) (k n : ℕ) → n ≡ cond t (4 + k) 0 → (n ≡ 0 → ⊥) → (t ≡ true) × (n ≡ 4 + k)
some_whole true k n e f = (refl, e)
some_whole false k n e f = absurd (f e)

-- ---- the loop

module _ (R : Reader) (met : ℕ) (s : List ℕ) where
  -- the walk from a place on, with the kinds seen before it, is the whole walk
  pub record Scanning (at seen : ℕ) : Type 0 where
    pub same : going R met 0 0 s ≡ going R seen at 0 (drop at s)
    pub inside : at ≤ length s

  pub scanning_start : Scanning 0 met
  scanning_start = record { same = refl; inside = omega arith }

  module _ (at seen : ℕ) (g : Scanning at seen) (n : ℕ) (e : n ≡ cond (whole (drop at s)) (4 + size (drop at s)) 0) where
    pub scanning_stop : n ≡ 0 → waits at seen ≡ going R met 0 0 s
    scanning_stop z = sym (g.same ∙ going_waits R seen at (drop at s) (none_whole (whole (drop at s)) (size (drop at s)) n e z))

    module _ (f : n ≡ 0 → ⊥) where
      is_whole : (whole (drop at s) ≡ true) × (n ≡ 4 + size (drop at s))
      is_whole = some_whole (whole (drop at s)) (size (drop at s)) n e f

      pub scanning_onward : (at < at + n) × (at + n ≤ length s)
      scanning_onward =
          let l = whole_long (drop at s) is_whole.0 in
          (omega (arith, is_whole.1), omega (arith, is_whole.1, l, length-drop at s, g.inside))

      pub scanning_found : halts ≡ passing R seen (drop at s) → decides at seen (at + n) ≡ going R met 0 0 s
      scanning_found p = sym (g.same ∙ going_halts R seen at (drop at s) is_whole.0 (sym p) ∙ ap (λ (k : ℕ). decides at seen (at + k)) (sym is_whole.1))

      pub scanning_on : (m : ℕ) → on m ≡ passing R seen (drop at s) → Scanning (at + n) m
      scanning_on m p = record {
        same =
            g.same
            ∙ going_on R seen at (drop at s) m is_whole.0 (sym p)
            ∙ ap (λ (k : ℕ). going R m (at + k) 0 (drop k (drop at s))) (sym is_whole.1)
            ∙ ap (going R m (at + n) 0) (drop-drop n at s);
        inside = scanning_onward.1;
      }
