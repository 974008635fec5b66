-- The bit of a record that was read: it is the one that stands in its header, an unknown record's own is the same, and a look at that place tells it, too.
-- Assumes nothing.
use mathlib.Core.Path.{◌≡◌, sym, ap, ◌∙◌}
use mathlib.Core.Bool.{Bool}
use mathlib.Core.List.{List}
use Prim.Native.Nat.{ℕ, ◌+◌, ◌-◌, ◌≤◌}
use native.Mathlib.Omega.{arith}
use borrow.Author.Tests.{eq-eqb}
use lib.ListN.{length, drop}
use Rattle.layout.specs.Table.{shape_of}
use Rattle.record.specs.Record.{kind, critical, size, there, fault, unknown, value_of, Seen, seen_of, read, read_from, read_at, whole, look_from, look_at}
use Rattle.record.proofs.Inverse.{read_was, whole_was, unknown_value}
use Rattle.record.proofs.Read.{look_inside}

module _ (m : List ℕ) (at : ℕ) (y : Seen) (bit : Bool) (next : ℕ) (e : read y bit next ≡ read_at m at) where
  pub read_bit : bit ≡ critical (drop at m)
  unfolding read_at
  read_bit = (read_was at (drop at m) y bit next e).marked

  pub read_own_bit : (own : Bool) (a n : ℕ) → y.value ≡ unknown own a n → own ≡ bit
  unfolding read_at seen_of
  read_own_bit own a n v =
      let t = drop at m in
      let w = read_was at t y bit next e in
      let i : unknown own a n ≡ value_of (shape_of (kind t)) (critical t) (at + 4) (size t) (there t) = sym v ∙ ap (λ (x : Seen). x.value) w.item in
      (unknown_value (shape_of (kind t)) (critical t) own (at + 4) a (size t) n (there t) i).1 ∙ sym w.marked

  -- a look there tells the kind, the bit and the body's size
  pub read_look : look_at shape_of m at ≡ whole y.kind bit (next - (at + 4))
  unfolding read_at look_at look_from seen_of
  read_look =
      let t = drop at m in
      let w = read_was at t y bit next e in
      let k : kind t ≡ y.kind = ap (λ (x : Seen). x.kind) (sym w.item) in
      let n : size t ≡ next - (at + 4) = omega (arith, w.after) in
      rw (eq-eqb (fault t) 0 w.faultless) (λ j. whole (k j) (sym w.marked j) (n j))

  -- and it lies inside the message
  pub read_inside : (at ≤ next) × (next ≤ length m)
  unfolding read_at
  read_inside =
      let i = look_inside shape_of m at y.kind bit (next - (at + 4)) (sym read_look) in
      (omega (arith, (read_was at (drop at m) y bit next e).after), omega (arith, (read_was at (drop at m) y bit next e).after))

-- and what a look tells is read
pub look_read : (m : List ℕ) (at k : ℕ) (bit : Bool) (n : ℕ) → whole k bit n ≡ look_at shape_of m at → (y : Seen) × (read y bit (at + 4 + n) ≡ read_at m at) × (y.kind ≡ k)
unfolding read_at look_at read_from seen_of
look_read m at k bit n e =
    let t = drop at m in
    let w = whole_was shape_of at t k bit n e in
    let y = seen_of (kind t) (critical t) (at + 4) (size t) (there t) in
    (y, rw (eq-eqb (fault t) 0 w.faultless) (λ j. read y (w.marked j) (at + 4 + w.sized j)), sym w.is)
