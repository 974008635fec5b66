-- What an answer of the reader says of the bytes that were read.
-- Assumes nothing.
use mathlib.Core.Path.{◌≡◌, refl, sym, ap, ◌∙◌}
use mathlib.Core.Bool.{Bool, true, false, cond}
use mathlib.Core.List.{List}
use Prim.Native.Nat.{ℕ, ◌+◌}
use native.Mathlib.Omega.{arith}
use borrow.Author.Tests.{eqb-true, eqb-false}
use lib.Dec.{eqb}
use Rattle.nts.specs.Refusal.{Refused, nothing}
use Rattle.layout.specs.Table.{shape_of}
use Rattle.layout.specs.declared.Shape.{Shape}
use Rattle.layout.specs.declared.Shape.TheVariants.{Skipped, Numbers, Number, Bytes, Name, Pairs, Halves, Unknown}
use Rattle.record.specs.Record.{kind, critical, size, there, fault_by, fault, Value, unknown, value_of, Seen, seen_of, read, refused, read_from, whole, broken, look_from}

-- a record that was read at the front of t, which begins at `at`
pub record WasRead (at : ℕ) (t : List ℕ) (x : Seen) (bit : Bool) (next : ℕ) : Type 0 where
  pub faultless : fault t ≡ 0
  pub item : x ≡ seen_of (kind t) (critical t) (at + 4) (size t) (there t)
  pub marked : bit ≡ critical t
  pub after : next ≡ at + 4 + size t

pub read_was : (at : ℕ) (t : List ℕ) (x : Seen) (bit : Bool) (next : ℕ) → read x bit next ≡ read_from at t → WasRead at t x bit next
unfolding read_from
read_was at t x bit next e = go (eqb (fault t) 0) refl e
  where
    go : (b : Bool) → eqb (fault t) 0 ≡ b → read x bit next ≡ cond b (read (seen_of (kind t) (critical t) (at + 4) (size t) (there t)) (critical t) (at + 4 + size t)) (refused (record { number = fault t; beside = nothing; place = at })) → WasRead at t x bit next
    go true z q = record { faultless = eqb-true (fault t) 0 z; item = cc; marked = cc; after = cc }
    go false z q = let o : ◌≡◌ {A = ℕ} 0 1 = cc in absurd (omega arith)

pub refused_was : (at : ℕ) (t : List ℕ) (r : Refused) → refused r ≡ read_from at t → (fault t ≡ 0 → ⊥) × (r ≡ record { number = fault t; beside = nothing; place = at })
unfolding read_from
refused_was at t r e = go (eqb (fault t) 0) refl e
  where
    go : (b : Bool) → eqb (fault t) 0 ≡ b → refused r ≡ cond b (read (seen_of (kind t) (critical t) (at + 4) (size t) (there t)) (critical t) (at + 4 + size t)) (refused (record { number = fault t; beside = nothing; place = at })) → (fault t ≡ 0 → ⊥) × (r ≡ record { number = fault t; beside = nothing; place = at })
    go true z q = let o : ◌≡◌ {A = ℕ} 0 1 = cc in absurd (omega arith)
    go false z q = (eqb-false (fault t) 0 z, cc)

-- the same of a look
pub record WasWhole (f : ℕ → Shape) (t : List ℕ) (k : ℕ) (bit : Bool) (n : ℕ) : Type 0 where
  pub faultless : fault_by f t ≡ 0
  pub is : k ≡ kind t
  pub marked : bit ≡ critical t
  pub sized : n ≡ size t

pub whole_was : (f : ℕ → Shape) (at : ℕ) (t : List ℕ) (k : ℕ) (bit : Bool) (n : ℕ) → whole k bit n ≡ look_from f at t → WasWhole f t k bit n
unfolding look_from
whole_was f at t k bit n e = go (eqb (fault_by f t) 0) refl e
  where
    go : (b : Bool) → eqb (fault_by f t) 0 ≡ b → whole k bit n ≡ cond b (whole (kind t) (critical t) (size t)) (broken (record { number = fault_by f t; beside = nothing; place = at })) → WasWhole f t k bit n
    go true z q = record { faultless = eqb-true (fault_by f t) 0 z; is = cc; marked = cc; sized = cc }
    go false z q = let o : ◌≡◌ {A = ℕ} 0 1 = cc in absurd (omega arith)

pub broken_was : (f : ℕ → Shape) (at : ℕ) (t : List ℕ) (r : Refused) → broken r ≡ look_from f at t → (fault_by f t ≡ 0 → ⊥) × (r ≡ record { number = fault_by f t; beside = nothing; place = at })
unfolding look_from
broken_was f at t r e = go (eqb (fault_by f t) 0) refl e
  where
    go : (b : Bool) → eqb (fault_by f t) 0 ≡ b → broken r ≡ cond b (whole (kind t) (critical t) (size t)) (broken (record { number = fault_by f t; beside = nothing; place = at })) → (fault_by f t ≡ 0 → ⊥) × (r ≡ record { number = fault_by f t; beside = nothing; place = at })
    go true z q = let o : ◌≡◌ {A = ℕ} 0 1 = cc in absurd (omega arith)
    go false z q = (eqb-false (fault_by f t) 0 z, cc)

-- ---- a record's kind and value, from what is seen

module _ (k : ℕ) (bit : Bool) (start n : ℕ) (b : List ℕ) (j : ℕ) (v : Value) (e : record { kind = j; value = v } ≡ seen_of k bit start n b) where
  pub seen_kind : k ≡ j
  unfolding seen_of
  seen_kind = sym (ap (λ (x : Seen). x.kind) e)

  pub seen_value : v ≡ value_of (shape_of j) bit start n b
  unfolding seen_of
  seen_value = ap (λ (x : Seen). x.value) e ∙ ap (λ (i : ℕ). value_of (shape_of i) bit start n b) seen_kind

-- only a body of unknown shape is told as unknown, with the bit
pub unknown_value : (l : Shape) (bit bit' : Bool) (start start' n n' : ℕ) (b : List ℕ) → unknown bit' start' n' ≡ value_of l bit start n b → (l ≡ Unknown) × (bit' ≡ bit)
unfolding value_of
unknown_value Skipped bit bit' start start' n n' b e = let o : ◌≡◌ {A = ℕ} 0 1 = cc in absurd (omega arith)
unknown_value Numbers bit bit' start start' n n' b e = let o : ◌≡◌ {A = ℕ} 0 1 = cc in absurd (omega arith)
unknown_value Number bit bit' start start' n n' b e = let o : ◌≡◌ {A = ℕ} 0 1 = cc in absurd (omega arith)
unknown_value Bytes bit bit' start start' n n' b e = let o : ◌≡◌ {A = ℕ} 0 1 = cc in absurd (omega arith)
unknown_value Name bit bit' start start' n n' b e = let o : ◌≡◌ {A = ℕ} 0 1 = cc in absurd (omega arith)
unknown_value Pairs bit bit' start start' n n' b e = let o : ◌≡◌ {A = ℕ} 0 1 = cc in absurd (omega arith)
unknown_value Halves bit bit' start start' n n' b e = let o : ◌≡◌ {A = ℕ} 0 1 = cc in absurd (omega arith)
unknown_value Unknown bit bit' start start' n n' b e = (refl, cc)
