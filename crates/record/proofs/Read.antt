-- What `read_at` and `look_at` are, from what the reader found on the way.
-- Assumes nothing.
use mathlib.Core.Path.{◌≡◌, sym, ap, ◌∙◌}
use mathlib.Core.Bool.{Bool}
use mathlib.Core.List.{List}
use Prim.Native.Nat.{ℕ, ◌+◌, ◌-◌, ◌<◌, ◌≤◌}
use native.Mathlib.Nat.{add-sub_cancel_left}
use native.Mathlib.Omega.{arith}
use borrow.Author.Tests.{lt-ltb, le-ltb, eq-eqb, ne_eqb}
use lib.ListN.{length, take, drop, length-take, length-drop}
use lib.Seq.{take_all}
use Rattle.wire.specs.Bytes.{number_at}
use Rattle.nts.specs.Refusal.{nothing}
use Rattle.layout.specs.Table.{shape_of}
use Rattle.layout.specs.declared.Shape.{Shape}
use Rattle.record.specs.Record.{kind_of, critical_of, kind, critical, size, there, fault_of, fault_by, Seen, seen_of, read, refused, read_from, read_at, whole, broken, look_from, look_at}
use Rattle.record.proofs.Inverse.{whole_was}
use Rattle.record.proofs.Whole.{body_fault, there_length}

-- all that follows a header is what is there of a body that is short
pub there_all : (s : List ℕ) (n : ℕ) → length s - 4 < n → take (length s - 4) (drop 4 s) ≡ take n (drop 4 s)
there_all s n h =
    take_all (length s - 4) (drop 4 s) (simp length-drop (omega arith)) ∙ sym (take_all n (drop 4 s) (simp length-drop (omega arith)))

pub there_some : (s : List ℕ) (n : ℕ) → take (4 + n - 4) (drop 4 s) ≡ take n (drop 4 s)
there_some s n = rw add-sub_cancel_left

-- what follows a place, as the reader takes it
abbrev pub rest : List ℕ → ℕ → List ℕ
rest s at = take (length s - at) (drop at s)

pub from_rest : (s : List ℕ) (at : ℕ) → read_from at (rest s at) ≡ read_at s at
unfolding read_at
from_rest s at = ap (read_from at) (take_all (length s - at) (drop at s) (simp length-drop (omega arith)))

-- past a message's end nothing is there
pub past_end : (s : List ℕ) (at : ℕ) → length s < at → refused (record { number = 1; beside = nothing; place = at }) ≡ read_at s at
unfolding read_at read_from fault_by
past_end s at h = simp (lt-ltb (length (drop at s)) 4 (simp length-drop (omega arith)))

pub no_header : (at : ℕ) (t : List ℕ) → length t < 4 → refused (record { number = 1; beside = nothing; place = at }) ≡ read_from at t
unfolding read_from fault_by
no_header at t h = simp (lt-ltb _ _ h)

-- ---- the same of a look

pub look_rest : (f : ℕ → Shape) (s : List ℕ) (at : ℕ) → look_from f at (rest s at) ≡ look_at f s at
unfolding look_at
look_rest f s at = ap (look_from f at) (take_all (length s - at) (drop at s) (simp length-drop (omega arith)))

pub look_past_end : (f : ℕ → Shape) (s : List ℕ) (at : ℕ) → length s < at → broken (record { number = 1; beside = nothing; place = at }) ≡ look_at f s at
unfolding look_at look_from fault_by
look_past_end f s at h = simp (lt-ltb (length (drop at s)) 4 (simp length-drop (omega arith)))

pub look_no_header : (f : ℕ → Shape) (at : ℕ) (t : List ℕ) → length t < 4 → broken (record { number = 1; beside = nothing; place = at }) ≡ look_from f at t
unfolding look_from fault_by
look_no_header f at t h = simp (lt-ltb _ _ h)

-- its body is inside the message
pub look_inside : (f : ℕ → Shape) (s : List ℕ) (at k : ℕ) (bit : Bool) (n : ℕ) → whole k bit n ≡ look_at f s at → at + 4 + n ≤ length s
unfolding look_at there
look_inside f s at k bit n e =
    let w = whole_was f at (drop at s) k bit n e in
    let l = there_length f (drop at s) w.faultless in
    let b = body_fault f (drop at s) w.faultless in
    omega (arith, simp (length-take, length-drop) at l, length-drop at s, w.sized, b.0)

-- ---- by what each callee found

module _ (shape : ℕ → Shape) (at : ℕ) (t : List ℕ) (w n k : ℕ) (l : Shape) (b : List ℕ) (f : ℕ) (here : 4 ≤ length t) (ew : w ≡ number_at t 0) (en : n ≡ number_at t 2)
    (ek : k ≡ kind_of w) (eb : b ≡ take n (drop 4 t)) (el : l ≡ shape k) (ef : f ≡ fault_of l n b) where
  pub look_faulty : (f ≡ 0 → ⊥) → broken (record { number = f; beside = nothing; place = at }) ≡ look_from shape at t
  unfolding look_from fault_by kind size there
  look_faulty z = simp (le-ltb _ _ here, sym ew, sym en, sym ek, sym el, sym eb, sym ef, ne_eqb _ _ z)

  pub look_faultless : f ≡ 0 → (bit : Bool) → bit ≡ critical_of w → whole k bit n ≡ look_from shape at t
  unfolding look_from fault_by kind critical size there
  look_faultless z bit e = simp (le-ltb _ _ here, sym ew, sym en, sym ek, sym el, sym eb, sym ef, eq-eqb _ _ z, sym e)

module _ (at : ℕ) (t : List ℕ) (w n k : ℕ) (l : Shape) (b : List ℕ) (f : ℕ) (here : 4 ≤ length t) (ew : w ≡ number_at t 0) (en : n ≡ number_at t 2)
    (ek : k ≡ kind_of w) (eb : b ≡ take n (drop 4 t)) (el : l ≡ shape_of k) (ef : f ≡ fault_of l n b) where
  pub faulty : (f ≡ 0 → ⊥) → refused (record { number = f; beside = nothing; place = at }) ≡ read_from at t
  unfolding read_from fault_by kind size there
  faulty z = simp (le-ltb _ _ here, sym ew, sym en, sym ek, sym el, sym eb, sym ef, ne_eqb _ _ z)

  pub faultless : f ≡ 0 → (bit : Bool) (x : Seen) → bit ≡ critical_of w → x ≡ seen_of k bit (at + 4) n b → read x bit (at + 4 + n) ≡ read_from at t
  unfolding read_from fault_by kind critical size there
  faultless z bit x e r = simp (le-ltb _ _ here, sym ew, sym en, sym ek, sym el, sym eb, sym ef, eq-eqb _ _ z, sym e, sym r)
