-- A record without fault is whole, whatever its body holds; and a whole record of which nothing is asked but its bytes has no fault.
-- Assumes nothing.
use mathlib.Core.Path.{◌≡◌}
use mathlib.Core.List.{List}
use Prim.Native.Nat.{ℕ, ◌+◌, ◌≤◌}
use native.Mathlib.Omega.{arith}
use lib.ListN.{length, length-take, length-drop}
use lib.Dec.{ltb}
use borrow.Author.Tests.{ltb-false, le-ltb}
use Rattle.record.specs.Record.{kind, size, there, fault_by}
use Rattle.record.proofs.Whole.{not_first, body_there, Plain, plain_short}
use Rattle.walk.specs.Walk.{Reader, fault_in}
use Rattle.walk.specs.Message.{Whole}

pub faultless_whole : (R : Reader) (s : List ℕ) → fault_in R s ≡ 0 → 4 + size s ≤ length s
unfolding fault_by there
faultless_whole R s h =
    let p = not_first (ltb (length s) 4) 0 _ h in
    let q = ltb-false (length s) 4 p.0 in
    let f = body_there (R.shape (kind s)) (size s) (there s) p.1 in
    omega (arith, simp (length-take, length-drop) at f)

pub whole_faultless : (R : Reader) (c : List ℕ) → Plain (R.shape (kind c)) → Whole c → fault_in R c ≡ 0
unfolding fault_by there
whole_faultless R c p w =
    let all : size c ≤ length (there c) = simp (length-take, length-drop) (omega arith) in
    rw (le-ltb (length c) 4 (omega arith)) (plain_short (R.shape (kind c)) (size c) (there c) p all)
