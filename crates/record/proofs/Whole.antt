-- A body without fault is all there, whatever it holds; and one of which nothing is asked but its bytes has no fault where it is.
-- Assumes nothing.
use mathlib.Core.Path.{◌≡◌, refl, ◌∙◌}
use mathlib.Core.List.{List}
use mathlib.Core.Bool.{Bool, true, false, cond}
use Prim.Native.Nat.{ℕ, suc, ◌*◌, ◌/◌, ◌%◌, ◌≤◌}
use native.Mathlib.Omega.{arith}
use lib.ListN.{length, length-take}
use lib.Dec.{ltb, eqb}
use borrow.Author.Tests.{ltb-false, eqb-true, eqb-false, le-ltb}
use Rattle.layout.specs.declared.Shape.{Shape}
use Rattle.layout.specs.declared.Shape.TheVariants.{Skipped, Numbers, Number, Bytes, Name, Pairs, Halves, Unknown}
use Rattle.record.specs.Record.{kind, size, there, short, uneven, not_number, not_halves, not_utf8, first_of, not_name, fault_of, fault_by}

-- ---- a body without fault is all there

-- a choice that is 0, and one of whose sides is not
pub not_first : (t : Bool) (a x : ℕ) → cond t (suc a) x ≡ 0 → (t ≡ false) × (x ≡ 0)
not_first true a x h = absurd (omega arith)
not_first false a x h = (refl, h)

not_second : (t : Bool) (a x : ℕ) → cond t x (suc a) ≡ 0 → (t ≡ true) × (x ≡ 0)
not_second true a x h = (refl, h)
not_second false a x h = absurd (omega arith)

short_there : (n m : ℕ) → short n m ≡ 0 → n ≤ m
unfolding short
short_there n m h = ltb-false m n (not_first (ltb m n) 0 0 h).0

uneven_there : (u n m : ℕ) → uneven u n m ≡ 0 → n ≤ m
unfolding uneven
uneven_there u n m h = short_there n m (not_second (eqb (n % u) 0) 0 (short n m) h).1

number_there : (n m : ℕ) → not_number n m ≡ 0 → n ≤ m
unfolding not_number
number_there n m h =
    let p = not_first (ltb m 2) 0 (cond (eqb n 2) 0 2) h in
    let q = eqb-true n 2 (not_second (eqb n 2) 1 0 p.1).0 in
    omega (arith, ltb-false m 2 p.0)

halves_there : (n m : ℕ) → not_halves n m ≡ 0 → n ≤ m
unfolding not_halves
halves_there n m h =
    let p = not_first (ltb m (2 * (n / 2))) 0 (cond (eqb (n % 2) 0) 0 2) h in
    let q = eqb-true (n % 2) 0 (not_second (eqb (n % 2) 0) 1 0 p.1).0 in
    omega (arith, ltb-false m (2 * (n / 2)) p.0)

first_none : (f g : ℕ) → first_of f g ≡ 0 → g ≡ 0
unfolding first_of
first_none f g h = go (eqb f 0) refl h
  where
    go : (t : Bool) → eqb f 0 ≡ t → cond t g f ≡ 0 → g ≡ 0
    go true e z = z
    go false e z = absurd (eqb-false f 0 e z)

name_there : (n : ℕ) (b : List ℕ) → not_name n b ≡ 0 → n ≤ length b
unfolding not_name
name_there n b h = short_there n (length b) (first_none (not_utf8 b) (short n (length b)) h)

pub body_there : (x : Shape) (n : ℕ) (b : List ℕ) → fault_of x n b ≡ 0 → n ≤ length b
unfolding fault_of
body_there Skipped n b h = short_there n (length b) h
body_there Numbers n b h = uneven_there 2 n (length b) h
body_there Number n b h = number_there n (length b) h
body_there Bytes n b h = short_there n (length b) h
body_there Name n b h = name_there n b h
body_there Pairs n b h = uneven_there 4 n (length b) h
body_there Halves n b h = halves_there n (length b) h
body_there Unknown n b h = short_there n (length b) h

-- ---- a record of which a body is asked

-- what the fault of the record at the list's front says of its body
pub body_fault : (f : ℕ → Shape) (s : List ℕ) → fault_by f s ≡ 0 → (4 ≤ length s) × (fault_of (f (kind s)) (size s) (there s) ≡ 0)
unfolding fault_by
body_fault f s h =
    let p = not_first (ltb (length s) 4) 0 _ h in
    (ltb-false (length s) 4 p.0, p.1)

-- its body is as long as the header says
pub there_length : (f : ℕ → Shape) (s : List ℕ) → fault_by f s ≡ 0 → length (there s) ≡ size s
unfolding there
there_length f s h =
    let l = body_there (f (kind s)) (size s) (there s) (body_fault f s h).1 in
    length-take (size s) _ ∙ omega (arith, simp (length-take) at l)

-- one number is two bytes
pub number_length : (f : ℕ → Shape) (s : List ℕ) → fault_by f s ≡ 0 → f (kind s) ≡ Number → size s ≡ 2
unfolding fault_of not_number
number_length f s h e =
    let b = (body_fault f s h).1 in
    let g : not_number (size s) (length (there s)) ≡ 0 = rw e at b in
    eqb-true (size s) 2 (not_second (eqb (size s) 2) 1 0 (not_first (ltb (length (there s)) 2) 0 _ g).1).0

-- shapes of which only the length is asked
pub data Plain : Shape → Type 0 where
  skipped : Plain Skipped
  unknown : Plain Unknown

pub plain_short : (x : Shape) (n : ℕ) (b : List ℕ) → Plain x → n ≤ length b → fault_of x n b ≡ 0
unfolding fault_of short
plain_short x n b skipped h = rw (le-ltb (length b) n h)
plain_short x n b unknown h = rw (le-ltb (length b) n h)
