-- Laws of numbers and parts of a list.
-- Assumes nothing.
use mathlib.Core.Path.{◌≡◌, refl, sym, ap, ◌∙◌}
use mathlib.Core.List.{List, [], ◌∷◌, ◌++◌}
use mathlib.Core.Bool.{Bool, true, false}
use Prim.Native.Nat.{ℕ, ◌+◌, ◌-◌, ◌*◌, ◌/◌, ◌%◌, ◌<◌, ◌≤◌}
use native.Mathlib.Nat.{add-sub_cancel_left, div-add-mod'}
use native.Mathlib.Omega.{arith}
use borrow.Author.Tests.{le-leb, lt-leb, ltb-true, ltb-false}
use denote.Ref.{Bor}
use lib.Dec.{ltb}
use lib.ListN.{length, get_or, take, drop, length-append, length-take, length-drop, get_or-eq_default}
use lib.Seq.{get_or-take, get_or-drop, length-take-le, take-add, take_at, drop_at, drop-drop}
use Rattle.wire.specs.Bytes.{number_at, part_at, start_at, PartOf}
use Rattle.wire.specs.Over.{bytes_of}

-- past the end both bytes read as 0
pub number_past : (s : List ℕ) (at : ℕ) → length s ≤ at → 0 ≡ number_at s at
unfolding number_at
number_past s at h =
    let a = get_or-eq_default s 0 {n = at} h in
    let b = get_or-eq_default s 0 {n = at + 1} (omega arith) in
    simp (a, b)

-- a number of what begins at a place is the number further on
pub number_drop : (s : List ℕ) (at i : ℕ) → number_at (drop at s) i ≡ number_at s (at + i)
unfolding number_at
number_drop s at i = rw (get_or-drop, get_or-drop) (ap (λ (n : ℕ). get_or s (at + i) 0 * 256 + get_or s n 0) (omega arith))

-- a number inside what is taken is the number itself
pub number_take : (s : List ℕ) (n i : ℕ) → i + 1 < n → number_at (take n s) i ≡ number_at s i
unfolding number_at
number_take s n i h = rw (get_or-take n s i 0 (omega arith), get_or-take n s (i + 1) 0 h)

-- the bytes of a number are that number again
pub number_back : (x : ℕ) (t : List ℕ) → number_at (bytes_of x ++ t) 0 ≡ x
unfolding number_at bytes_of
number_back x t = div-add-mod' x 256

-- a part that is not inside is no bytes at the front, and one that is inside those that are asked for
pub part_none : (s : List ℕ) (start n : ℕ) → length s < start + n → ([] ≡ part_at s start n) × (0 ≡ start_at s start n)
unfolding part_at start_at
part_none s start n h = rw (lt-leb (start + n) (length s) h) (refl, refl)

pub part_some : (s : List ℕ) (start n : ℕ) → start + n ≤ length s
    → (take (start + n - start) (drop start s) ≡ part_at s start n) × (start ≡ start_at s start n)
unfolding part_at start_at
part_some s start n h = rw (le-leb (start + n) (length s) h, add-sub_cancel_left) (refl, refl)

pub length_part : (s : List ℕ) (start n : ℕ) → start + n ≤ length s → length (part_at s start n) ≡ n
unfolding part_at
length_part s start n h = rw (le-leb (start + n) (length s) h) (length-take-le n (drop start s) (omega (arith, length-drop start s)))

pub part_empty : (s : List ℕ) → part_at s 0 0 ≡ []
unfolding part_at
part_empty s = rw (le-leb 0 (length s) (omega arith))

-- what stands between two lists is a part of them all
pub part_between : (a x z : List ℕ) (i n : ℕ) → length a ≡ i → length x ≡ n → part_at (a ++ (x ++ z)) i n ≡ x
unfolding part_at
part_between a x z i n e f =
    let h : i + n ≤ length (a ++ (x ++ z)) = simp length-append (omega arith) in
    rw (le-leb (i + n) (length (a ++ (x ++ z))) h, drop_at a (x ++ z) i e, take_at x z n f)

-- a part, and the part that begins where it ends
pub part_join : (s : List ℕ) (start n k : ℕ) → start + n + k ≤ length s → part_at s start n ++ part_at s (start + n) k ≡ part_at s start (n + k)
unfolding part_at
part_join s start n k h =
    let i : start + n ≤ length s = omega arith in
    let j : start + (n + k) ≤ length s = omega arith in
    rw (le-leb (start + n) (length s) i, le-leb (start + n + k) (length s) h, le-leb (start + (n + k)) (length s) j, take-add, drop-drop)

-- a byte of a part
pub part_at_lem : (s : List ℕ) (start n i : ℕ) → start + n ≤ length s → i < n → get_or (part_at s start n) i 0 ≡ get_or s (start + i) 0
unfolding part_at
part_at_lem s start n i h g = rw (le-leb (start + n) (length s) h, get_or-take, get_or-drop)

-- two references to one part hold the same bytes at the same place
pub part_of_same : {s r r' : Bor (List ℕ)} {start n : ℕ} → PartOf s start n r → PartOf s start n r' → (r.now ≡ r'.now) × (r.ref_ptr ≡ r'.ref_ptr)
part_of_same p q = (p.holds ∙ sym q.holds, λ i. ((p.block ∙ sym q.block) i, (p.offset ∙ sym q.offset) i))

-- two bytes are the bytes of their number
pub bytes_back : (b : List ℕ) → length b ≡ 2 → get_or b 1 0 < 256 → bytes_of (number_at b 0) ≡ b
unfolding bytes_of number_at
bytes_back [] e h = absurd (let z : ⊥ = omega arith in z)
bytes_back (x ∷ []) e h = absurd (let z : ⊥ = omega arith in z)
bytes_back (x ∷ y ∷ []) e h =
    let p : (x * 256 + y) / 256 ≡ x = omega arith in
    let q : (x * 256 + y) % 256 ≡ y = omega arith in
    λ j. p j ∷ q j ∷ []
bytes_back (x ∷ y ∷ z ∷ b) e h = absurd (let w : ⊥ = omega arith in w)

-- ---- lists that are bytes

abbrev pub Small : List ℕ → Type 0
Small s = (i : ℕ) → get_or s i 0 < 256

pub small_part : (s : List ℕ) (n at : ℕ) → Small s → Small (take n (drop at s))
small_part s n at h i = go (ltb i n) refl
  where
    go : (t : Bool) → ltb i n ≡ t → get_or (take n (drop at s)) i 0 < 256
    go true e = rw (get_or-take n (drop at s) i 0 (ltb-true i n e), get_or-drop at s i 0) (h (at + i))
    go false e =
        let l : length (take n (drop at s)) ≤ i = omega (arith, length-take n (drop at s), ltb-false i n e) in
        rw (get_or-eq_default (take n (drop at s)) 0 {n = i} l) (omega arith)

pub number_small : (s : List ℕ) → Small s → number_at s 0 < 65536
unfolding number_at
number_small s h = omega (arith, h 0, h (0 + 1))
