-- Laws of what a writer leaves in an output: one writer after the other, and what a total writer's contract determines.
-- Assumes nothing.
use mathlib.Core.Path.{◌≡◌, refl, sym, ap, ◌∙◌}
use mathlib.Core.Bool.{Bool, true, false}
use mathlib.Core.List.{List, [], ◌++◌, append_assoc, append-nil}
use Prim.Native.Nat.{ℕ, suc, ◌+◌, ◌-◌, ◌<◌, ◌≤◌}
use native.Mathlib.Nat.{zero-add, le_of_lt, add-sub_of_le}
use native.Mathlib.Numerals.{add-one}
use native.Mathlib.Omega.{arith}
use borrow.Author.Tests.{leb-true, leb-false}
use borrow.Rule.Slice.PartMut.{mid_of, put_mid}
use lib.Dec.{leb}
use lib.ListN.{length, take, drop, get_or, set, length-append, length-drop, drop_of_length-le}
use lib.Seq.{sets, sets-eq, paste-suc, take_at, drop_at, drop-drop, length-take-le, take_all}
use Rattle.wire.specs.Over.{over, Put, Tried}

-- ---- o with b at its front

pub length_over : (b o : List ℕ) → length b ≤ length o → length (over b o) ≡ length o
unfolding over
length_over b o h = simp (length-append, length-drop) (add-sub_of_le h)

pub over_none : (o : List ℕ) → over [] o ≡ o
unfolding over
over_none o = refl

-- stores at the front, one after the other
pub stores_over : (b o : List ℕ) → length b ≤ length o → sets o 0 b ≡ over b o
unfolding over
stores_over b o h = sets-eq b o 0 (rw zero-add h) ∙ ap (λ (k : ℕ). b ++ drop k o) (zero-add (length b))

-- a turn of the loop that copies
pub over_more : (s o : List ℕ) (i : ℕ) → i < length s → length s ≤ length o → set (over (take i s) o) i (get_or s i 0) ≡ over (take (i + 1) s) o
unfolding over
over_more s o i h g =
    let lz : 0 + i < length o = omega arith in
    let e : length (take i s) ≡ i = length-take-le i s (le_of_lt h) in
    let e' : length (take (suc i) s) ≡ suc i = length-take-le (suc i) s h in
    rw (add-one, e, e')
    (ap (λ (k : ℕ). set (take i s ++ drop k o) k (get_or s i 0)) (sym (zero-add i))
    ∙ paste-suc o 0 s i 0 lz h
    ∙ ap (λ (k : ℕ). take (suc i) s ++ drop k o) (zero-add (suc i)))

-- what a callee left in the part of the output that starts at `at`, over what was written before it: the two one after the other.
-- o₁ is the output before the call, and o₂ what the callee left in the part
pub over_then : (a b o o₁ o₂ : List ℕ) (at : ℕ) → length a ≡ at → at + length b ≤ length o → o₁ ≡ over a o
    → o₂ ≡ over b (mid_of at (length o₁ - at) o₁) → put_mid at (length o₁ - at) o₁ o₂ ≡ over (a ++ b) o
unfolding over
over_then a b o o₁ o₂ at l h e₁ e₂ =
    let n : length o₁ ≡ length o = ap length e₁ ∙ length_over a o (omega arith) in
    let t : take at o₁ ≡ a = ap (take at) e₁ ∙ take_at a (drop (length a) o) at l in
    let d : drop at o₁ ≡ drop at o = ap (drop at) e₁ ∙ drop_at a (drop (length a) o) at l ∙ ap (λ (k : ℕ). drop k o) l in
    let dl : length (drop at o) ≤ length o₁ - at = omega (arith, length-drop at o) in
    let m : mid_of at (length o₁ - at) o₁ ≡ drop at o = ap (take (length o₁ - at)) d ∙ take_all (length o₁ - at) (drop at o) dl in
    let p : drop (length o₁ - at) (drop at o₁) ≡ [] = ap (drop (length o₁ - at)) d ∙ drop_of_length-le (drop at o) dl in
    rw (t, p, append-nil, e₂, m, length-append, l, drop-drop, append_assoc)

-- ---- `Put`: a writer that had room

-- an equation, as a `Put`
pub as_put : {o o' : List ℕ} (b : List ℕ) → o' ≡ over b o → Put (length b) b o (length b) o'
as_put b e = record { count = refl; size = refl; left = e }

-- the same of another way to say the number or the bytes
pub put_as : {n n' r : ℕ} {b b' o o' : List ℕ} → Put n b o r o' → n ≡ n' → b ≡ b' → Put n' b' o r o'
put_as p e f = rw (← e, ← f) p

-- where there is room for m bytes more, the rest of the output has it
pub rest_room : {n m : ℕ} {a o o₁ : List ℕ} {at : ℕ} → Put n a o at o₁ → n + m ≤ length o → m ≤ length (mid_of at (length o₁ - at) o₁)
rest_room {n} {m} {a} {o} {o₁} {at} p room =
    let l : length o₁ ≡ length o = ap length p.left ∙ length_over a o (omega (arith, p.size)) in
    let g : length o₁ - at ≤ length (drop at o₁) = omega (arith, length-drop at o₁) in
    let e = length-take-le (length o₁ - at) (drop at o₁) g in
    omega (arith, p.count)

-- what two writers leave, the second in the rest of the output
pub put_then : {n m : ℕ} {a b o o₁ o₂ : List ℕ} {at r : ℕ} → Put n a o at o₁ → Put m b (mid_of at (length o₁ - at) o₁) r o₂ → n + m ≤ length o
    → Put (n + m) (a ++ b) o (at + r) (put_mid at (length o₁ - at) o₁ o₂)
put_then {n} {m} {a} {b} {o} {o₁} {o₂} {at} {r} p q room =
    record {
      count = omega (arith, p.count, q.count);
      size = omega (arith, length-append a b, p.size, q.size);
      left = over_then a b o o₁ o₂ at (omega (arith, p.count, p.size)) (omega (arith, p.count, p.size, q.size)) p.left q.left;
    }

-- ---- `Tried`: a total writer

pub tried_not : {n : ℕ} {b o : List ℕ} → length o < n → Tried n b o 0 o
tried_not {n} {b} {o} h =
    record { within = omega arith; room = λ g. absurd (let z : ⊥ = omega arith in z); none = λ _. (refl, refl) }

pub tried_put : {n r : ℕ} {b o o' : List ℕ} → n ≤ length o → Put n b o r o' → Tried n b o r o'
tried_put {n} {r} {b} {o} {o'} h p =
    record { within = omega (arith, p.count); room = λ _. p; none = λ g. absurd (let z : ⊥ = omega arith in z) }

-- a total writer in the rest of the output, of which there is enough
pub try_then : {n m : ℕ} {a b o o₁ o₂ : List ℕ} {at r : ℕ} → Put n a o at o₁ → Tried m b (mid_of at (length o₁ - at) o₁) r o₂ → n + m ≤ length o
    → Put (n + m) (a ++ b) o (at + r) (put_mid at (length o₁ - at) o₁ o₂)
try_then p q room = put_then p (q.room (rest_room p room)) room

-- it determines the answer and the whole output
decided : {n r q : ℕ} {b o o' o'' : List ℕ} (t : Bool) → leb n (length o) ≡ t → Tried n b o r o' → Tried n b o q o'' → (r ≡ q) × (o' ≡ o'')
decided true e x y =
    let h = leb-true _ _ e in
    let p = x.room h in
    let q = y.room h in
    (p.count ∙ sym q.count, p.left ∙ sym q.left)
decided false e x y =
    let h = leb-false _ _ e in
    let p = x.none h in
    let q = y.none h in
    (p.0 ∙ sym q.0, p.1 ∙ sym q.1)

pub tried_same : {n r q : ℕ} {b o o' o'' : List ℕ} → Tried n b o r o' → Tried n b o q o'' → (r ≡ q) × (o' ≡ o'')
tried_same {n} {r} {q} {b} {o} x y = decided (leb n (length o)) refl x y
