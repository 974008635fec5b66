-- A number's digits: its last one behind those of a tenth of it, and never more than twenty.
-- Assumes nothing.
use mathlib.Core.Path.{◌≡◌, refl, sym, ap, ◌∙◌}
use mathlib.Core.Bool.{Bool, true, false}
use mathlib.Core.List.{List, [], ◌∷◌, ◌++◌}
use Prim.Native.Nat.{ℕ, zero, suc, ◌+◌, ◌*◌, ◌/◌, ◌%◌, ◌<◌, ◌≤◌, ◌^◌}
use native.Mathlib.Nat.{pow-succ'}
use native.Mathlib.Omega.{arith}
use borrow.Author.Tests.{lt-ltb, le-ltb}
use lib.Dec.{ltb}
use lib.ListN.{length, take, get_or, set, length-append}
use lib.Seq.{take_at, take_all, get_or-append-add}
use Rattle.wire.specs.Over.{over, Put}
use Rattle.wire.proofs.Over.{length_over, over_none, over_more}
use Rattle.listing.specs.Listing.{digits_by, digits}
use Rattle.listing.specs.Code.{PutMost}

pub on : {C : Type 0} (b : Bool) → (b ≡ true → C) → (b ≡ false → C) → C
on true f g = f refl
on false f g = g refl

-- one digit more than a number can have changes nothing
more_fuel : (f n : ℕ) → n < 10 ^ suc f → digits_by (suc f) n ≡ digits_by (suc (suc f)) n
unfolding digits_by
more_fuel zero n h = rw (lt-ltb n 10 h)
more_fuel (suc f) n h =
    let p : 10 ^ suc (suc f) ≡ 10 * 10 ^ suc f = pow-succ' 10 (suc f) in
    let t : n / 10 < 10 ^ suc f = omega arith in
    on (ltb n 10) (λ e. rw e) (λ e. rw e (ap (λ (l : List ℕ). l ++ ((48 + n % 10) ∷ [])) (more_fuel f (n / 10) t)))

pub digits_less : (n : ℕ) → n < 10 → digits n ≡ (48 + n) ∷ []
unfolding digits digits_by
digits_less n h = rw (lt-ltb n 10 h)

unrolled : (f n : ℕ) → ltb n 10 ≡ false → digits_by (suc f) n ≡ digits_by f (n / 10) ++ ((48 + n % 10) ∷ [])
unfolding digits_by
unrolled f n e = rw e

pub digits_more : (n : ℕ) → 10 ≤ n → n < 2 ^ 64 → digits n ≡ digits (n / 10) ++ ((48 + n % 10) ∷ [])
unfolding digits
digits_more n h g =
    let t : n / 10 < 10 ^ 19 = omega arith in
    unrolled 19 n (le-ltb n 10 h) ∙ ap (λ (l : List ℕ). l ++ ((48 + n % 10) ∷ [])) (more_fuel 18 (n / 10) t)

few : (f n : ℕ) → length (digits_by f n) ≤ f
unfolding digits_by
few zero n = omega arith
few (suc f) n = on (ltb n 10) (λ e. rw e (omega arith)) (λ e. rw e (omega (arith, few f (n / 10), length-append (digits_by f (n / 10)) ((48 + n % 10) ∷ []))))

pub digits_few : (n : ℕ) → length (digits n) ≤ 20
unfolding digits
digits_few n = few 20 n

-- ---- a digit stored behind those before it

stored : (a o o₁ : List ℕ) (i x : ℕ) → Put (length a) a o i o₁ → length a < length o → set o₁ i x ≡ over (a ++ (x ∷ [])) o
stored a o o₁ i x p h =
    let b = a ++ (x ∷ []) in
    let l : length b ≡ length a + 1 = length-append a (x ∷ []) in
    let n : length a ≡ i = sym p.count in
    let place : i ≡ length a + 0 = omega arith in
    let front : take i b ≡ a = take_at a (x ∷ []) i n in
    let here : get_or b i 0 ≡ x = ap (λ (k : ℕ). get_or b k 0) place ∙ get_or-append-add a (x ∷ []) 0 0 in
    let whole : take (i + 1) b ≡ b = take_all (i + 1) b (omega arith) in
    ap (λ (t : List ℕ). set t i x) p.left ∙ (rw (front, here, whole) at (over_more b o i (omega arith) (omega arith)))

pub digit_first : (n : ℕ) (o : List ℕ) → n < 10 → 20 ≤ length o → PutMost 20 (digits n) o 1 (set o 0 (48 + n))
digit_first n o h room =
    rw (digits_less n h)
    (record { put = record { count = refl; size = refl; left = stored [] o o 0 (48 + n) (record { count = refl; size = refl; left = sym (over_none o) }) (omega arith) }; within = omega arith })

-- there is always room for the last digit
pub digit_room : (n : ℕ) {o o₁ : List ℕ} {i : ℕ} → 10 ≤ n → n < 2 ^ 64 → 20 ≤ length o → PutMost 20 (digits (n / 10)) o i o₁ → i < length o₁
digit_room n {o} {o₁} {i} h g room p =
    let f : length (digits n) ≡ length (digits (n / 10)) + 1 = ap length (digits_more n h g) ∙ length-append (digits (n / 10)) ((48 + n % 10) ∷ []) in
    let k : length o₁ ≡ length o = ap length p.put.left ∙ length_over (digits (n / 10)) o (omega (arith, digits_few n)) in
    omega (arith, digits_few n, p.put.count)

pub digit_next : (n : ℕ) (o o₁ : List ℕ) (i : ℕ) → 10 ≤ n → n < 2 ^ 64 → 20 ≤ length o → PutMost 20 (digits (n / 10)) o i o₁ → PutMost 20 (digits n) o (i + 1) (set o₁ i (48 + n % 10))
digit_next n o o₁ i h g room p =
    let e = digits_more n h g in
    let a = digits (n / 10) in
    let x = 48 + n % 10 in
    let l : length (a ++ (x ∷ [])) ≡ length a + 1 = length-append a (x ∷ []) in
    let f : length (digits n) ≡ length a + 1 = ap length e ∙ l in
    let k = digits_few n in
    let c = p.put.count in
    rw e
    (record {
      put = record { count = omega arith; size = refl; left = stored a o o₁ i x p.put (omega arith) };
      within = omega arith;
    })
