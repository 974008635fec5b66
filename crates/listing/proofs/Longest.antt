-- No listing of a message of sixteen bits' length is longer than 262,272 bytes: a record's line has at most four times the bytes that the record
-- takes, the heading has 20 and the last line at most 112.
-- Assumes nothing.
use mathlib.Core.Path.{◌≡◌}
use mathlib.Core.Bool.{Bool}
use mathlib.Core.List.{List, [], ◌∷◌, ◌++◌}
use Prim.Native.Nat.{ℕ, zero, suc, ◌+◌, ◌*◌, ◌/◌, ◌%◌, ◌<◌, ◌≤◌, ◌^◌}
use native.Mathlib.Nat.{pow-succ'}
use native.Mathlib.Omega.{arith}
use borrow.Author.Tests.{ltb-false, lt-ltb, eqb-true}
use lib.Dec.{ltb, eqb}
use lib.ListN.{length, take, length-append, length-take}
use Rattle.nts.specs.Refusal.{Beside, nothing, code, protocol, algorithm}
use Rattle.layout.specs.declared.Profile.TheVariants.{Usual}
use Rattle.record.specs.Record.{kind, kind_of, critical, size}
use Rattle.walk.specs.Walk.{Reader, Sighting, Step, stops, goes, step, fault_in}
use Rattle.walk.specs.Shown.{Mark, mark_at, shown}
use Rattle.walk.proofs.Faultless.{faultless_whole}
use Rattle.request.specs.Request.{reader, request, Told, key_exchange_is, fixed_key_is, support_is, refused_with, told_by}
use Rattle.listing.specs.Listing.{digits_by, digits, record_line, lines_of, code_text, beside_text, answer_text, listing}
use Rattle.listing.proofs.Digits.{on, digits_few}

-- ---- numbers

-- a number below 10 ^ suc f has at most so many digits
below : (f g n : ℕ) → n < 10 ^ suc f → length (digits_by g n) ≤ suc f
unfolding digits_by
below f zero n h = omega arith
below zero (suc g) n h = rw (lt-ltb n 10 h) (omega arith)
below (suc f) (suc g) n h =
    let p : 10 ^ suc (suc f) ≡ 10 * 10 ^ suc f = pow-succ' 10 (suc f) in
    let t : n / 10 < 10 ^ suc f = omega arith in
    on (ltb n 10)
    (λ e. rw e (omega arith))
    (λ e. rw e (omega (arith, below f g (n / 10) t, length-append (digits_by g (n / 10)) ((48 + n % 10) ∷ []))))

five : (n : ℕ) → n < 100000 → length (digits n) ≤ 5
unfolding digits
five n h = below 4 20 n h

-- .. and at most one more than the number itself
no_more : (g n : ℕ) → length (digits_by g n) ≤ suc n
unfolding digits_by
no_more zero n = omega arith
no_more (suc g) n =
    on (ltb n 10)
    (λ e. rw e (omega arith))
    (λ e. rw e (omega (arith, ltb-false n 10 e, no_more g (n / 10), length-append (digits_by g (n / 10)) ((48 + n % 10) ∷ []))))

-- ---- the lines of the records

line_long : (at k : ℕ) (bit : Bool) (n : ℕ) → at ≤ 65535 → k < 32768 → length (record_line at k bit n) ≤ 16 + n
unfolding record_line digits
line_long at k bit n h l =
    let a = five at (omega arith) in
    let b = five k (omega arith) in
    let c = no_more 20 n in
    simp length-append (omega arith)

kind_small : (s : List ℕ) → kind s < 32768
unfolding kind kind_of
kind_small s = omega arith

-- those from s on, of which the first k bytes belong to a record already met: the next one is at a place that keeps the message's end within 65,535
lines_long : (R : Reader) (st : List Sighting) (at k : ℕ) (s : List ℕ) → k ≤ length s → at + length s ≤ 65535 + k → length (lines_of (shown R st at k s)) + 4 * k ≤ 4 * length s
unfolding shown
lines_long R st at zero [] h l = omega arith
lines_long R st at (suc k) [] h l = absurd (let z : ⊥ = omega arith in z)
lines_long R st at (suc k) (b ∷ s) h l = let r = lines_long R st at k s (omega arith) (omega arith) in omega arith
lines_long R st at zero (b ∷ s) h l =
    on (eqb (fault_in R (b ∷ s)) 0)
    (λ e.
    let w = faultless_whole R (b ∷ s) (eqb-true (fault_in R (b ∷ s)) 0 e) in
    rw e (met w (step R st at (b ∷ s)) (λ st'. lines_long R st' (at + (4 + size (b ∷ s))) (3 + size (b ∷ s)) s (omega arith) (omega arith))))
    (λ e. rw e (omega arith))
  where
    met : 4 + size (b ∷ s) ≤ suc (length s) → (x : Step) → ((st' : List Sighting) → length (lines_of (shown R st' (at + (4 + size (b ∷ s))) (3 + size (b ∷ s)) s)) + 4 * (3 + size (b ∷ s)) ≤ 4 * length s)
        → length (lines_of (mark_at at (b ∷ s) ∷ elim x as (λ (y : Step). List Mark) [ stops o ↦ [] | goes st' ↦ shown R st' (at + (4 + size (b ∷ s))) (3 + size (b ∷ s)) s ])) + 4 * 0 ≤ 4 * suc (length s)
    met w (stops o) f = let a = line_long at (kind (b ∷ s)) (critical (b ∷ s)) (size (b ∷ s)) (omega arith) (kind_small (b ∷ s)) in simp length-append (omega arith)
    met w (goes st') f = let a = line_long at (kind (b ∷ s)) (critical (b ∷ s)) (size (b ∷ s)) (omega arith) (kind_small (b ∷ s)) in let c = f st' in simp length-append (omega arith)

-- ---- the last line

code_long : (n : ℕ) → length (code_text ++ digits n) ≤ 26
code_long n = simp length-append (omega (arith, digits_few n))

beside_long : (b : Beside) → length (beside_text b) ≤ 26
beside_long nothing = omega arith
beside_long (code n) = code_long n
beside_long (protocol n) = code_long n
beside_long (algorithm n) = code_long n

last_long : (t : Told) → length (answer_text t) ≤ 111
last_long (key_exchange_is p a d) = simp length-append (omega (arith, digits_few (p.len / 2), digits_few (a.len / 2), digits_few d))
last_long (fixed_key_is u c s a p k) = omega arith
last_long (support_is u p a k) = omega arith
last_long (refused_with r) = simp length-append (omega (arith, digits_few r.number, digits_few r.place, beside_long r.beside))

-- ---- the whole listing

pub listing_longest : (m : List ℕ) (n room : ℕ) → n ≤ 65535 → length (listing m n room) ≤ 262272
unfolding listing
listing_longest m n room h =
    let cut : length (take n m) ≤ n = simp length-take (omega arith) in
    let lines = lines_long (reader Usual) [] 0 0 (take n m) (omega arith) (omega arith) in
    let last = last_long (told_by m (request Usual m n room)) in
    simp length-append (omega arith)
