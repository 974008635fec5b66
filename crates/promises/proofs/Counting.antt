-- The counts of a finding are the numbers of the listing's record lines, by type, and their sum is the number of those lines.
-- Assumes nothing.
use mathlib.Core.Path.{◌≡◌, refl, sym, ap, ◌∙◌}
use mathlib.Core.List.{List, [], ◌∷◌, ◌++◌, map}
use mathlib.Core.Bool.{Bool, true, false, cond, not, true≢false}
use Prim.Native.Nat.{ℕ, zero, suc, ◌+◌, ◌/◌, ◌%◌, ◌<◌, ◌≤◌}
use native.Mathlib.Omega.{arith}
use lib.ListN.{length, take}
use lib.Dec.{ltb, eqb}
use borrow.Author.Tests.{eqb-true, eqb-false, ne_eqb, ltb-true, ltb-false}
use Rattle.nts.specs.Refusal.{Beside, nothing, code, protocol, algorithm}
use Rattle.walk.specs.Walk.{Sighting}
use Rattle.walk.specs.Judge.{of_kind}
use Rattle.layout.specs.Profile.{shape_in, knows}
use Rattle.layout.specs.declared.Profile.TheVariants.{Usual}
use Rattle.layout.proofs.Profiles.{eleven_unknown, knows_below}
use Rattle.walk.specs.Shown.{Mark, shown, slot_of, counted}
use Rattle.walk.specs.Found.{seen_of}
use Rattle.walk.specs.Finding.{cells_from}
use Rattle.walk.specs.declared.Seen.{Seen}
use Rattle.walk.proofs.Looking.{slot_below}
use Rattle.walk.proofs.Telling.{told_stands}
use Rattle.request.specs.Request.{reader, request, Told, key_exchange_is, fixed_key_is, support_is, refused_with, told_by}
use Rattle.listing.specs.Listing.{newline, digits_by, digits, heading, mark, record_line, line_of, lines_of, protocols_text, algorithms_text, denied_text, refused_text, at_text, code_text, beside_text, answer_text, listing}
use Rattle.promises.specs.Findings.{count_of, is_of, is_other, count_at, sum_of, lines_in}

-- ---- one kind

seen_count : (l : List Sighting) → (seen_of l).count ≡ length l
seen_count [] = refl
seen_count (x ∷ l) = refl

count_is : (l : List Sighting) (k : ℕ) → k < 15 → count_at (cells_from 0 15 l) k ≡ length (of_kind k l)
count_is l k h = ap (λ (v : Seen). v.count) ((told_stands l).each k h) ∙ seen_count (of_kind k l)

-- by a test that says where a record is counted
marks_count : (test : Mark → Bool) (k : ℕ) → ((x : Mark) → eqb (slot_of (shape_in Usual) x.kind) k ≡ test x) → (l : List Mark) → length (of_kind k (map (counted (shape_in Usual)) l)) ≡ count_of test l
marks_count test k h [] = refl
marks_count test k h (x ∷ l) = rw (h x) (go (test x) (marks_count test k h l))
  where
    go : (b : Bool) → length (of_kind k (map (counted (shape_in Usual)) l)) ≡ count_of test l → length (cond b (counted (shape_in Usual) x ∷ of_kind k (map (counted (shape_in Usual)) l)) (of_kind k (map (counted (shape_in Usual)) l))) ≡ cond b (suc (count_of test l)) (count_of test l)
    go true e = ap suc e
    go false e = e

not_eleven : (k : ℕ) → knows Usual k ≡ true → k ≡ 11 → ⊥
not_eleven k h e = true≢false (sym h ∙ ap (knows Usual) e ∙ eleven_unknown Usual)

known_slot : (k : ℕ) → knows Usual k ≡ true → (x : Mark) → eqb (slot_of (shape_in Usual) x.kind) k ≡ is_of k x
unfolding slot_of knows
known_slot k h x = go (knows Usual x.kind) refl
  where
    go : (b : Bool) → knows Usual x.kind ≡ b → eqb (cond b x.kind 11) k ≡ eqb x.kind k
    go true e = refl
    go false e = ne_eqb 11 k (λ q. not_eleven k h (sym q)) ∙ sym (ne_eqb x.kind k (λ q. true≢false (sym h ∙ ap (knows Usual) (sym q) ∙ e)))

other_slot : (x : Mark) → eqb (slot_of (shape_in Usual) x.kind) 11 ≡ is_other x
unfolding slot_of knows
other_slot x = go (knows Usual x.kind) refl
  where
    go : (b : Bool) → knows Usual x.kind ≡ b → eqb (cond b x.kind 11) 11 ≡ not b
    go true e = ne_eqb x.kind 11 (not_eleven x.kind e)
    go false e = refl

module _ (l : List Mark) where
  abbrev cells : List ℕ
  cells = cells_from 0 15 (map (counted (shape_in Usual)) l)

  pub kind_counted : (k : ℕ) → knows Usual k ≡ true → count_at cells k ≡ count_of (is_of k) l
  kind_counted k kn = count_is (map (counted (shape_in Usual)) l) k (knows_below Usual k kn) ∙ marks_count (is_of k) k (known_slot k kn) l

  pub others_counted : count_at cells 11 ≡ count_of is_other l
  others_counted = count_is (map (counted (shape_in Usual)) l) 11 (omega arith) ∙ marks_count is_other 11 other_slot l

-- ---- all of them

-- the records of the kinds below n
below : ℕ → List Sighting → ℕ
below zero l = 0
below (suc n) l = below n l + length (of_kind n l)

sum_below : (l : List Sighting) (n : ℕ) → n ≤ 15 → sum_of (cells_from 0 15 l) n ≡ below n l
unfolding below
sum_below l zero h = refl
sum_below l (suc n) h = omega (arith, sum_below l n (omega arith), count_is l n (omega arith))

one_below : (x : Sighting) (l : List Sighting) (n : ℕ) → below n (x ∷ l) ≡ below n l + cond (ltb x.of n) 1 0
unfolding below
one_below x l zero = omega (arith, none (ltb x.of 0) refl)
  where
    none : (b : Bool) → ltb x.of 0 ≡ b → ◌≡◌ {A = ℕ} (cond b 1 0) 0
    none true e = absurd (omega (arith, ltb-true x.of 0 e))
    none false e = refl
one_below x l (suc n) = go (eqb x.of n) (ltb x.of n) (ltb x.of (suc n)) refl refl refl (one_below x l n)
  where
    go : (b c d : Bool) → eqb x.of n ≡ b → ltb x.of n ≡ c → ltb x.of (suc n) ≡ d → below n (x ∷ l) ≡ below n l + cond c 1 0
        → below n (x ∷ l) + length (cond b (x ∷ of_kind n l) (of_kind n l)) ≡ below n l + length (of_kind n l) + cond d 1 0
    go true true d p q r h = absurd (omega (arith, eqb-true x.of n p, ltb-true x.of n q))
    go true false true p q r h = omega (arith, h)
    go true false false p q r h = absurd (omega (arith, eqb-true x.of n p, ltb-false x.of (suc n) r))
    go false true true p q r h = omega (arith, h)
    go false true false p q r h = absurd (omega (arith, ltb-true x.of n q, ltb-false x.of (suc n) r))
    go false false true p q r h = let z = eqb-false x.of n p in absurd (z (omega (arith, ltb-false x.of n q, ltb-true x.of (suc n) r)))
    go false false false p q r h = omega (arith, h)

all_below : (l : List Mark) → below 15 (map (counted (shape_in Usual)) l) ≡ length l
unfolding below
all_below [] = refl
all_below (x ∷ l) =
    let s = slot_below (record { profile = Usual; entries = [] }) (slot_of (shape_in Usual) x.kind) x.kind refl in
    one_below (counted (shape_in Usual) x) (map (counted (shape_in Usual)) l) 15 ∙ go (ltb (slot_of (shape_in Usual) x.kind) 15) refl s (all_below l)
  where
    go : (b : Bool) → ltb (slot_of (shape_in Usual) x.kind) 15 ≡ b → slot_of (shape_in Usual) x.kind < 15 → below 15 (map (counted (shape_in Usual)) l) ≡ length l → below 15 (map (counted (shape_in Usual)) l) + cond b 1 0 ≡ suc (length l)
    go true e s h = omega (arith, h)
    go false e s h = absurd (omega (arith, ltb-false (slot_of (shape_in Usual) x.kind) 15 e))

pub counts_sum : (l : List Mark) → sum_of (cells_from 0 15 (map (counted (shape_in Usual)) l)) 15 ≡ length l
counts_sum l = sum_below (map (counted (shape_in Usual)) l) 15 (omega arith) ∙ all_below l

-- ---- lines of text

pub lines_append : (a b : List ℕ) → lines_in (a ++ b) ≡ lines_in a + lines_in b
lines_append [] b = omega arith
lines_append (x ∷ a) b = go (eqb x 10) (lines_append a b)
  where
    go : (t : Bool) → lines_in (a ++ b) ≡ lines_in a + lines_in b → cond t (suc (lines_in (a ++ b))) (lines_in (a ++ b)) ≡ cond t (suc (lines_in a)) (lines_in a) + lines_in b
    go true h = omega (arith, h)
    go false h = h

-- a number is written without a newline
digits_by_lem : (f n : ℕ) → lines_in (digits_by f n) ≡ 0
unfolding digits_by
digits_by_lem zero n = refl
digits_by_lem (suc f) n = go (ltb n 10) (digits_by_lem f (n / 10))
  where
    one : (d : ℕ) → lines_in ((48 + d) ∷ []) ≡ 0
    one d = rw (ne_eqb (48 + d) 10 (λ q. omega arith))

    go : (b : Bool) → lines_in (digits_by f (n / 10)) ≡ 0 → lines_in (cond b ((48 + n) ∷ []) (digits_by f (n / 10) ++ ((48 + n % 10) ∷ []))) ≡ 0
    go true h = one n
    go false h = lines_append (digits_by f (n / 10)) ((48 + n % 10) ∷ []) ∙ omega (arith, h, one (n % 10))

digits_none : (n : ℕ) → lines_in (digits n) ≡ 0
unfolding digits
digits_none n = digits_by_lem 20 n

-- so a record's line is one
line_one : (x : Mark) → lines_in (line_of x) ≡ 1
unfolding record_line
line_one x =
    lines_append (digits x.place) _
    ∙ omega (arith, digits_none x.place, behind)
  where
    size : lines_in (digits x.size ++ (10 ∷ [])) ≡ 1
    size = lines_append (digits x.size) (10 ∷ []) ∙ omega (arith, digits_none x.size)

    bit : (b : Bool) → lines_in (32 ∷ mark b ∷ 32 ∷ (digits x.size ++ (10 ∷ []))) ≡ 1
    bit true = size
    bit false = size

    behind : lines_in (32 ∷ (digits x.kind ++ (32 ∷ mark x.critical ∷ 32 ∷ (digits x.size ++ (10 ∷ []))))) ≡ 1
    behind = lines_append (digits x.kind) _ ∙ omega (arith, digits_none x.kind, bit x.critical)

pub lines_length : (l : List Mark) → lines_in (lines_of l) ≡ length l
lines_length [] = refl
lines_length (x ∷ l) = lines_append (line_of x) (lines_of l) ∙ omega (arith, line_one x, lines_length l)

-- ---- the whole listing

-- a text without a newline before another
then : (t u : List ℕ) → lines_in t ≡ 0 → lines_in (t ++ u) ≡ lines_in u
then t u e = lines_append t u ∙ ap (λ (k : ℕ). k + lines_in u) e ∙ omega arith

code_none : (n : ℕ) → lines_in (code_text ++ digits n) ≡ 0
code_none n = then code_text (digits n) refl ∙ digits_none n

beside_none : (b : Beside) → lines_in (beside_text b) ≡ 0
beside_none nothing = refl
beside_none (code n) = code_none n
beside_none (protocol n) = code_none n
beside_none (algorithm n) = code_none n

answer_none : (t : Told) → lines_in (answer_text t) ≡ 0
answer_none (key_exchange_is p a d) =
    then protocols_text (digits (p.len / 2) ++ (algorithms_text ++ (digits (a.len / 2) ++ (denied_text ++ digits d)))) refl
    ∙ then (digits (p.len / 2)) (algorithms_text ++ (digits (a.len / 2) ++ (denied_text ++ digits d))) (digits_none (p.len / 2))
    ∙ then algorithms_text (digits (a.len / 2) ++ (denied_text ++ digits d)) refl
    ∙ then (digits (a.len / 2)) (denied_text ++ digits d) (digits_none (a.len / 2))
    ∙ then denied_text (digits d) refl
    ∙ digits_none d
answer_none (fixed_key_is u c s a p k) = refl
answer_none (support_is u p a k) = refl
answer_none (refused_with r) =
    then refused_text (digits r.number ++ (at_text ++ (digits r.place ++ beside_text r.beside))) refl
    ∙ then (digits r.number) (at_text ++ (digits r.place ++ beside_text r.beside)) (digits_none r.number)
    ∙ then at_text (digits r.place ++ beside_text r.beside) refl
    ∙ then (digits r.place) (beside_text r.beside) (digits_none r.place)
    ∙ beside_none r.beside

pub listing_has : (m : List ℕ) (n room : ℕ) → lines_in (listing m n room) ≡ lines_in (lines_of (shown (reader Usual) [] 0 0 (take n m))) + 2
unfolding listing
listing_has m n room =
    let lines = lines_of (shown (reader Usual) [] 0 0 (take n m)) in
    let last = answer_text (told_by m (request Usual m n room)) in
    lines_append heading (lines ++ (last ++ (newline ∷ [])))
    ∙ omega (arith, lines_append lines (last ++ (newline ∷ [])), lines_append last (newline ∷ []), answer_none (told_by m (request Usual m n room)))
