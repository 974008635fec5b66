-- One record more: of what is met, of what is noted, and of the cells that stand for what is met.
-- Assumes nothing.
use mathlib.Core.Path.{◌≡◌, refl, sym, ap, ◌∙◌}
use mathlib.Core.List.{List, [], ◌∷◌, ◌++◌, append-nil}
use mathlib.Core.Bool.{Bool, true, false, cond, ◌&&◌, true≢false}
use Prim.Native.Nat.{ℕ, zero, suc, ◌+◌, ◌*◌, ◌<◌, ◌≤◌}
use native.Mathlib.Omega.{arith}
use lib.ListN.{length, get_or, set, length-append, length-set}
use lib.Seq.{get_or-set_same, get_or-set_other}
use lib.Dec.{ltb, eqb}
use borrow.Author.Tests.{eqb-true, eqb-false, ne_eqb, lt-ltb}
use Rattle.layout.specs.Profile.{knows}
use Rattle.record.specs.Record.{kind, size}
use Rattle.walk.specs.Walk.{Sighting, has}
use Rattle.walk.specs.Judge.{of_kind, some}
use Rattle.walk.proofs.Noted.{kind_append, sighting, kind_more, has_some}
use Rattle.walk.specs.Rules.{Rules, entry_of, is_noted, reader_of}
use Rattle.walk.specs.Shown.{mark_at, slot_of, counted}
use Rattle.walk.specs.Found.{seen_of, entry_in, Stands}
use Rattle.walk.specs.Code.{put_in, more_in}
use Rattle.walk.specs.declared.Seen.{Seen}
use Rattle.layout.specs.declared.Profile.{Profile}
use Rattle.layout.proofs.Profiles.{eleven_unknown}
use Rattle.walk.proofs.Meeting.{more_of}

-- ---- what is noted

-- of the kinds that the table notes, the same records were noted as met
unfoldable pub Kept : Rules → List Sighting → List Sighting → Type 0
Kept rules st sh = (k : ℕ) → knows rules.profile k ≡ true → is_noted (entry_of rules k) ≡ true → of_kind k st ≡ of_kind k sh

pub kept_start : (rules : Rules) → Kept rules [] []
unfolding Kept
kept_start rules k kn nt = refl

eleven : (P : Profile) (k : ℕ) → knows P k ≡ true → eqb 11 k ≡ false
eleven P k h = ne_eqb 11 k (λ e. true≢false (sym h ∙ ap (knows P) (sym e) ∙ eleven_unknown P))

pub kept_more : (rules : Rules) (st sh : List Sighting) (at : ℕ) (t : List ℕ) → Kept rules st sh → Kept rules (st ++ more_of rules at (kind t) (size t)) (sh ++ (counted (reader_of rules).shape (mark_at at t) ∷ []))
unfolding Kept more_of slot_of knows
kept_more rules st sh at t h k kn nt =
    kind_append k st (more_of rules at (kind t) (size t))
    ∙ ap (λ (l : List Sighting). l ++ of_kind k (more_of rules at (kind t) (size t))) (h k kn nt)
    ∙ ap (λ (l : List Sighting). of_kind k sh ++ l) (go (knows rules.profile (kind t)) (is_noted (entry_of rules (kind t))) refl refl)
    ∙ sym (kind_more k sh (counted (reader_of rules).shape (mark_at at t)))
  where
    none_of : (b : Bool) (l : List Sighting) → b ≡ false → [] ≡ cond b l []
    none_of true l e = absurd (true≢false e)
    none_of false l e = refl

    go : (a b : Bool) → knows rules.profile (kind t) ≡ a → is_noted (entry_of rules (kind t)) ≡ b → of_kind k (cond (a && b) (sighting (kind t) at (size t) ∷ []) []) ≡ cond (eqb (cond a (kind t) 11) k) (record { of = cond a (kind t) 11; start = at + 4; len = size t } ∷ []) []
    go true true u v = refl
    go true false u v = none_of (eqb (kind t) k) _ (ne_eqb (kind t) k (λ q. true≢false (sym nt ∙ ap (λ (j : ℕ). is_noted (entry_of rules j)) (sym q) ∙ v)))
    go false true u v = none_of (eqb 11 k) _ (eleven rules.profile k kn)
    go false false u v = none_of (eqb 11 k) _ (eleven rules.profile k kn)

-- ---- what is met

none_count : (l : List Sighting) → ltb 0 (seen_of l).count ≡ some l
none_count [] = refl
none_count (x ∷ l) = lt-ltb 0 (suc (length l)) (omega arith)

abbrev one_more : Seen → ℕ → ℕ → Seen
one_more x start n = cond (eqb x.count 0) (record { count = 1; start = start; len = n }) (record { count = x.count + 1; start = x.start; len = x.len })

one_more_lem : (l : List Sighting) (x : Sighting) → one_more (seen_of l) x.start x.len ≡ seen_of (l ++ (x ∷ []))
one_more_lem [] x = refl
one_more_lem (y ∷ l) x =
    let n : suc (length (l ++ (x ∷ []))) ≡ suc (length l) + 1 = omega (arith, length-append l (x ∷ [])) in
    rw (ne_eqb (suc (length l)) 0 (λ q. omega arith), n)

zeros : ℕ → List ℕ
zeros zero = []
zeros (suc n) = 0 ∷ zeros n

zero_at : (n j : ℕ) → get_or (zeros n) j 0 ≡ 0
unfolding zeros
zero_at zero j = refl
zero_at (suc n) zero = refl
zero_at (suc n) (suc j) = zero_at n j

pub stands_start : Stands (0 ∷ 0 ∷ 0 ∷ 0 ∷ 0 ∷ 0 ∷ 0 ∷ 0 ∷ 0 ∷ 0 ∷ 0 ∷ 0 ∷ 0 ∷ 0 ∷ 0 ∷ 0 ∷ 0 ∷ 0 ∷ 0 ∷ 0 ∷ 0 ∷ 0 ∷ 0 ∷ 0 ∷ 0 ∷ 0 ∷ 0 ∷ 0 ∷ 0 ∷ 0 ∷ 0 ∷ 0 ∷ 0 ∷ 0 ∷ 0 ∷ 0 ∷ 0 ∷ 0 ∷ 0 ∷ 0 ∷ 0 ∷ 0 ∷ 0 ∷ 0 ∷ 0 ∷ []) []
unfolding zeros
stands_start = record { all = refl; each = λ j h. λ i. record { count = zero_at 45 (j * 3) i; start = zero_at 45 (j * 3 + 1) i; len = zero_at 45 (j * 3 + 2) i } }

-- three cells
module _ (c : List ℕ) (a b d : ℕ) (x y z : ℕ) where
  three : List ℕ
  three = set (set (set c a x) b y) d z

  apart : (i : ℕ) → (i ≡ a → ⊥) → (i ≡ b → ⊥) → (i ≡ d → ⊥) → get_or three i 0 ≡ get_or c i 0
  unfolding three
  apart i p q r = get_or-set_other (set (set c a x) b y) d i z 0 r ∙ get_or-set_other (set c a x) b i y 0 q ∙ get_or-set_other c a i x 0 p

  third : d < length c → get_or three d 0 ≡ z
  unfolding three
  third h = get_or-set_same (set (set c a x) b y) d z 0 (omega (arith, length-set (set c a x) b y, length-set c a x))

  second : (b ≡ d → ⊥) → b < length c → get_or three b 0 ≡ y
  unfolding three
  second n h = get_or-set_other (set (set c a x) b y) d b z 0 n ∙ get_or-set_same (set c a x) b y 0 (omega (arith, length-set c a x))

  first : (a ≡ b → ⊥) → (a ≡ d → ⊥) → a < length c → get_or three a 0 ≡ x
  unfolding three
  first n m h = get_or-set_other (set (set c a x) b y) d a z 0 m ∙ get_or-set_other (set c a x) b a y 0 n ∙ get_or-set_same c a x 0 h

  long : length three ≡ length c
  unfolding three
  long = length-set (set (set c a x) b y) d z ∙ length-set (set c a x) b y ∙ length-set c a x

put_same : (c : List ℕ) (j : ℕ) (v : Seen) → length c ≡ 45 → j < 15 → entry_in (put_in c j v) j ≡ v
unfolding three
put_same c j v l h =
    let p = first c (j * 3) (j * 3 + 1) (j * 3 + 2) v.count v.start v.len (λ q. omega arith) (λ q. omega arith) (omega arith) in
    let q = second c (j * 3) (j * 3 + 1) (j * 3 + 2) v.count v.start v.len (λ q. omega arith) (omega arith) in
    let r = third c (j * 3) (j * 3 + 1) (j * 3 + 2) v.count v.start v.len (omega arith) in
    λ i. record { count = p i; start = q i; len = r i }

put_other : (c : List ℕ) (j k : ℕ) (v : Seen) → (k ≡ j → ⊥) → entry_in (put_in c j v) k ≡ entry_in c k
unfolding three
put_other c j k v n =
    let at : (i : ℕ) → (i ≡ j * 3 → ⊥) → (i ≡ j * 3 + 1 → ⊥) → (i ≡ j * 3 + 2 → ⊥) → _ = apart c (j * 3) (j * 3 + 1) (j * 3 + 2) v.count v.start v.len in
    let p = at (k * 3) (λ q. n (omega arith)) (λ q. n (omega arith)) (λ q. n (omega arith)) in
    let q = at (k * 3 + 1) (λ q. n (omega arith)) (λ q. n (omega arith)) (λ q. n (omega arith)) in
    let r = at (k * 3 + 2) (λ q. n (omega arith)) (λ q. n (omega arith)) (λ q. n (omega arith)) in
    λ i. record { count = p i; start = q i; len = r i }

-- one more: three cells, or the count alone
more_same : (c : List ℕ) (j start n : ℕ) → length c ≡ 45 → j < 15 → entry_in (more_in c j start n) j ≡ one_more (entry_in c j) start n
more_same c j start n l h = go (eqb (get_or c (j * 3) 0) 0)
  where
    go : (b : Bool) → entry_in (cond b (put_in c j (record { count = 1; start = start; len = n })) (set c (j * 3) (get_or c (j * 3) 0 + 1))) j ≡ cond b (record { count = 1; start = start; len = n }) (record { count = get_or c (j * 3) 0 + 1; start = get_or c (j * 3 + 1) 0; len = get_or c (j * 3 + 2) 0 })
    go true = put_same c j (record { count = 1; start = start; len = n }) l h
    go false =
        let p = get_or-set_same c (j * 3) (get_or c (j * 3) 0 + 1) 0 (omega arith) in
        let q = get_or-set_other c (j * 3) (j * 3 + 1) (get_or c (j * 3) 0 + 1) 0 (λ q. omega arith) in
        let r = get_or-set_other c (j * 3) (j * 3 + 2) (get_or c (j * 3) 0 + 1) 0 (λ q. omega arith) in
        λ i. record { count = p i; start = q i; len = r i }

more_other : (c : List ℕ) (j k start n : ℕ) → (k ≡ j → ⊥) → entry_in (more_in c j start n) k ≡ entry_in c k
more_other c j k start n h = go (eqb (get_or c (j * 3) 0) 0)
  where
    go : (b : Bool) → entry_in (cond b (put_in c j (record { count = 1; start = start; len = n })) (set c (j * 3) (get_or c (j * 3) 0 + 1))) k ≡ entry_in c k
    go true = put_other c j k (record { count = 1; start = start; len = n }) h
    go false =
        let p = get_or-set_other c (j * 3) (k * 3) (get_or c (j * 3) 0 + 1) 0 (λ q. h (omega arith)) in
        let q = get_or-set_other c (j * 3) (k * 3 + 1) (get_or c (j * 3) 0 + 1) 0 (λ q. h (omega arith)) in
        let r = get_or-set_other c (j * 3) (k * 3 + 2) (get_or c (j * 3) 0 + 1) 0 (λ q. h (omega arith)) in
        λ i. record { count = p i; start = q i; len = r i }

more_long : (c : List ℕ) (j start n : ℕ) → length (more_in c j start n) ≡ length c
unfolding three
more_long c j start n = go (eqb (get_or c (j * 3) 0) 0)
  where
    go : (b : Bool) → length (cond b (put_in c j (record { count = 1; start = start; len = n })) (set c (j * 3) (get_or c (j * 3) 0 + 1))) ≡ length c
    go true = long c (j * 3) (j * 3 + 1) (j * 3 + 2) 1 start n
    go false = length-set c (j * 3) (get_or c (j * 3) 0 + 1)

pub stands_more : (c : List ℕ) (sh : List Sighting) (j : ℕ) (x : Sighting) → x.of ≡ j → j < 15 → Stands c sh → Stands (more_in c j x.start x.len) (sh ++ (x ∷ []))
stands_more c sh j x o h s = record {
  all = more_long c j x.start x.len ∙ s.all;
  each = λ i l. go i l (eqb x.of i) refl;
}
  where
    go : (i : ℕ) → i < 15 → (b : Bool) → eqb x.of i ≡ b → entry_in (more_in c j x.start x.len) i ≡ seen_of (of_kind i (sh ++ (x ∷ [])))
    go i l true e =
        let q : i ≡ j = sym (eqb-true x.of i e) ∙ o in
        ap (entry_in (more_in c j x.start x.len)) q
        ∙ more_same c j x.start x.len s.all h
        ∙ ap (λ (v : Seen). one_more v x.start x.len) (s.each j h)
        ∙ one_more_lem (of_kind j sh) x
        ∙ ap (λ (k : ℕ). seen_of (of_kind k sh ++ (x ∷ []))) (sym q)
        ∙ ap (λ (t : Bool). seen_of (of_kind i sh ++ cond t (x ∷ []) [])) (sym e)
        ∙ ap seen_of (sym (kind_more i sh x))
    go i l false e =
        more_other c j i x.start x.len (λ q. eqb-false x.of i e (o ∙ sym q))
        ∙ s.each i l
        ∙ ap seen_of (sym (append-nil (of_kind i sh)))
        ∙ ap (λ (t : Bool). seen_of (of_kind i sh ++ cond t (x ∷ []) [])) (sym e)
        ∙ ap seen_of (sym (kind_more i sh x))

-- whether a record of a noted kind was met before, by the count
pub has_count : (rules : Rules) (st sh : List Sighting) (f : List ℕ) (k : ℕ) → Kept rules st sh → Stands f sh → knows rules.profile k ≡ true → k < 15 → is_noted (entry_of rules k) ≡ true → has k st ≡ ltb 0 (entry_in f k).count
unfolding Kept
has_count rules st sh f k h s kn l nt = has_some k st ∙ ap some (h k kn nt) ∙ sym (none_count (of_kind k sh)) ∙ ap (λ (v : Seen). ltb 0 v.count) (sym (s.each k l))

-- there are no more records of a kind than records
pub few_kind : (k : ℕ) (l : List Sighting) → length (of_kind k l) ≤ length l
few_kind k [] = omega arith
few_kind k (x ∷ l) = go (eqb x.of k) (few_kind k l)
  where
    go : (b : Bool) → length (of_kind k l) ≤ length l → length (cond b (x ∷ of_kind k l) (of_kind k l)) ≤ suc (length l)
    go true h = omega arith
    go false h = omega arith

count_length : (l : List Sighting) → (seen_of l).count ≡ length l
count_length [] = refl
count_length (x ∷ l) = refl

pub count_few : (f : List ℕ) (sh : List Sighting) (j : ℕ) → j < 15 → Stands f sh → (entry_in f j).count ≤ length sh
count_few f sh j h s =
    let n : (entry_in f j).count ≡ length (of_kind j sh) = ap (λ (v : Seen). v.count) (s.each j h) ∙ count_length (of_kind j sh) in
    omega (arith, n, few_kind j sh)
