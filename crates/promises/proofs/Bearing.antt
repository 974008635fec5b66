-- Laws of refusing with exactly these numbers: by tests, with a room that must hold what is written, and from one sort of input to another.
-- Assumes nothing.
use mathlib.Core.Path.{◌≡◌, refl, subst}
use mathlib.Core.List.{List, [], ◌∷◌, ◌++◌}
use mathlib.Core.Bool.{Bool, true, false, cond}
use Prim.Native.Nat.{ℕ, ◌<◌}
use native.Mathlib.Omega.{arith}
use borrow.Author.Tests.{eqb-true, eq-eqb, lt-ltb}
use lib.Dec.{ltb, eqb}
use Rattle.utf8.proofs.Tests.{never, on}
use Rattle.nts.specs.Refusal.{nothing, Refused}
use Rattle.layout.specs.Write.{Count, bytes, refused, fitted}
use Rattle.walk.specs.Judge as judge
use Rattle.promises.specs.Numbers.{In, All, Number, none, bears, Exactly, of_count, of_answer, room_numbers}

-- an answer that bears no other number than these
abbrev pub Only : List ℕ → Number → Type 0
Only l a = (n : ℕ) → a ≡ bears n → In n l

-- an input for which f bears n
abbrev Shown : {X : Type 0} → (X → Number) → ℕ → Type 0
Shown {X} f n = (x : X) × (f x ≡ bears n)

-- ---- one of these

-- what holds of all of them holds of each
pub in_all : (P : ℕ → Type 0) (l : List ℕ) → All P l → (n : ℕ) → In n l → P n
in_all P [] p n h = never h
in_all P (k ∷ l) p n h = on (eqb k n) (λ e. subst P (eqb-true k n e) p.0) (λ e. in_all P l p.1 n (rw e at h))

in_more : (l m : List ℕ) (n : ℕ) → In n l → In n (l ++ m)
in_more [] m n h = never h
in_more (k ∷ l) m n h = on (eqb k n) (λ e. rw e) (λ e. rw e (in_more l m n (rw e at h)))

in_last : (l : List ℕ) (n : ℕ) → In n (l ++ (n ∷ []))
in_last [] n = rw (eq-eqb n n refl)
in_last (k ∷ l) n = on (eqb k n) (λ e. rw e) (λ e. rw e (in_last l n))

all_map : (P Q : ℕ → Type 0) (l : List ℕ) → ((n : ℕ) → P n → Q n) → All P l → All Q l
all_map P Q [] f p = tt
all_map P Q (n ∷ l) f p = (f n p.0, all_map P Q l f p.1)

all_last : (P : ℕ → Type 0) (l : List ℕ) (n : ℕ) → All P l → P n → All P (l ++ (n ∷ []))
all_last P [] n p q = (q, tt)
all_last P (k ∷ l) n p q = (p.0, all_last P l n p.1 q)

-- ---- what an answer bears is one of these

abbrev pub Within : List ℕ → Number → Type 0
Within l none = Unit {0}
Within l (bears n) = In n l

pub only_of : (l : List ℕ) (a : Number) → Within l a → Only l a
only_of l none w n e = let z : ◌≡◌ {A = ℕ} 0 1 = cc in absurd (omega arith)
only_of l (bears k) w n e = let z : k ≡ n = cc in rw z at w

pub if_within : {A : Type 0} (f : A → Number) (l : List ℕ) (t : Bool) (a b : A) → Within l (f a) → Within l (f b) → Within l (f (cond t a b))
if_within f l true a b p q = p
if_within f l false a b p q = q

pub answer_only : {Q : Type 0 → Type 0} (l : List ℕ) (a : judge.Answer Q) → ((r : Refused) → a ≡ judge.refused r → In r.number l) → Only l (of_answer a)
answer_only l (judge.refused r) h = only_of l (bears r.number) (h r refl)
answer_only l (judge.accepted q) h = only_of l none tt

-- ---- a room that must hold what is written

pub fitted_within : (l : List ℕ) (room : ℕ) (a : Count) → In 10 l → Within l (of_count a) → Within l (of_count (fitted room a))
unfolding fitted
fitted_within l room (bytes n) t w = if_within of_count l (ltb room n) (refused 10 nothing) (bytes n) t tt
fitted_within l room (refused k b) t w = w

fitted_keeps : (room : ℕ) (a : Count) (n : ℕ) → of_count a ≡ bears n → of_count (fitted room a) ≡ bears n
unfolding fitted
fitted_keeps room (bytes k) n e = let z : ◌≡◌ {A = ℕ} 0 1 = cc in absurd (omega arith)
fitted_keeps room (refused k b) n e = e

within_of : (l : List ℕ) (a : Number) → Only l a → Within l a
within_of l none h = tt
within_of l (bears n) h = h n refl

-- a length, and something that it measures with at least one byte: then its writer bears those numbers and 10
pub with_room : {X : Type 0} (f : X → Count) (l : List ℕ) → Exactly (λ x. of_count (f x)) l → (x : X) (n : ℕ) → 0 < n → f x ≡ bytes n
    → Exactly (λ (y : X × ℕ). of_count (fitted y.1 (f y.0))) (l ++ (10 ∷ []))
unfolding fitted
with_room {X} f l p x n some e = record {
  only = λ y. only_of (l ++ (10 ∷ [])) (of_count (fitted y.1 (f y.0)))
      (fitted_within (l ++ (10 ∷ [])) y.1 (f y.0) (in_last l 10) (within_of (l ++ (10 ∷ [])) (of_count (f y.0)) (λ k q. in_more l (10 ∷ []) k (p.only y.0 k q))));
  each = all_last (Shown fits) l 10 (all_map (Shown (λ x. of_count (f x))) (Shown fits) l (λ k q. ((q.0, 0), fitted_keeps 0 (f q.0) k q.1)) p.each) ((x, 0), rw (e, lt-ltb 0 n some));
}
  where
    fits : X × ℕ → Number
    fits y = of_count (fitted y.1 (f y.0))

-- what is written is at least one byte long, and nothing else can be wrong
pub room_alone : {X : Type 0} (k : X → ℕ) (room : X → ℕ) (x : X) → room x < k x → Exactly (λ y. of_count (fitted (room y) (bytes (k y)))) room_numbers
unfolding fitted
room_alone k room x h = record {
  only = λ y. only_of room_numbers (of_count (fitted (room y) (bytes (k y)))) (fitted_within room_numbers (room y) (bytes (k y)) refl tt);
  each = ((x, rw (lt-ltb (room x) (k x) h)), tt);
}

-- ---- another sort of input

-- examples of one sort are examples of a wider one
pub wider : {X Y : Type 0} (f : X → Number) (g : Y → X) (l : List ℕ) → ((x : X) → Only l (f x)) → Exactly (λ y. f (g y)) l → Exactly f l
wider f g l only p = record { only = only; each = all_map (Shown (λ y. f (g y))) (Shown f) l (λ n q. (g q.0, q.1)) p.each }
