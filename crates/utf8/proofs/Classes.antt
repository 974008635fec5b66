-- The table of classes: that a table has at each of the 256 bytes the class of 01's rule is one test, which antt computes, and what its class
-- says of a byte is what the rule says.
-- Assumes nothing.
use mathlib.Core.Path.{◌≡◌, refl, sym, ap, ◌∙◌}
use mathlib.Core.Bool.{Bool, true, false, cond, ◌&&◌, beq, and-false}
use mathlib.Core.Logic.{◌↔◌}
use mathlib.Core.List.{List, [], ◌∷◌}
use Prim.Native.Nat.{ℕ, suc, ◌-◌, ◌<◌, ◌≤◌}
use native.Mathlib.Omega.{arith}
use borrow.Author.Tests.{eqb-true, eq-eqb, ne_eqb, le-leb, lt-leb}
use lib.Count.{count_leading_zeros}
use lib.Dec.{eqb, leb}
use lib.ListN.{length, get_or}
use Rattle.utf8.specs.Lead.{lead_size, second}
use Rattle.utf8.specs.declared.Class.{Class}
use Rattle.utf8.specs.declared.Class.TheVariants.{No, As, L2, L3, L4, E0, Ed, F0, F4}
use Rattle.utf8.specs.Utf8.{within, tail}
use Rattle.utf8.specs.Class.{ones, by_ones, class_of, Table, class_size, class_second, class_ascii, Leads}
use Rattle.utf8.specs.Ascii.{is_ascii}
use Rattle.utf8.proofs.Ascii.{ascii_each}
use Rattle.utf8.proofs.Below.{every, below, beq→eq, same_where}
use Rattle.utf8.proofs.Tests.{never, upto, and_left, and_right}

-- a class's place among the nine, and the class at a place
abbrev pub place : Class → ℕ
place No = 0
place As = 1
place L2 = 2
place L3 = 3
place L4 = 4
place E0 = 5
place Ed = 6
place F0 = 7
place F4 = 8

abbrev pub at_place : ℕ → Class
at_place n =
    cond (eqb n 1) As
    (cond (eqb n 2) L2
    (cond (eqb n 3) L3
    (cond (eqb n 4) L4
    (cond (eqb n 5) E0
    (cond (eqb n 6) Ed
    (cond (eqb n 7) F0
    (cond (eqb n 8) F4 No)))))))

placed : (c : Class) → at_place (place c) ≡ c
placed No = refl
placed As = refl
placed L2 = refl
placed L3 = refl
placed L4 = refl
placed E0 = refl
placed Ed = refl
placed F0 = refl
placed F4 = refl

-- whether two classes are the same
abbrev pub same : Class → Class → Bool
same c d = eqb (place c) (place d)

same_eq : (c d : Class) → same c d ≡ true → c ≡ d
same_eq c d e = sym (placed c) ∙ ap at_place (eqb-true _ _ e) ∙ placed d

-- the class of a byte by the ranges of the standard's table, which computes with nothing opened
abbrev pub by_range : ℕ → Class
by_range a =
    cond (leb a 0x7F) As
    (cond (leb a 0xC1) No
    (cond (leb a 0xDF) L2
    (cond (leb a 0xE0) E0
    (cond (leb a 0xEC) L3
    (cond (leb a 0xED) Ed
    (cond (leb a 0xEF) L3
    (cond (leb a 0xF0) F0
    (cond (leb a 0xF3) L4
    (cond (leb a 0xF4) F4 No)))))))))

ranged : (a : ℕ) → a < 256 → by_range a ≡ class_of a
unfolding class_of by_ones ones count_leading_zeros
ranged a h = same_eq _ _ (below 256 (λ a. same (by_range a) (class_of a)) refl a h)

-- the one test: as many entries as there are bytes, and each of them the class of its byte
abbrev pub right : List Class → Bool
right t = eqb (length t) 256 && every 256 (λ a. same (get_or t a No) (by_range a))

pub table : (t : List Class) → right t ≡ true → Table t
table t e =
    record {
      long = eqb-true _ _ (and_left (eqb (length t) 256) _ e);
      each = λ a h. same_eq _ _ (below 256 (λ a. same (get_or t a No) (by_range a)) (and_right (eqb (length t) 256) _ e) a h) ∙ ranged a h;
    }

pub has : (t : List Class) (a : ℕ) → a < 256 → right t ≡ true → get_or t a No ≡ class_of a
has t a h e = (table t e).each a h

-- a class that one byte alone has
alone : (c : Class) (k : ℕ) → every 256 (λ a. beq (same (class_of a) c) (eqb a k)) ≡ true → (a : ℕ) → a < 256 → same (class_of a) c ≡ eqb a k
alone c k t a h = beq→eq _ _ (below 256 (λ a. beq (same (class_of a) c) (eqb a k)) t a h)

-- which byte may be the second, by tests for the four classes in which it is narrowed
narrowed : (c : Class) (b : ℕ)
    → class_second c b
    ≡ cond (same c E0) (within 0xA0 0xBF b) (cond (same c Ed) (within 0x80 0x9F b) (cond (same c F0) (within 0x90 0xBF b) (cond (same c F4) (within 0x80 0x8F b) (tail b))))
unfolding class_second
narrowed No b = refl
narrowed As b = refl
narrowed L2 b = refl
narrowed L3 b = refl
narrowed L4 b = refl
narrowed E0 b = refl
narrowed Ed b = refl
narrowed F0 b = refl
narrowed F4 b = refl

-- ASCII is one class alone
ascii_alone : (c : Class) → class_ascii c ≡ true → c ≡ As
unfolding class_ascii
ascii_alone No e = never e
ascii_alone As e = refl
ascii_alone L2 e = never e
ascii_alone L3 e = never e
ascii_alone L4 e = never e
ascii_alone E0 e = never e
ascii_alone Ed e = never e
ascii_alone F0 e = never e
ascii_alone F4 e = never e

within_256 : (a : ℕ) → a < 256 → Leads a (class_of a)
unfolding class_of by_ones ones count_leading_zeros class_size class_ascii lead_size second
within_256 a h =
    record {
      size = same_where (λ a. true) (λ a. class_size (class_of a)) lead_size refl a h refl;
      counted = λ l. same_where (λ a. leb 2 (class_size (class_of a))) (λ a. class_size (class_of a)) ones refl a h (le-leb 2 _ l);
      none = λ e. same_where (λ a. eqb (class_size (class_of a)) 1) ones (λ a. 0) refl a h (eq-eqb _ 1 e);
      ascii = beq→eq _ _ (below 256 (λ a. beq (class_ascii (class_of a)) (leb a 0x7F)) refl a h);
      follows = λ b. narrowed (class_of a) b ∙ simp (alone E0 0xE0 refl a h, alone Ed 0xED refl a h, alone F0 0xF0 refl a h, alone F4 0xF4 refl a h);
    }

-- a number above the bytes leads nothing either
module _ (a : ℕ) (h : 0xFF < a) where
  apart : (k : ℕ) → k ≤ 0xFF → eqb a k ≡ false
  apart k l = ne_eqb a k (λ e. omega arith)

  over : (k : ℕ) → k ≤ 0xFF → leb a k ≡ false
  over k l = lt-leb a k (omega arith)

  no_class : class_of a ≡ No
  unfolding class_of by_ones ones count_leading_zeros
  no_class =
      let z : 0xFF - a ≡ 0 = omega arith in
      simp (z, over 0xBF (omega arith), apart 0xC0 (omega arith), apart 0xC1 (omega arith), over 0xFF (omega arith), apart 0xE0 (omega arith), apart 0xED (omega arith), apart 0xF0 (omega arith), apart 0xF4 (omega arith), and-false)

  above_255 : Leads a (class_of a)
  unfolding class_size class_second class_ascii lead_size second
  above_255 =
      rw no_class
      (record {
        size = simp (over 0x7F (omega arith), over 0xDF (omega arith), over 0xEF (omega arith), over 0xF4 (omega arith), and-false);
        counted = λ l. absurd (omega arith);
        none = λ e. absurd (omega arith);
        ascii = simp (over 0x7F (omega arith));
        follows = λ b. simp (apart 0xE0 (omega arith), apart 0xED (omega arith), apart 0xF0 (omega arith), apart 0xF4 (omega arith));
      })

pub leads : (a : ℕ) → Leads a (class_of a)
leads a = upto 0xFF a (λ h. within_256 a (omega arith)) (above_255 a)

-- bytes are ASCII exactly if the class of each is
every_ascii : (s : List ℕ) → ((k : ℕ) → k < length s → class_of (get_or s k 0) ≡ As) → is_ascii s ≡ true
unfolding is_ascii class_ascii
every_ascii [] f = refl
every_ascii (b ∷ s) f =
    rw (sym (leads b).ascii ∙ ap class_ascii (f 0 (omega arith)))
    (every_ascii s (λ k h. f (suc k) (omega arith)))

pub ascii_classes : (s : List ℕ) → (is_ascii s ≡ true) ↔ ((k : ℕ) → k < length s → class_of (get_or s k 0) ≡ As)
ascii_classes s = (
  λ e k h. ascii_alone _ ((leads (get_or s k 0)).ascii ∙ le-leb (get_or s k 0) 0x7F ((ascii_each s e).each k h)),
  every_ascii s,
)
