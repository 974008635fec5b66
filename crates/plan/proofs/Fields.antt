-- A tray that is whole: how long its used part is, and what it holds with one field more behind.
-- Assumes nothing.
use mathlib.Core.Path.{◌≡◌, refl, sym, ap, ◌∙◌}
use mathlib.Core.Bool.{Bool, true, false, cond}
use mathlib.Core.List.{List, [], ◌∷◌, ◌++◌}
use Prim.Native.Nat.{ℕ, zero, suc, ◌+◌, ◌*◌, ◌≤◌}
use native.Mathlib.Omega.{arith}
use borrow.Author.Tests.{ltb-false}
use lib.Dec.{ltb, eqb}
use lib.ListN.{length, take, drop, length-drop, drop_of_length-le}
use lib.Seq.{length-take-le, take-length, take-append_seam, take-append-le, drop-append-le}
use Rattle.wire.specs.Bytes.{number_at}
use Rattle.wire.specs.Over.{bytes_of}
use Rattle.wire.proofs.Bytes.{number_take, number_back}
use Rattle.plan.specs.Tray.{Fields, broken, fields, before, fields_from, fields_in, field_bytes, bytes_in}
use Rattle.plan.proofs.Walking.{whole_field}

never : {A : Type 0} {l : List (List ℕ)} → broken ≡ fields l → A
never e = let z : ◌≡◌ {A = ℕ} 0 1 = cc in absurd (omega arith)

-- ---- how long it is

-- of one field, and what is known of those after it
first_long : (t : Bool) (n : ℕ) (s : List ℕ) (f : Fields) (l : List (List ℕ))
    → ((m : List (List ℕ)) → f ≡ fields m → length s ≡ 2 + n + (3 * length m + bytes_in m))
    → cond t (before (take n (drop 2 s)) f) broken ≡ fields l → suc (length s) ≡ 3 * length l + bytes_in l
first_long true n s broken l r e = never e
first_long true n s (fields m) l r e =
    let z : take n (drop 2 s) ∷ m ≡ l = cc in
    let h = r m refl in
    let k : length (take n (drop 2 s)) ≡ n = length-take-le n (drop 2 s) (omega (arith, length-drop 2 s)) in
    rw (← z) (omega arith)
first_long false n s f l r e = never e

pub from_long : (tag k : ℕ) (s : List ℕ) (l : List (List ℕ)) → fields_from tag k s ≡ fields l → length s ≡ k + (3 * length l + bytes_in l)
unfolding fields_from
from_long tag zero [] l e = let z : [] ≡ l = cc in rw (← z)
from_long tag (suc k) [] l e = never e
from_long tag (suc k) (b ∷ s) l e = omega (arith, from_long tag k s l e)
from_long tag zero (b ∷ s) l e =
    omega (arith, first_long (eqb b tag) (number_at s 0) s (fields_from tag (2 + number_at s 0) s) l (λ m. from_long tag (2 + number_at s 0) s m) e)

-- what a whole tray is
pub record Held (tag used : ℕ) (tray : List ℕ) (l : List (List ℕ)) : Type 0 where
  pub inside : used ≤ length tray
  pub are : fields_from tag 0 (take used tray) ≡ fields l

module _ (tag used : ℕ) (tray : List ℕ) (l : List (List ℕ)) where
  pub held : fields_in tag used tray ≡ fields l → Held tag used tray l
  unfolding fields_in
  held e = by_room (ltb (length tray) used) refl e
    where
      by_room : (t : Bool) → ltb (length tray) used ≡ t → cond t broken (fields_from tag 0 (take used tray)) ≡ fields l → Held tag used tray l
      by_room true h i = never i
      by_room false h i = record { inside = ltb-false (length tray) used h; are = i }

  -- three bytes a field, and the bodies'
  pub fields_bytes : fields_in tag used tray ≡ fields l → used ≡ 3 * length l + bytes_in l
  fields_bytes e =
      let h = held e in
      omega (arith, from_long tag 0 (take used tray) l h.are, length-take-le used tray h.inside)

-- ---- one field more

pub length_field : (tag : ℕ) (c : List ℕ) → length (field_bytes tag c) ≡ 3 + length c
unfolding field_bytes bytes_of
length_field tag c = omega arith

one_field : (tag : ℕ) (c : List ℕ) → fields_from tag 0 (field_bytes tag c) ≡ fields (c ∷ [])
unfolding field_bytes bytes_of fields_from
one_field tag c =
    let s = bytes_of (length c) ++ c in
    let n : number_at s 0 ≡ length c = number_back (length c) c in
    let k : length s ≡ 2 + length c = omega arith in
    let d : drop (2 + number_at s 0) s ≡ [] = drop_of_length-le s {i = 2 + number_at s 0} (omega arith) in
    whole_field tag tag s refl (omega arith) ∙ rw (d, n, take-length)

number_append : (s z : List ℕ) → 2 ≤ length s → number_at (s ++ z) 0 ≡ number_at s 0
number_append s z h = sym (number_take (s ++ z) (length s) 0 (omega arith)) ∙ ap (λ (x : List ℕ). number_at x 0) (take-append_seam s z)

-- of one field, and what is known of those after it
first_more : (t : Bool) (n n' : ℕ) (s z c : List ℕ) (f f' : Fields) (l : List (List ℕ))
    → ((m : List (List ℕ)) → f ≡ fields m → length s ≡ 2 + n + (3 * length m + bytes_in m))
    → (2 ≤ length s → n' ≡ n)
    → ((m : List (List ℕ)) → f ≡ fields m → n' ≡ n → f' ≡ fields (m ++ (c ∷ [])))
    → cond t (before (take n (drop 2 s)) f) broken ≡ fields l
    → cond t (before (take n' (drop 2 (s ++ z))) f') broken ≡ fields (l ++ (c ∷ []))
first_more true n n' s z c broken f' l r p q e = never e
first_more true n n' s z c (fields m) f' l r p q e =
    let y : take n (drop 2 s) ∷ m ≡ l = cc in
    let h = r m refl in
    let i : n' ≡ n = p (omega arith) in
    let a : take n (drop 2 (s ++ z)) ≡ take n (drop 2 s) = ap (take n) (drop-append-le 2 s z (omega arith)) ∙ take-append-le n (drop 2 s) z (omega (arith, length-drop 2 s)) in
    rw (q m refl i, i, a, ← y)
first_more false n n' s z c f f' l r p q e = never e

pub from_more : (tag k : ℕ) (s c : List ℕ) (l : List (List ℕ)) → fields_from tag k s ≡ fields l
    → fields_from tag k (s ++ field_bytes tag c) ≡ fields (l ++ (c ∷ []))
unfolding fields_from
from_more tag zero [] c l e = let z : [] ≡ l = cc in one_field tag c ∙ rw (← z)
from_more tag (suc k) [] c l e = never e
from_more tag (suc k) (b ∷ s) c l e = from_more tag k s c l e
from_more tag zero (b ∷ s) c l e =
    first_more (eqb b tag) (number_at s 0) (number_at (s ++ field_bytes tag c) 0) s (field_bytes tag c) c
    (fields_from tag (2 + number_at s 0) s) (fields_from tag (2 + number_at (s ++ field_bytes tag c) 0) (s ++ field_bytes tag c)) l
    (λ m. from_long tag (2 + number_at s 0) s m)
    (number_append s (field_bytes tag c))
    (λ m h i. ap (λ (n : ℕ). fields_from tag (2 + n) (s ++ field_bytes tag c)) i ∙ from_more tag (2 + number_at s 0) s c m h)
    e
