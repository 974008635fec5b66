-- `well_formed` passes exactly the lists that RFC 3629's grammar derives: UTF8-octets = *( UTF8-char ).
-- No list fits two rows of different length, since the lead byte tells the length.
-- Assumes nothing.
use mathlib.Core.Path.{◌≡◌, refl, sym, subst, ◌∙◌}
use mathlib.Core.Logic.{◌⊎◌, inl, inr, ⊎_elim, ◌↔◌}
use mathlib.Core.Bool.{Bool, true, false}
use mathlib.Core.List.Memᴰ
use mathlib.Core.List.{List, [], ◌∷◌, ◌++◌, Memᴰ}
use Prim.Native.Nat.{ℕ, zero, suc, ◌≤◌, ◌<◌}
use native.Mathlib.Nat.{le_refl}
use native.Mathlib.Omega.{arith}
use borrow.Author.Tests.{leb-true}
use lib.Dec.{leb}
use lib.ListN.{length, take, drop, length-drop, take-append-drop}
use lib.Seq.{length-take-le, drop-append_seam}
use Rattle.utf8.specs.Utf8.{within, rows, fits, char_size, octets, well_formed}
use Rattle.utf8.specs.Lead.{lead_size}
use Rattle.utf8.proofs.Tests.{never, on, and_left, and_right}
use Rattle.utf8.proofs.Rows.{Like, like, till}
use Rattle.utf8.proofs.Run.{fits_inside, front_none, front_some}

-- what each byte of a character may be
abbrev pub Row : Type 0
Row = List (ℕ → Bool)

-- UTF8-char: a list as long as a row that it fits
pub record Char (c : List ℕ) : Type 0 where
  pub row : Row
  pub among : Memᴰ row rows
  pub fit : fits row c ≡ true
  pub long : length c ≡ length row

pub data Octets : List ℕ → Type 0 where
  none : Octets []
  some : (c s : List ℕ) → Char c → Octets s → Octets (c ++ s)

-- what a row fits depends on no more than its length
fits_append : (row : Row) (c s : List ℕ) → fits row c ≡ true → fits row (c ++ s) ≡ true
unfolding fits
fits_append [] c s e = refl
fits_append (p ∷ row) [] s e = never e
fits_append (p ∷ row) (b ∷ c) s e = rw (and_left (p b) _ e) (fits_append row c s (and_right (p b) _ e))

fits_take : (row : Row) (s : List ℕ) → fits row s ≡ true → fits row (take (length row) s) ≡ true
unfolding fits
fits_take [] s e = refl
fits_take (p ∷ row) [] e = e
fits_take (p ∷ row) (b ∷ s) e = rw (and_left (p b) _ e) (fits_take row s (and_right (p b) _ e))

-- what is found is a row that fits
found : (table : List Row) (s : List ℕ)
    → (char_size table s ≡ 0) ⊎ ((row : Row) × Memᴰ row table × (fits row s ≡ true) × (char_size table s ≡ length row))
unfolding char_size
found [] s = inl refl
found (row ∷ table) s =
    on (fits row s) (λ e. inr (row, Memᴰ.head refl, e, rw e))
    (λ e. rw e (⊎_elim (λ z. inl z) (λ f. inr (f.0, Memᴰ.tail f.1, f.2, f.3)) (found table s)))

-- the lead byte tells how long the row is
record Led (row : Row) : Type 0 where
  filled : 0 < length row
  lead : (a : ℕ) (t : List ℕ) → fits row (a ∷ t) ≡ true → lead_size a ≡ length row

led : (lo hi : ℕ) (row : Row) → ((a : ℕ) → Like lo hi a → lead_size a ≡ suc (length row)) → Led (within lo hi ∷ row)
unfolding fits
led lo hi row f =
    record {
      filled = omega arith;
      lead =
          λ a t e.
          let w = and_left (within lo hi a) (fits row t) e in
          f a (like lo hi (leb-true lo a (and_left (leb lo a) (leb a hi) w)) (leb-true a hi (and_right (leb lo a) (leb a hi) w)));
    }

either : {row r : Row} {table : List Row} → Memᴰ row (r ∷ table) → Led r → (Memᴰ row table → Led row) → Led row
either m l f = ⊎_elim (λ e. subst Led (sym e) l) f (Memᴰ.cases_cons m)

row_led : (row : Row) → Memᴰ row rows → Led row
unfolding rows lead_size
row_led row m =
    either m (led 0x00 0x7F _ (λ a t. simp (t, till a)))
    (λ m. either m (led 0xC2 0xDF _ (λ a t. simp (t, till a)))
    (λ m. either m (led 0xE0 0xE0 _ (λ a t. simp (t, till a)))
    (λ m. either m (led 0xE1 0xEC _ (λ a t. simp (t, till a)))
    (λ m. either m (led 0xED 0xED _ (λ a t. simp (t, till a)))
    (λ m. either m (led 0xEE 0xEF _ (λ a t. simp (t, till a)))
    (λ m. either m (led 0xF0 0xF0 _ (λ a t. simp (t, till a)))
    (λ m. either m (led 0xF1 0xF3 _ (λ a t. simp (t, till a)))
    (λ m. either m (led 0xF4 0xF4 _ (λ a t. simp (t, till a)))
    (λ m. absurd (Memᴰ.not-nil m))))))))))

-- so a row that fits is as good as the first
other : {row r : Row} {table : List Row} (s : List ℕ) → fits r s ≡ false → fits row s ≡ true → Memᴰ row (r ∷ table) → Memᴰ row table
other s f e (Memᴰ.head i) = never (sym f ∙ subst (λ (x : Row). fits x s ≡ true) i e)
other s f e (Memᴰ.tail m) = m

first : (table : List Row) → ((row : Row) → Memᴰ row table → Led row) → (row : Row) → Memᴰ row table
    → (a : ℕ) (t : List ℕ) → fits row (a ∷ t) ≡ true → char_size table (a ∷ t) ≡ lead_size a
unfolding char_size
first [] l row m a t e = absurd (Memᴰ.not-nil m)
first (r ∷ table) l row m a t e =
    on (fits r (a ∷ t)) (λ f. rw f (sym ((l r (Memᴰ.head refl)).lead a t f)))
    (λ f. rw f (first table (λ r n. l r (Memᴰ.tail n)) row (other (a ∷ t) f e m) a t e))

-- no row is empty
row_filled : (row : Row) → Memᴰ row rows → length row ≡ 0 → ⊥
row_filled row m z = omega (arith, (row_led row m).filled)

-- so a character at the front is found
char_found : (c s : List ℕ) (k : Char c) → char_size rows (c ++ s) ≡ length c
char_found [] s k = absurd (row_filled k.row k.among (sym k.long))
char_found (a ∷ c) s k =
    first rows row_led k.row k.among a (c ++ s) (fits_append k.row (a ∷ c) s k.fit)
    ∙ (row_led k.row k.among).lead a c k.fit
    ∙ sym k.long

-- both ways
derived : {s : List ℕ} → Octets s → well_formed s ≡ true
unfolding octets well_formed
derived none = refl
derived (some c s k o) =
    sym (front_some (c ++ s) (length c) (char_found c s k) (λ z. row_filled k.row k.among (sym k.long ∙ z)))
    ∙ rw drop-append_seam (derived o)

derives : (n : ℕ) (s : List ℕ) → length s ≤ n → well_formed s ≡ true → Octets s
derives zero [] h e = none
derives zero (b ∷ s) h e = absurd (omega arith)
derives (suc n) [] h e = none
derives (suc n) (b ∷ s) h e =
    ⊎_elim (λ z. never (sym (front_none (b ∷ s) (omega arith) z) ∙ e))
    (λ f.
    let t : List ℕ = b ∷ s in
    let k : ℕ = length f.0 in
    let z = row_filled f.0 f.1 in
    subst Octets (take-append-drop k t)
    (some (take k t) (drop k t)
    (record { row = f.0; among = f.1; fit = fits_take f.0 t f.2; long = length-take-le k t (fits_inside f.0 t f.2) })
    (derives n (drop k t) (omega (arith, length-drop k t)) (front_some t k f.3 z ∙ e))))
    (found rows (b ∷ s))

pub grammar : (s : List ℕ) → (well_formed s ≡ true) ↔ Octets s
grammar s = (derives (length s) s (le_refl (length s)), derived)
