-- What `canonical` leaves of a record's bytes, part by part; and that it leaves all of them exactly where the record is as `IsCanonical` says.
-- Assumes nothing.
use mathlib.Core.Path.{◌≡◌, sym, ap, ◌∙◌}
use mathlib.Core.Bool.{Bool, true, false, cond, ◌||◌}
use mathlib.Core.List.{List, [], ◌∷◌, ◌++◌}
use Prim.Native.Nat.{ℕ, ◌+◌, ◌*◌, ◌/◌, ◌%◌, ◌<◌, ◌≤◌}
use native.Mathlib.Omega.{arith}
use borrow.Author.Tests.{leb-true, leb-false, eqb-true, le-leb, lt-leb, ne_eqb}
use lib.Dec.{leb, eqb}
use lib.ListN.{length, take, drop, get_or}
use Rattle.utf8.proofs.Tests.{on}
use Rattle.wire.specs.Bytes.{number_at}
use Rattle.wire.specs.Over.{bytes_of}
use Rattle.wire.proofs.Bytes.{number_back, number_drop, number_take}
use Rattle.layout.specs.Table.{bit_of, is_skipped}
use Rattle.layout.specs.Write.{word_of}
use Rattle.layout.proofs.Table.{skipped_numbers}
use Rattle.record.specs.Record.{kind_of, critical_of, kind, critical, size}
use Rattle.record.specs.Shown.{canonical, IsCanonical}

-- ---- part by part

module _ (b : List ℕ) where
  word_first : (bit : Bool) → (kind_of (word_of (kind b) bit) ≡ kind b) × (critical_of (word_of (kind b) bit) ≡ bit)
  unfolding kind kind_of critical_of word_of
  word_first true = (omega arith, le-leb 0x8000 (kind b + 0x8000) (omega arith))
  word_first false = (omega arith, lt-leb 0x8000 (kind b) (omega arith))

  -- the kind is the same
  pub canonical_kind : kind (canonical b) ≡ kind b
  unfolding kind canonical bytes_of
  canonical_kind = ap kind_of (number_back _ _) ∙ (word_first (bit_of (kind b) (critical b))).0

  -- the bit is the one of the table, and of an unknown kind the same
  pub canonical_bit : critical (canonical b) ≡ bit_of (kind b) (critical b)
  unfolding critical canonical bytes_of
  canonical_bit = ap critical_of (number_back _ _) ∙ (word_first (bit_of (kind b) (critical b))).1

  -- the size and the body of any kind but 0 and 8 are the same
  pub canonical_rest : (kind b ≡ 0 → ⊥) → (kind b ≡ 8 → ⊥) → drop 2 (canonical b) ≡ drop 2 b
  unfolding canonical bytes_of
  canonical_rest i j = rw (skipped_numbers (kind b), ne_eqb (kind b) 0 i, ne_eqb (kind b) 8 j)

  -- of those two the size is 0, and there is no body
  pub canonical_end : kind b ≡ 0 → drop 2 (canonical b) ≡ 0 ∷ 0 ∷ []
  unfolding canonical bytes_of
  canonical_end e = rw (skipped_numbers (kind b), e)

  pub canonical_keep_alive : kind b ≡ 8 → drop 2 (canonical b) ≡ 0 ∷ 0 ∷ []
  unfolding canonical bytes_of
  canonical_keep_alive e = rw (skipped_numbers (kind b), e)

-- ---- where nothing changes

-- a word is its kind and its bit
word_again : (w : ℕ) → w < 0x10000 → word_of (kind_of w) (critical_of w) ≡ w
unfolding word_of kind_of critical_of
word_again w h = on (leb 0x8000 w) (λ t. rw t (omega (arith, leb-true 0x8000 w t))) (λ t. rw t (omega (arith, leb-false 0x8000 w t)))

-- what is left of a word that has the bit that is written
word_kept : (c d : ℕ) → c < 256 → d < 256 → (bit : Bool) → bit ≡ critical_of (c * 256 + d) → bytes_of (word_of (kind_of (c * 256 + d)) bit) ≡ c ∷ d ∷ []
unfolding bytes_of
word_kept c d h g bit e =
    let w = c * 256 + d in
    let a : word_of (kind_of w) bit ≡ w = ap (word_of (kind_of w)) e ∙ word_again w (omega arith) in
    let p : w / 256 ≡ c = omega arith in
    let q : w % 256 ≡ d = omega arith in
    ap bytes_of a ∙ (λ j. p j ∷ q j ∷ [])

-- no size, and no body
empty_rest : (e f : ℕ) (v : List ℕ) → e * 256 + f ≡ 0 → length (e ∷ f ∷ v) ≡ 2 → bytes_of 0 ≡ e ∷ f ∷ v
unfolding bytes_of
empty_rest e f [] z l =
    let p : 0 ≡ e = omega arith in
    let q : 0 ≡ f = omega arith in
    λ j. p j ∷ q j ∷ []
empty_rest e f (x ∷ v) z l = absurd (let n : ⊥ = omega arith in n)

-- a kind that is skipped is one of the two
skipped_two : {C : Type 0} (k : ℕ) → is_skipped k ≡ true → (k ≡ 0 → C) → (k ≡ 8 → C) → C
skipped_two k s f g =
    let t : (eqb k 0 || eqb k 8) ≡ true = sym (skipped_numbers k) ∙ s in
    on (eqb k 0)
    (λ i. f (eqb-true k 0 i))
    (λ i. g (eqb-true k 8 (rw i at t)))

-- bytes that are a whole record are left as they are, if it is so
pub canonical_same : (b : List ℕ) → ((i : ℕ) → get_or b i 0 < 256) → length b ≡ 4 + size b → IsCanonical (kind b) (critical b) (size b) → canonical b ≡ b
unfolding canonical kind critical size number_at
canonical_same [] small l x = absurd (let z : ⊥ = omega arith in z)
canonical_same (c ∷ []) small l x = absurd (let z : ⊥ = omega arith in z)
canonical_same (c ∷ d ∷ []) small l x = absurd (let z : ⊥ = omega arith in z)
canonical_same (c ∷ d ∷ e ∷ []) small l x = absurd (let z : ⊥ = omega arith in z)
canonical_same (c ∷ d ∷ e ∷ f ∷ v) small l x =
    let k = kind_of (c * 256 + d) in
    let bit = critical_of (c * 256 + d) in
    let w : bytes_of (word_of k (bit_of k bit)) ≡ c ∷ d ∷ [] = word_kept c d (small 0) (small 1) (bit_of k bit) (sym x.as_written) in
    let bare : e * 256 + f ≡ 0 → bytes_of 0 ≡ e ∷ f ∷ v = λ z. empty_rest e f v z (omega arith) in
    let rest : cond (is_skipped k) (bytes_of 0) (e ∷ f ∷ v) ≡ e ∷ f ∷ v =
    on (is_skipped k)
    (λ s. rw s (skipped_two k s (λ i. bare (x.end_empty i)) (λ i. bare (x.keep_alive_empty i))))
    (λ s. rw s) in
    λ j. w j ++ rest j

-- and only if it is so
module _ (b : List ℕ) (same : canonical b ≡ b) where
  bare : drop 2 (canonical b) ≡ 0 ∷ 0 ∷ [] → size b ≡ 0
  unfolding size number_at
  bare e = sym (number_drop b 2 0) ∙ ap (λ (l : List ℕ). number_at l 0) (ap (drop 2) (sym same) ∙ e)

  pub same_canonical : IsCanonical (kind b) (critical b) (size b)
  same_canonical =
      record {
        as_written = ap critical (sym same) ∙ canonical_bit b;
        end_empty = λ k. bare (canonical_end b k);
        keep_alive_empty = λ k. bare (canonical_keep_alive b k);
      }

-- ---- the front of bytes

-- what is taken of a record's bytes has its header
pub header_taken : (u : List ℕ) (i : ℕ) → 4 ≤ i → (kind (take i u) ≡ kind u) × (critical (take i u) ≡ critical u) × (size (take i u) ≡ size u)
unfolding kind critical size
header_taken u i h =
    let w : number_at (take i u) 0 ≡ number_at u 0 = number_take u i 0 (omega arith) in
    (ap kind_of w, ap critical_of w, number_take u i 2 (omega arith))
