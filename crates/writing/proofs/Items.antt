-- The record that cells hold: its kind is the one in the first cell, and the bit in the second is written where the table names none.
-- Assumes nothing.
use mathlib.Core.Path.{◌≡◌, refl, ap, ◌∙◌}
use mathlib.Core.Bool.{Bool, true, false, ◌&&◌, beq}
use mathlib.Core.List.{List}
use Prim.Native.Nat.{ℕ, ◌<◌, ◌≤◌}
use native.Mathlib.Omega.{arith}
use borrow.Author.Tests.{leb-true, leb-false, eqb-true, ne_eqb}
use lib.Dec.{leb, eqb}
use Rattle.utf8.proofs.Tests.{and_left, and_right, on}
use Rattle.utf8.proofs.Below.{below, beq→eq}
use Rattle.layout.specs.Table.{row_of, bit_of}
use Rattle.layout.specs.declared.Part.{Part}
use Rattle.record.specs.Told.{kind_of_record}
use Rattle.record.specs.Shown.{given_bit}
use Rattle.record.specs.declared.NtsRecord.{NtsRecord}
use Rattle.record.specs.declared.NtsRecord.TheVariants.{Unknown}
use Rattle.cells.specs.Cells.{cell}
use Rattle.writing.specs.Given.{held, no_record, is_record, item_of, part_in, record_in}

-- of a kind, a bit, a number and two parts
module _ (k : ℕ) (bit : Bool) (n : ℕ) (a b : Part) where
  pub item_far : 15 ≤ k → item_of k bit n a b ≡ Unknown k bit a
  unfolding item_of
  item_far h =
      let no : (c : ℕ) → c < 15 → eqb k c ≡ false = λ c i. ne_eqb k c (λ z. omega arith) in
      simp (no 0 (omega arith), no 1 (omega arith), no 2 (omega arith), no 3 (omega arith), no 4 (omega arith), no 5 (omega arith), no 6 (omega arith), no 7 (omega arith), no 8 (omega arith), no 9 (omega arith), no 10 (omega arith), no 12 (omega arith), no 13 (omega arith), no 14 (omega arith))

  pub item_kind : kind_of_record (item_of k bit n a b) ≡ k
  unfolding item_of
  item_kind =
      on (leb 15 k)
      (λ t. ap kind_of_record (item_far (leb-true 15 k t)))
      (λ t. eqb-true _ _ (below 15 (λ i. eqb (kind_of_record (item_of i bit n a b)) i) refl k (leb-false 15 k t)))

-- the bit that is written is the table's, and where it names none the one given
pub item_bit : (k : ℕ) (bit : Bool) (n : ℕ) (a b : Part) → bit_of k (given_bit (item_of k bit n a b)) ≡ bit_of k bit
unfolding item_of bit_of row_of
item_bit k bit n a b =
    on (leb 15 k)
    (λ t. ap (λ (x : NtsRecord). bit_of k (given_bit x)) (item_far k bit n a b (leb-true 15 k t)))
    (λ t. low bit (leb-false 15 k t))
  where
    low : (v : Bool) → k < 15 → bit_of k (given_bit (item_of k v n a b)) ≡ bit_of k v
    low true h = beq→eq _ _ (below 15 (λ i. beq (bit_of i (given_bit (item_of i true n a b))) (bit_of i true)) refl k h)
    low false h = beq→eq _ _ (below 15 (λ i. beq (bit_of i (given_bit (item_of i false n a b))) (bit_of i false)) refl k h)

-- the cells c hold the record x
module _ (c : List ℕ) (x : NtsRecord) (h : record_in c ≡ held x) where
  was : (is_record c ≡ true) × (x ≡ item_of (cell c 0) (eqb (cell c 1) 1) (cell c 2) (part_in c 3 4) (part_in c 5 6))
  unfolding record_in
  was =
      on (is_record c)
      (λ t. (t, let e : held (item_of (cell c 0) (eqb (cell c 1) 1) (cell c 2) (part_in c 3 4) (part_in c 5 6)) ≡ held x = rw t at h in cc))
      (λ t.
      let e : no_record ≡ held x = rw t at h in
      let z : ◌≡◌ {A = ℕ} 0 1 = cc in
      absurd (omega arith))

  pub held_kind : kind_of_record x ≡ cell c 0
  held_kind = ap kind_of_record was.1 ∙ item_kind (cell c 0) (eqb (cell c 1) 1) (cell c 2) (part_in c 3 4) (part_in c 5 6)

  pub held_bit : bit_of (kind_of_record x) (given_bit x) ≡ bit_of (cell c 0) (eqb (cell c 1) 1)
  held_bit =
      ap (λ (k : ℕ). bit_of k (given_bit x)) held_kind
      ∙ ap (λ (y : NtsRecord). bit_of (cell c 0) (given_bit y)) was.1
      ∙ item_bit (cell c 0) (eqb (cell c 1) 1) (cell c 2) (part_in c 3 4) (part_in c 5 6)

  pub held_flag : cell c 1 ≤ 1
  unfolding is_record
  held_flag =
      let a = leb (cell c 0) 65535 in
      let b = leb (cell c 1) 1 in
      leb-true (cell c 1) 1 (and_right a b (and_left (a && b) (leb (cell c 2) 65535) was.0))
