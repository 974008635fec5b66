-- What ntske_write_record wrote, from a word that is 0: cells that hold a record, its measure, and its bytes at the output's front; and which record the cells hold that
-- ntske_read_record gave.
-- Assumes nothing.
use mathlib.Core.Path.{◌≡◌, refl, sym, ap, ◌∙◌}
use mathlib.Core.List.{List, [], ◌∷◌, ◌++◌}
use mathlib.Core.Bool.{Bool, true, false}
use Prim.Native.Nat.{ℕ, ◌+◌, ◌<◌, ◌≤◌}
use native.Mathlib.Omega.{arith}
use borrow.Author.Tests.{leb-true, leb-false, le-leb, ne_eqb}
use lib.ListN.{length, take, drop}
use lib.Seq.{drop-drop}
use lib.Dec.{leb, ltb}
use Rattle.utf8.proofs.Tests.{on}
use Rattle.utf8.proofs.Below.{below}
use Rattle.wire.specs.Bytes.{number_at}
use Rattle.wire.specs.Over.{over}
use Rattle.wire.proofs.Bytes.{Small, small_part, number_small}
use Rattle.nts.specs.Refusal.{nothing}
use Rattle.negotiation.specs.Negotiation.{holds}
use Rattle.layout.specs.Table.{row_of, shape_of, is_unknown}
use Rattle.layout.specs.Write.{record_bytes, Count, bytes, measured, fitted}
use Rattle.layout.specs.Write as write
use Rattle.layout.specs.declared.Shape.{Shape}
use Rattle.layout.specs.declared.Shape.TheVariants.{Skipped, Numbers, Number, Bytes, Name, Pairs, Halves, Unknown}
use Rattle.layout.proofs.Table.{unknown_numbers, unknown_shape}
use Rattle.record.specs.Record.{kind_of, kind, critical, size, there, Value, skipped, number, part, halves, unknown, value_of, Seen, seen_of, read, refused, read_at}
use Rattle.record.specs.Record as rec
use Rattle.record.specs.Told.{kind_of_record, told_record}
use Rattle.record.specs.Laid.{layout_of}
use Rattle.record.specs.declared.NtsRecord.{NtsRecord}
use Rattle.record.proofs.Inverse.{read_was}
use Rattle.cells.specs.Cells.{cells, Writes, cell, flag}
use Rattle.cells.proofs.Lent.{writes_granted}
use Rattle.reading.specs.Read.{value_cells, record_given}
use Rattle.writing.specs.Given.{Held, no_record, held, item_of, part_in, record_in, is_record, held_length, held_bytes}
use Rattle.writing.proofs.Items.{item_far}
use Rattle.promises.specs.Numbers.{All}
use Rattle.promises.proofs.Bearing.{in_all}
use Rattle.promises.proofs.Refusing.{sure_of}
use Rattle.promises.proofs.Telling.{write_record_tells}

-- what fits was measured
fitted_was : (room n : ℕ) (a : Count) → fitted room a ≡ bytes n → a ≡ bytes n
unfolding fitted
fitted_was room n (bytes k) e =
    on (ltb room k)
    (λ t.
    let q : write.refused 10 nothing ≡ bytes n = rw t at e in
    let z : ◌≡◌ {A = ℕ} 0 1 = cc in
    absurd (omega arith))
    (λ t. rw t at e)
fitted_was room n (write.refused k b) e = e

pub record Written (c s o o' w : List ℕ) : Type 0 where
  pub item : NtsRecord
  pub count : ℕ
  pub held_is : record_in c ≡ held item
  pub measures : measured (layout_of item) s ≡ bytes count
  pub counted : w ≡ count ∷ []
  pub left : o' ≡ record_bytes (layout_of item) s ++ drop (length (record_bytes (layout_of item) s)) o

pub written : {c s o lent o' w : List ℕ} {r : ℕ} → Writes (fitted (length o) (held_length (record_in c) s)) (held_bytes (record_in c) s) o lent r o' w → r ≡ 0
    → Written c s o o' w
unfolding over
written {c} {s} {o} {lent} {o'} {w} {r} p z = go (record_in c) refl (fitted_was (length o) g.0 (held_length (record_in c) s) g.1) g.2
  where
    g : (n : ℕ) × (fitted (length o) (held_length (record_in c) s) ≡ bytes n) × (o' ≡ over (held_bytes (record_in c) s) o) × (w ≡ n ∷ [])
    g = writes_granted p (sure_of (write_record_tells c s (length o))) z

    go : (h : Held) → record_in c ≡ h → held_length h s ≡ bytes g.0 → o' ≡ over (held_bytes h s) o → Written c s o o' w
    go no_record e m l = let k : ◌≡◌ {A = ℕ} 0 1 = cc in absurd (omega arith)
    go (held x) e m l = record { item = x; count = g.0; held_is = e; measures = m; counted = g.3; left = l }

-- ---- the record of the cells that a read gave

-- the cells c, told by their kind, bit, number and two parts
abbrev item_in : List ℕ → Bool → NtsRecord
item_in c bit = item_of (cell c 0) bit (cell c 2) (part_in c 3 4) (part_in c 5 6)

-- of a kind k with this bit, whose body b of n bytes begins at `start`
abbrev given : ℕ → Bool → ℕ → ℕ → ℕ → List ℕ → List ℕ
given k bit next start n b = value_cells k (flag bit) (value_of (shape_of k) bit start n b) next

abbrev Told : ℕ → Type 0
Told k = (bit : Bool) (next start n : ℕ) (b : List ℕ) → told_record (item_in (given k bit next start n b) bit) ≡ seen_of k bit start n b

abbrev lows : List ℕ
lows = 0 ∷ 1 ∷ 2 ∷ 3 ∷ 4 ∷ 5 ∷ 6 ∷ 7 ∷ 8 ∷ 9 ∷ 10 ∷ 11 ∷ 12 ∷ 13 ∷ 14 ∷ []

low : All Told lows
unfolding item_of shape_of row_of value_of seen_of
low =
    let t0 : Told 0 = λ b m s n l. refl in
    let t1 : Told 1 = λ b m s n l. refl in
    let t2 : Told 2 = λ b m s n l. refl in
    let t3 : Told 3 = λ b m s n l. refl in
    let t4 : Told 4 = λ b m s n l. refl in
    let t5 : Told 5 = λ b m s n l. refl in
    let t6 : Told 6 = λ b m s n l. refl in
    let t7 : Told 7 = λ b m s n l. refl in
    let t8 : Told 8 = λ b m s n l. refl in
    let t9 : Told 9 = λ b m s n l. refl in
    let t10 : Told 10 = λ b m s n l. refl in
    let t11 : Told 11 = λ b m s n l. refl in
    let t12 : Told 12 = λ b m s n l. refl in
    let t13 : Told 13 = λ b m s n l. refl in
    let t14 : Told 14 = λ b m s n l. refl in
    (t0, (t1, (t2, (t3, (t4, (t5, (t6, (t7, (t8, (t9, (t10, (t11, (t12, (t13, (t14, tt)))))))))))))))

far : (k : ℕ) → 15 ≤ k → Told k
unfolding value_of seen_of
far k h bit next start n b =
    let u : is_unknown k ≡ true = unknown_numbers k ∙ rw (ne_eqb k 11 (λ z. omega arith), le-leb 15 k h) in
    let v : given k bit next start n b ≡ value_cells k (flag bit) (unknown bit start n) next = rw (unknown_shape k u) in
    ap (λ (c : List ℕ). told_record (item_in c bit)) v
    ∙ ap told_record (item_far k bit 0 (record { start = start; len = n }) (record { start = 0; len = 0 }) h)
    ∙ sym (rw (unknown_shape k u))

told_item : (k : ℕ) → Told k
told_item k =
    on (leb 15 k)
    (λ t. far k (leb-true 15 k t))
    (λ t. in_all Told lows low k (below 15 (holds lows) refl k (leb-false 15 k t)))

-- cells of sixteen bits and a bit are a record's
held_in : (c : List ℕ) (bit : Bool) → cell c 1 ≡ flag bit → cell c 0 ≤ 65535 → cell c 2 ≤ 65535 → record_in c ≡ held (item_in c bit)
unfolding record_in is_record
held_in c true e h g = rw (le-leb (cell c 0) 65535 h, le-leb (cell c 2) 65535 g, e)
held_in c false e h g = rw (le-leb (cell c 0) 65535 h, le-leb (cell c 2) 65535 g, e)

-- what is seen of a record in bytes: of sixteen bits are its kind and its number
value_fits : (v : Shape) (k : ℕ) (bit : Bool) (next start n : ℕ) (b : List ℕ) → number_at b 0 < 65536
    → (cell (value_cells k (flag bit) (value_of v bit start n b) next) 0 ≡ k) × (cell (value_cells k (flag bit) (value_of v bit start n b) next) 1 ≡ flag bit)
    × (cell (value_cells k (flag bit) (value_of v bit start n b) next) 2 ≤ 65535) × (cell (value_cells k (flag bit) (value_of v bit start n b) next) 7 ≡ next)
unfolding value_of
value_fits Skipped k bit next start n b g = (refl, refl, omega arith, refl)
value_fits Numbers k bit next start n b g = (refl, refl, omega arith, refl)
value_fits Number k bit next start n b g = (refl, refl, omega arith, refl)
value_fits Bytes k bit next start n b g = (refl, refl, omega arith, refl)
value_fits Name k bit next start n b g = (refl, refl, omega arith, refl)
value_fits Pairs k bit next start n b g = (refl, refl, omega arith, refl)
value_fits Halves k bit next start n b g = (refl, refl, omega arith, refl)
value_fits Unknown k bit next start n b g = (refl, refl, omega arith, refl)

-- the first seven of eight cells
seven_cells : (v : Value) (k b next : ℕ) → record_in (take 7 (value_cells k b v next)) ≡ record_in (value_cells k b v next)
unfolding record_in is_record
seven_cells skipped k b next = refl
seven_cells (number x) k b next = refl
seven_cells (part s l) k b next = refl
seven_cells (halves s l t o) k b next = refl
seven_cells (unknown own s l) k b next = refl

kind_low : (u : List ℕ) → kind u < 32768
unfolding kind kind_of
kind_low u = omega arith

there_small : (m : List ℕ) (at : ℕ) → Small m → Small (there (drop at m))
unfolding there
there_small m at small = rw (drop-drop 4 at m) (small_part m (size (drop at m)) (at + 4) small)

-- what ntske_read_record gave for the record at a place of bytes, told as cells: their first seven hold that record
pub record HeldAgain (m : List ℕ) (at : ℕ) (after : List ℕ) : Type 0 where
  pub item : NtsRecord
  pub bit : Bool
  pub held_is : record_in (take 7 after) ≡ held item
  pub reads : read_at m at ≡ read (told_record item) bit (cell after 7)
  pub kind_is : cell after 0 ≡ kind_of_record item
  pub bit_is : cell after 1 ≡ flag bit

pub held_again : (m : List ℕ) (at : ℕ) (after : List ℕ) → Small m → record_given (read_at m at) ≡ cells after → HeldAgain m at after
unfolding read_at seen_of
held_again m at after small e = go (read_at m at) refl e
  where
    go : (t : rec.Told) → read_at m at ≡ t → record_given t ≡ cells after → HeldAgain m at after
    go (read y bit next) d q =
        let u = drop at m in
        let w = read_was at u y bit next (sym d) in
        let k = kind u in
        let c = given k (critical u) next (at + 4) (size u) (there u) in
        let y_is : value_cells y.kind (flag bit) y.value next ≡ c =
        (λ j. value_cells (w.item j).kind (flag (w.marked j)) (w.item j).value next) in
        let a : after ≡ c = sym (let z : value_cells y.kind (flag bit) y.value next ≡ after = cc in z) ∙ y_is in
        let f = value_fits (shape_of k) k (critical u) next (at + 4) (size u) (there u) (number_small (there u) (there_small m at small)) in
        let x = item_in c (critical u) in
        record {
          item = x;
          bit = bit;
          held_is = ap (λ (l : List ℕ). record_in (take 7 l)) a ∙ seven_cells (value_of (shape_of k) (critical u) (at + 4) (size u) (there u)) k (flag (critical u)) next ∙ held_in c (critical u) f.1 (omega (arith, f.0, kind_low u)) f.2;
          reads = d ∙ (λ j. read ((w.item ∙ sym (told_item k (critical u) next (at + 4) (size u) (there u))) j) bit ((sym f.3 ∙ ap (λ (l : List ℕ). cell l 7) (sym a)) j));
          kind_is = ap (λ (l : List ℕ). cell l 0) a ∙ f.0 ∙ ap (λ (s : Seen). s.kind) (sym (told_item k (critical u) next (at + 4) (size u) (there u)));
          bit_is = ap (λ (l : List ℕ). cell l 1) a ∙ f.1 ∙ ap flag (sym w.marked);
        }
    go (refused x) d q = let z : ◌≡◌ {A = ℕ} 0 1 = cc in absurd (omega arith)
