-- Demand 2 of one record, and order 4 of document 02, for the calls ntske_write_record, ntske_read_record and ntske_bit_named that a host links: sentences of Demand2.antt and Bits.antt, of
-- their words, of the output and of the cells afterwards.
-- Assumes nothing.
use mathlib.Core.Path.{◌≡◌, refl, sym, ap, ◌∙◌}
use mathlib.Core.List.{List, [], ◌∷◌}
use mathlib.Core.Bool.{true, false}
use Prim.Native.Nat.{ℕ, ◌+◌, ◌-◌, ◌<◌, ◌≤◌}
use native.Mathlib.Nat.{zero-add}
use native.Mathlib.Omega.{arith}
use borrow.Author.Tests.{le-ltb, eqb-true}
use lib.Dec.{eqb}
use lib.ListN.{length, take, drop, get_or, length-drop}
use lib.Seq.{take_at, length-take-le}
use Rattle.utf8.proofs.Below.{below}
use Rattle.wire.specs.Over.{over}
use Rattle.layout.specs.Table.{bit_named, bit_by, bit_of}
use Rattle.layout.specs.Write.{is_record, body_size, Count, bytes, measured, fitted, left_by, record_bytes}
use Rattle.layout.specs.declared.Bit.{Bit}
use Rattle.layout.specs.declared.Bit.TheVariants.{Set, Clear, Given}
use Rattle.layout.proofs.Writing.{just_long}
use Rattle.record.specs.Record.{critical, Seen, Told, read, read_at}
use Rattle.record.specs.Told.{kind_of_record, told_record}
use Rattle.record.specs.Laid.{layout_of}
use Rattle.record.specs.Shown.{shown, given_bit, IsCanonical}
use Rattle.record.specs.declared.NtsRecord.{NtsRecord}
use Rattle.record.proofs.Bits.{read_bit, read_inside}
use Rattle.cells.specs.Cells.{returned, Gives, counted, Writes, cell, flag}
use Rattle.cells.specs.Cells as given
use Rattle.cells.proofs.Lent.{gives_granted}
use Rattle.reading.specs.Read.{value_cells, record_given, bit_cell}
use Rattle.reading.proofs.ntske_read_record.Reads as read_record
use Rattle.reading.proofs.ntske_bit_named.Reads as bit_named_lem
use Rattle.writing.specs.Given.{Held, record_in, held, held_length, held_bytes}
use Rattle.writing.proofs.Items.{held_bit, held_flag}
use Rattle.writing.proofs.ntske_write_record.Reads as write_record
use Rattle.promises.proofs.Demand2.{written_read, written_bit, written_length, read_written, read_written_same, read_written_only}
use Rattle.promises.proofs.HostedRecord.{written, HeldAgain, held_again}
use Rattle.promises.proofs.Refusing.{sure_of}
use Rattle.promises.proofs.Telling.{record_tells}

-- the contract of ntske_write_record, of the cells, the source, the output and the cell of the count, the word returned, and the output and that cell afterwards
pub write_record_is : (κs : _) (a : _) (r : _) (e : _) → write_record.Learnt κs a r e
    → Writes (fitted (length a.1.1.0.now) (held_length (record_in a.0.now) a.1.0.now)) (held_bytes (record_in a.0.now) a.1.0.now)
    a.1.1.0.now a.1.1.1.0.now r e.1.1.0.now e.1.1.1.0.now
write_record_is κs a r e p = p

-- the contract of ntske_read_record, of the message and the place, the cells lent, the word returned, and the cells afterwards
pub read_record_is : (κs : _) (a : _) (r : _) (e : _) → read_record.Learnt κs a r e
    → Gives (record_given (read_at a.0.now a.1.0)) a.1.1.0.now r e.1.1.0.now
read_record_is κs a r e p = p

-- cells that hold a record x of n bytes, for which there is room
writes_measured : (c s o lent : List ℕ) (r : ℕ) (o' w : List ℕ)
    → Writes (fitted (length o) (held_length (record_in c) s)) (held_bytes (record_in c) s) o lent r o' w
    → (x : NtsRecord) (n : ℕ) → record_in c ≡ held x → measured (layout_of x) s ≡ bytes n → n ≤ length o
    → (r ≡ 0) × (w ≡ n ∷ []) × (o' ≡ over (record_bytes (layout_of x) s) o)
unfolding fitted left_by
writes_measured c s o lent r o' w p x n h e room =
    let m : held_length (record_in c) s ≡ bytes n = ap (λ (y : Held). held_length y s) h ∙ e in
    let f : fitted (length o) (held_length (record_in c) s) ≡ bytes n = ap (fitted (length o)) m ∙ rw (le-ltb (length o) n room) in
    let b : held_bytes (record_in c) s ≡ record_bytes (layout_of x) s = ap (λ (y : Held). held_bytes y s) h in (
      p.gives.says ∙ ap (λ (a : Count). returned (counted a)) f,
      p.gives.left ∙ ap (λ (a : Count). given.held (counted a) lent) f,
      p.wrote ∙ ap (λ (a : Count). left_by a (held_bytes (record_in c) s) o) f ∙ ap (λ (l : List ℕ). over l o) b,
    )

-- every record of 01's domain is written where there is room: cells that hold a record x which refusal 9 does not name, with a body of at most 65,535 bytes. The word is
-- 0, the cell counts the exact length, and the record's bytes stand at the output's front
pub write_record_writes : (c s o lent : List ℕ) (r : ℕ) (o' w : List ℕ)
    → Writes (fitted (length o) (held_length (record_in c) s)) (held_bytes (record_in c) s) o lent r o' w
    → (x : NtsRecord) → record_in c ≡ held x → is_record (layout_of x) s ≡ true → body_size (layout_of x) ≤ 65535 → 4 + body_size (layout_of x) ≤ length o
    → (r ≡ 0) × (w ≡ (4 + body_size (layout_of x)) ∷ []) × (o' ≡ over (record_bytes (layout_of x) s) o)
write_record_writes c s o lent r o' w p x h is fits room = writes_measured c s o lent r o' w p x (4 + body_size (layout_of x)) h (sym (just_long (layout_of x) s is fits)) room

-- and the bit in the output is the table's, and of an unknown record the one that the cells gave
pub write_record_bit : (c s o lent : List ℕ) (r : ℕ) (o' w : List ℕ)
    → Writes (fitted (length o) (held_length (record_in c) s)) (held_bytes (record_in c) s) o lent r o' w → r ≡ 0
    → (x : NtsRecord) × (record_in c ≡ held x) × (critical o' ≡ bit_of (kind_of_record x) (given_bit x))
write_record_bit c s o lent r o' w p z =
    let k = written p z in
    (k.item, k.held_is, ap critical k.left ∙ written_bit k.item s k.count k.measures (drop (length (record_bytes (layout_of k.item) s)) o))

-- the contract of ntske_bit_named, of the kind and the number returned
pub bit_named_is : (κs : _) (a : _) (r : _) (e : _) → bit_named_lem.Learnt κs a r e → r ≡ bit_cell (bit_named a.0)
bit_named_is κs a r e p = p

-- 02, order 4: "The writer still writes the bit that 01's table names". What ntske_bit_named returns for the kind in the first cell, 1, 0 or 2, says which bit was written: set, clear, or
-- the one in the second cell
pub write_record_named : (c s o lent : List ℕ) (r : ℕ) (o' w : List ℕ)
    → Writes (fitted (length o) (held_length (record_in c) s)) (held_bytes (record_in c) s) o lent r o' w → r ≡ 0
    → (n : ℕ) → n ≡ bit_cell (bit_named (cell c 0))
    → (n ≡ 1 → critical o' ≡ true) × (n ≡ 0 → critical o' ≡ false) × (n ≡ 2 → flag (critical o') ≡ cell c 1)
unfolding bit_of
write_record_named c s o lent r o' w p z n e = go (bit_named (cell c 0)) (b.2 ∙ held_bit c b.0 b.1) e
  where
    b : (x : NtsRecord) × (record_in c ≡ held x) × (critical o' ≡ bit_of (kind_of_record x) (given_bit x))
    b = write_record_bit c s o lent r o' w p z

    own : (i : ℕ) → i ≤ 1 → flag (eqb i 1) ≡ i
    own i h = eqb-true _ _ (below 2 (λ j. eqb (flag (eqb j 1)) j) refl i (omega arith))

    go : (q : Bit) → critical o' ≡ bit_by q (eqb (cell c 1) 1) → n ≡ bit_cell q
        → (n ≡ 1 → critical o' ≡ true) × (n ≡ 0 → critical o' ≡ false) × (n ≡ 2 → flag (critical o') ≡ cell c 1)
    go Set d f = (λ i. d, λ i. absurd (omega arith), λ i. absurd (omega arith))
    go Clear d f = (λ i. absurd (omega arith), λ i. d, λ i. absurd (omega arith))
    go Given d f = (λ i. absurd (omega arith), λ i. absurd (omega arith), λ i. ap flag d ∙ own (cell c 1) (held_flag c b.0 b.1))

-- "Writing a record and reading it gives that record.": ntske_write_record on the cells c and the source s returned 0, left the output o', and counted in the
-- cell w. The cells held a record x, and every call of ntske_read_record at the output's front returns 0 and answers a record y, with the place after the bytes
-- counted; x in the source and y in the output are of one kind and hold the same numbers and bytes. The bit that is told is the table's, and of an unknown record the one
-- that the cells gave
pub write_record_read : (c s o lent : List ℕ) (r : ℕ) (o' w : List ℕ)
    → Writes (fitted (length o) (held_length (record_in c) s)) (held_bytes (record_in c) s) o lent r o' w → r ≡ 0
    → (lent₂ : List ℕ) (r₂ : ℕ) (after₂ : List ℕ) → Gives (record_given (read_at o' 0)) lent₂ r₂ after₂
    → (r₂ ≡ 0) × (x : NtsRecord) × (record_in c ≡ held x)
    × (y : Seen) × (after₂ ≡ value_cells y.kind (flag (bit_of (kind_of_record x) (given_bit x))) y.value (cell w 0)) × (shown y o' ≡ shown (told_record x) s)
write_record_read c s o lent r o' w p z lent₂ r₂ after₂ g =
    let k = written p z in
    let b = record_bytes (layout_of k.item) s in
    let y = written_read k.item s k.count k.measures [] (drop (length b) o) in
    let next : 0 + k.count ≡ cell w 0 = zero-add k.count ∙ ap (λ (v : List ℕ). cell v 0) (sym k.counted) in
    let bit = bit_of (kind_of_record k.item) (given_bit k.item) in
    let e : read_at o' 0 ≡ read y.0 bit (cell w 0) = ap (λ (m : List ℕ). read_at m 0) k.left ∙ y.1 ∙ ap (read y.0 bit) next in (
      g.says ∙ ap (λ (t : Told). returned (record_given t)) e,
      k.item,
      k.held_is,
      y.0,
      g.left ∙ ap (λ (t : Told). given.held (record_given t) lent₂) e,
      ap (shown y.0) k.left ∙ y.2,
    )

held_same : (x y : NtsRecord) → held x ≡ held y → x ≡ y
held_same x y e = cc

-- 02, order 4: ntske_read_record on the message m, which is bytes, at the place `at` returned 0 and left these cells
module _ (m : List ℕ) (at : ℕ) (lent : List ℕ) (r : ℕ) (after : List ℕ) (small : (i : ℕ) → get_or m i 0 < 256)
    (g : Gives (record_given (read_at m at)) lent r after) (z : r ≡ 0) where
  told : HeldAgain m at after
  told = held_again m at after small (gives_granted g (sure_of (record_tells m at)) z)

  -- the second cell is the bit as received, of every kind: the top one of the type word that stands there
  pub read_record_bit : cell after 1 ≡ flag (critical (drop at m))
  read_record_bit = told.bit_is ∙ ap flag (read_bit m at (told_record told.item) told.bit (cell after 7) (sym told.reads))

  -- the record's bytes, and the size of its body: the last cell is the place after it
  abbrev received : List ℕ
  received = take (cell after 7 - at) (drop at m)

  abbrev Canonical : Type 0
  Canonical = IsCanonical (cell after 0) (critical (drop at m)) (cell after 7 - (at + 4))

  canonical_is : Canonical ≡ IsCanonical (kind_of_record told.item) told.bit (cell after 7 - (at + 4))
  canonical_is =
      let b = read_bit m at (told_record told.item) told.bit (cell after 7) (sym told.reads) in
      λ j. IsCanonical (told.kind_is j) (sym b j) (cell after 7 - (at + 4))

  -- its first seven cells handed to ntske_write_record, with m as the source. The very bytes are written into an output with room for them, if the bit is the one that is written and
  -- the body of an end record or a keep-alive record was empty
  pub read_record_write_same : Canonical
      → (o lent₂ : List ℕ) (r₂ : ℕ) (o' w : List ℕ)
      → Writes (fitted (length o) (held_length (record_in (take 7 after)) m)) (held_bytes (record_in (take 7 after)) m) o lent₂ r₂ o' w
      → cell after 7 - at ≤ length o
      → (r₂ ≡ 0) × (w ≡ (cell after 7 - at) ∷ []) × (o' ≡ over received o)
  read_record_write_same i o lent₂ r₂ o' w p room =
      let x = told.item in
      let next = cell after 7 in
      let k = read_written x m at told.bit next small told.reads in
      let b = read_written_same x m at told.bit next small told.reads (rw canonical_is at i) in
      let s = read_inside m at (told_record x) told.bit next (sym told.reads) in
      let l : length received ≡ next - at = length-take-le (next - at) (drop at m) (omega (arith, length-drop at m, s.0, s.1)) in
      let n : k.0 ≡ next - at = sym (written_length x m k.0 k.1) ∙ ap length b ∙ l in
      let v = writes_measured (take 7 after) m o lent₂ r₂ o' w p x k.0 told.held_is k.1 (omega arith) in
      (v.0, v.1 ∙ ap (λ (c : ℕ). c ∷ []) n, v.2 ∙ ap (λ (c : List ℕ). over c o) b)

  -- and only then
  pub read_record_write_only : (o lent₂ : List ℕ) (r₂ : ℕ) (o' w : List ℕ)
      → Writes (fitted (length o) (held_length (record_in (take 7 after)) m)) (held_bytes (record_in (take 7 after)) m) o lent₂ r₂ o' w → r₂ ≡ 0
      → take (cell w 0) o' ≡ received → Canonical
  read_record_write_only o lent₂ r₂ o' w p y q =
      let k = written p y in
      let x = told.item in
      let same : k.item ≡ x = held_same k.item x (sym k.held_is ∙ told.held_is) in
      let b = record_bytes (layout_of k.item) m in
      let n : length b ≡ cell w 0 = written_length k.item m k.count k.measures ∙ ap (λ (c : List ℕ). cell c 0) (sym k.counted) in
      let f : take (cell w 0) o' ≡ b = ap (take (cell w 0)) k.left ∙ take_at b (drop (length b) o) (cell w 0) n in
      rw canonical_is
      (read_written_only x m at told.bit (cell after 7) small told.reads (ap (λ (v : NtsRecord). record_bytes (layout_of v) m) (sym same) ∙ sym f ∙ q))
