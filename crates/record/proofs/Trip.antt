-- The round trip: a record that was written is read back as it was, and a record that was read is written back, in the bytes that `canonical` says.
-- Assumes nothing.
use mathlib.Core.Path.{◌≡◌, refl, sym, ap, ◌∙◌}
use mathlib.Core.Bool.{Bool, true, false, cond, ◌||◌}
use mathlib.Core.List.{List, [], ◌∷◌, ◌++◌, append_assoc, append-nil}
use Prim.{Unit}
use Prim.Native.Nat.{ℕ, ◌+◌, ◌-◌, ◌*◌, ◌/◌, ◌%◌, ◌<◌, ◌≤◌}
use native.Mathlib.Nat.{add-zero}
use native.Mathlib.Omega.{arith}
use borrow.Author.Tests.{leb-true, ltb-false, eqb-true, le-leb, lt-leb, le-ltb, eq-eqb, ne_eqb}
use lib.Dec.{ltb, eqb}
use lib.ListN.{length, take, drop, get_or, length-append, length-take, length-drop}
use lib.Seq.{get_or-drop, take-add, take_at, drop_at, drop-drop}
use Rattle.utf8.specs.Utf8.{well_formed}
use Rattle.utf8.proofs.Tests.{on}
use Rattle.wire.specs.Bytes.{number_at, part_at}
use Rattle.wire.specs.Over.{bytes_of}
use Rattle.wire.proofs.Bytes.{number_back, number_drop, length_part, part_empty, part_between, part_join, part_at_lem, bytes_back, small_part}
use Rattle.nts.specs.Refusal.{nothing}
use Rattle.layout.specs.Table.{row_of, shape_of, bit_of, is_unknown}
use Rattle.layout.specs.Write.{is_sound, is_record, is_number, body_size, body_of, word_of, header, record_bytes, bytes, measured}
use Rattle.layout.specs.declared.Part.{Part}
use Rattle.layout.specs.declared.Shape.{Shape}
use Rattle.layout.specs.declared.Shape.TheVariants as shape
use Rattle.layout.specs.declared.Layout.{Layout}
use Rattle.layout.proofs.Table.{unknown_numbers, unknown_shape, shape_unknown, unknown_bit, skipped_numbers}
use Rattle.layout.proofs.Writing.{sound, sound_record, length_body, just_long, measured_long}
use Rattle.record.specs.Record.{kind_of, critical_of, kind, critical, size, there, short, uneven, not_number, not_halves, not_utf8, first_of, not_name, fault_of, fault_by, fault, Value, skipped, number, part, halves, unknown, value_of, Seen, seen_of, read, refused, read_from, read_at}
use Rattle.record.specs.Told.{kind_of_record, value_of_record, told_record}
use Rattle.record.specs.Laid.{none, layout_by, layout_of}
use Rattle.record.specs.Shown.{held_in, shown, given_by, given_bit, canonical, IsCanonical}
use Rattle.record.specs.Shown as held
use Rattle.record.specs.declared.NtsRecord.{NtsRecord}
use Rattle.record.specs.declared.NtsRecord.TheVariants as r
use Rattle.record.proofs.Read.{faultless}
use Rattle.record.proofs.Canonical.{canonical_same, same_canonical, header_taken}

-- a layout by its kind, the bit written, what the body holds, and its parts; one part alone has an empty second
abbrev laid : ℕ → Bool → Shape → Part → Part → Layout
laid k bit shape a b = record { kind = k; critical = bit; shape = shape; number = 0; first = a; second = b }

-- and one whose body is a number
abbrev laid_number : ℕ → Bool → ℕ → Layout
laid_number k bit n = record { kind = k; critical = bit; shape = shape.Number; number = n; first = none; second = none }

-- ---- a body without a fault

-- what a body of n bytes must be, by what it holds
abbrev pub Good : Shape → ℕ → List ℕ → Type 0
Good shape.Skipped n b = Unit {0}
Good shape.Numbers n b = n % 2 ≡ 0
Good shape.Number n b = n ≡ 2
Good shape.Bytes n b = Unit {0}
Good shape.Name n b = well_formed b ≡ true
Good shape.Pairs n b = n % 4 ≡ 0
Good shape.Halves n b = n % 2 ≡ 0
Good shape.Unknown n b = Unit {0}

whole : (n : ℕ) (b : List ℕ) → length b ≡ n → short n (length b) ≡ 0
unfolding short
whole n b e = rw (le-ltb (length b) n (omega arith))

pub good_faultless : (l : Shape) (n : ℕ) (b : List ℕ) → length b ≡ n → Good l n b → fault_of l n b ≡ 0
unfolding fault_of uneven not_number not_halves not_name not_utf8 first_of
good_faultless shape.Skipped n b e g = whole n b e
good_faultless shape.Numbers n b e g = rw (eq-eqb (n % 2) 0 g) (whole n b e)
good_faultless shape.Number n b e g = rw (le-ltb (length b) 2 (omega arith), eq-eqb n 2 g)
good_faultless shape.Bytes n b e g = whole n b e
good_faultless shape.Name n b e g = rw g (whole n b e)
good_faultless shape.Pairs n b e g = rw (eq-eqb (n % 4) 0 g) (whole n b e)
good_faultless shape.Halves n b e g = rw (le-ltb (length b) (2 * (n / 2)) (omega arith), eq-eqb (n % 2) 0 g)
good_faultless shape.Unknown n b e g = whole n b e

-- ---- the header comes back

pub word_kind : (k : ℕ) (bit : Bool) → k ≤ 32767 → kind_of (word_of k bit) ≡ k
unfolding kind_of word_of
word_kind k true h = omega arith
word_kind k false h = omega arith

pub word_bit : (k : ℕ) (bit : Bool) → k ≤ 32767 → critical_of (word_of k bit) ≡ bit
unfolding critical_of word_of
word_bit k true h = le-leb 0x8000 (k + 0x8000) (omega arith)
word_bit k false h = lt-leb 0x8000 k (omega arith)

length_before : (p : List ℕ) (w n : ℕ) → length (p ++ header w n) ≡ length p + 4
unfolding header bytes_of
length_before p w n = length-append p (header w n)

module _ (l : Layout) (s t : List ℕ) where
  word_back : number_at (record_bytes l s ++ t) 0 ≡ word_of l.kind l.critical
  unfolding record_bytes header bytes_of
  word_back = number_back (word_of l.kind l.critical) (bytes_of (body_size l) ++ (body_of l s ++ t))

  size_back : number_at (record_bytes l s ++ t) 2 ≡ body_size l
  unfolding record_bytes header bytes_of
  size_back = sym (number_drop (record_bytes l s ++ t) 2 0) ∙ number_back (body_size l) (body_of l s ++ t)

  rest_back : drop 4 (record_bytes l s ++ t) ≡ body_of l s ++ t
  unfolding record_bytes header bytes_of
  rest_back = refl

  header_there : 4 ≤ length (record_bytes l s ++ t)
  unfolding record_bytes header bytes_of
  header_there = omega arith

  -- a message with the record in it, cut before the record's body
  cut_body : (p : List ℕ) → p ++ (record_bytes l s ++ t) ≡ p ++ header (word_of l.kind l.critical) (body_size l) ++ (body_of l s ++ t)
  unfolding record_bytes
  cut_body p =
      let h = header (word_of l.kind l.critical) (body_size l) in
      ap (λ (b : List ℕ). p ++ b) (append_assoc h (body_of l s) t) ∙ sym (append_assoc p h (body_of l s ++ t))

  -- a record that was written, as it is read at the place `at`
  read_back : (at : ℕ) → is_record l s ≡ true → shape_of l.kind ≡ l.shape → Good l.shape (body_size l) (body_of l s)
      → read_from at (record_bytes l s ++ t) ≡ read (seen_of l.kind l.critical (at + 4) (body_size l) (body_of l s)) l.critical (at + 4 + body_size l)
  read_back at is e g =
      let k = (sound l s is).kind in
      let b : body_of l s ≡ take (body_size l) (drop 4 (record_bytes l s ++ t)) =
      sym (ap (take (body_size l)) rest_back ∙ take_at (body_of l s) t (body_size l) (length_body l s is)) in
      sym
      (faultless at (record_bytes l s ++ t) (word_of l.kind l.critical) (body_size l) l.kind l.shape (body_of l s) 0 header_there
      (sym word_back)
      (sym size_back)
      (sym (word_kind l.kind l.critical k))
      b
      (sym e)
      (sym (good_faultless l.shape (body_size l) (body_of l s) (length_body l s is) g))
      refl
      l.critical
      (seen_of l.kind l.critical (at + 4) (body_size l) (body_of l s))
      (sym (word_bit l.kind l.critical k))
      refl)

-- ---- what is read of a record that was written holds the same

record Forth (l : Layout) (v : Value) (s : List ℕ) : Type 0 where
  good : Good l.shape (body_size l) (body_of l s)
  same : (q t : List ℕ) (start : ℕ) → length q ≡ start
      → held_in (q ++ (body_of l s ++ t)) (value_of l.shape l.critical start (body_size l) (body_of l s)) ≡ held_in s v

module _ (k : ℕ) (bit : Bool) (s : List ℕ) where
  skipped_forth : Forth (laid k bit shape.Skipped none none) skipped s
  unfolding value_of held_in
  skipped_forth = record { good = tt; same = λ q t start e. refl }

  number_forth : (n : ℕ) → Forth (laid_number k bit n) (number n) s
  unfolding value_of held_in body_size body_of is_number bytes_of
  number_forth n = record { good = refl; same = λ q t start e. ap held.number (number_back n []) }

  module _ (p : Part) (l : Shape) (parts : is_number l ≡ false) where
    part_size : body_size (laid k bit l p none) ≡ p.len
    unfolding body_size
    part_size = rw (parts, add-zero)

    part_body : body_of (laid k bit l p none) s ≡ part_at s p.start p.len
    unfolding body_of
    part_body = rw (parts, part_empty, append-nil)

    -- the part that is read, in a message that goes on with the body at its start
    part_same : is_record (laid k bit l p none) s ≡ true → (q t : List ℕ) (start : ℕ) → length q ≡ start
        → part_at (q ++ (body_of (laid k bit l p none) s ++ t)) start (body_size (laid k bit l p none)) ≡ part_at s p.start p.len
    part_same is q t start e = part_between q (body_of (laid k bit l p none) s) t start (body_size (laid k bit l p none)) e (length_body (laid k bit l p none) s is) ∙ part_body

  part_forth : (p : Part) (l : Shape) → is_number l ≡ false → ((start n : ℕ) (b : List ℕ) → value_of l bit start n b ≡ part start n)
      → Good l p.len (part_at s p.start p.len) → is_record (laid k bit l p none) s ≡ true → Forth (laid k bit l p none) (part p.start p.len) s
  unfolding held_in
  part_forth p l parts v g is =
      record {
        good = rw (part_size p l parts, part_body p l parts) g;
        same = λ q t start e. rw v (ap held.bytes (part_same p l parts is q t start e));
      }

  unknown_forth : (p : Part) → is_record (laid k bit shape.Unknown p none) s ≡ true → Forth (laid k bit shape.Unknown p none) (unknown bit p.start p.len) s
  unfolding held_in value_of is_number
  unknown_forth p is = record { good = tt; same = λ q t start e. ap (held.unknown bit) (part_same p shape.Unknown refl is q t start e) }

  halves_forth : (a b : Part) → is_record (laid k bit shape.Halves a b) s ≡ true
      → Forth (laid k bit shape.Halves a b) (halves a.start a.len b.start b.len) s
  unfolding held_in value_of is_number is_sound body_size body_of
  halves_forth a b is =
      let z = sound (laid k bit shape.Halves a b) s is in
      let d : a.len ≡ b.len = eqb-true a.len b.len z.body in
      let h : (a.len + b.len) / 2 ≡ a.len = omega arith in
      let x = part_at s a.start a.len in
      let y = part_at s b.start b.len in
      let m : length x ≡ a.len = length_part s _ _ z.first in
      let n : length y ≡ a.len = length_part s _ _ z.second ∙ sym d in
      record {
        good = omega arith;
        same = λ q t start e.
            let i : part_at (q ++ (x ++ y ++ t)) start a.len ≡ x = rw append_assoc (part_between q x (y ++ t) start a.len e m) in
            let j : part_at (q ++ (x ++ y ++ t)) (start + a.len) a.len ≡ y =
            rw (append_assoc x y t, ← append_assoc) (part_between (q ++ x) y t (start + a.len) a.len (simp length-append (omega arith)) n) in
            rw (h, i, j);
      }

-- a kind's number says what its body holds
shaped : (k : ℕ) (v : Value) (s : List ℕ) → is_record (layout_by k v) s ≡ true → shape_of (layout_by k v).kind ≡ (layout_by k v).shape
unfolding is_sound
shaped k skipped s is = refl
shaped k (number n) s is = refl
shaped k (part a n) s is = refl
shaped k (halves a n b m) s is = refl
shaped k (unknown bit a n) s is = unknown_shape k (sound (layout_by k (unknown bit a n)) s is).body

module _ (k : ℕ) (bit : Bool) (s : List ℕ) (p : Part) where
  numbers_forth : is_record (laid k bit shape.Numbers p none) s ≡ true → Forth (laid k bit shape.Numbers p none) (part p.start p.len) s
  unfolding value_of is_number is_sound
  numbers_forth is =
      part_forth k bit s p shape.Numbers refl (λ start n b. refl) (eqb-true (p.len % 2) 0 (sound (laid k bit shape.Numbers p none) s is).body) is

  bytes_forth : is_record (laid k bit shape.Bytes p none) s ≡ true → Forth (laid k bit shape.Bytes p none) (part p.start p.len) s
  unfolding value_of is_number
  bytes_forth is = part_forth k bit s p shape.Bytes refl (λ start n b. refl) tt is

  name_forth : is_record (laid k bit shape.Name p none) s ≡ true → Forth (laid k bit shape.Name p none) (part p.start p.len) s
  unfolding value_of is_number is_sound
  name_forth is = part_forth k bit s p shape.Name refl (λ start n b. refl) (sound (laid k bit shape.Name p none) s is).body is

  pairs_forth : is_record (laid k bit shape.Pairs p none) s ≡ true → Forth (laid k bit shape.Pairs p none) (part p.start p.len) s
  unfolding value_of is_number is_sound
  pairs_forth is =
      part_forth k bit s p shape.Pairs refl (λ start n b. refl) (eqb-true (p.len % 4) 0 (sound (laid k bit shape.Pairs p none) s is).body) is

forth : (x : NtsRecord) (s : List ℕ) → is_record (layout_of x) s ≡ true → Forth (layout_of x) (value_of_record x) s
unfolding row_of shape_of bit_of
forth r.EndOfMessage s is = skipped_forth 0 true s
forth (r.NextProtocol p) s is = numbers_forth 1 true s p is
forth (r.Error c) s is = number_forth 2 true s c.0
forth (r.Warning c) s is = number_forth 3 true s c.0
forth (r.AeadAlgorithm p) s is = numbers_forth 4 true s p is
forth (r.NewCookie p) s is = bytes_forth 5 false s p is
forth (r.Server p) s is = name_forth 6 true s p is
forth (r.Port n) s is = number_forth 7 true s n
forth r.KeepAlive s is = skipped_forth 8 false s
forth (r.SupportedNextProtocolList p) s is = numbers_forth 9 true s p is
forth (r.SupportedAlgorithmList p) s is = pairs_forth 10 true s p is
forth (r.FixedKeyRequest a b) s is = halves_forth 12 true s a b is
forth (r.NtpServerDeny p) s is = name_forth 13 false s p is
forth (r.Authentication p) s is = name_forth 14 false s p is
forth (r.Unknown k bit p) s is = unknown_forth k bit s p is

laid_kind : (k : ℕ) (v : Value) → (layout_by k v).kind ≡ k
laid_kind k skipped = refl
laid_kind k (number n) = refl
laid_kind k (part a n) = refl
laid_kind k (halves a n b m) = refl
laid_kind k (unknown bit a n) = refl

told_kind : (x : NtsRecord) → (layout_of x).kind ≡ kind_of_record x
told_kind x = laid_kind (kind_of_record x) (value_of_record x)

-- the bit of a record laid out is the table's, and of an unknown record the one given
laid_bit : (k : ℕ) (v : Value) (s : List ℕ) → is_record (layout_by k v) s ≡ true → (layout_by k v).critical ≡ bit_of k (given_by v)
unfolding is_sound
laid_bit k skipped s is = refl
laid_bit k (number n) s is = refl
laid_bit k (part a n) s is = refl
laid_bit k (halves a n b m) s is = refl
laid_bit k (unknown bit a n) s is = sym (unknown_bit k bit (sound (layout_by k (unknown bit a n)) s is).body)

module _ (x : NtsRecord) (s : List ℕ) (n : ℕ) (m : measured (layout_of x) s ≡ bytes n) where
  -- a record that was written, anywhere in a message, is read back: exactly its bytes are taken, it holds the same, and its bit is the one that the
  -- table says, and of an unknown record the one given
  pub written_read : (p t : List ℕ)
      → (y : Seen)
      × (read_at (p ++ (record_bytes (layout_of x) s ++ t)) (length p) ≡ read y (bit_of (kind_of_record x) (given_bit x)) (length p + n))
      × (shown y (p ++ (record_bytes (layout_of x) s ++ t)) ≡ shown (told_record x) s)
  unfolding read_at shown seen_of
  written_read p t =
      let l = layout_of x in
      let is = (measured_long l s n (sym m)).is in
      let z = (measured_long l s n (sym m)).whole in
      let f = forth x s is in
      let e = shaped (kind_of_record x) (value_of_record x) s is in
      let y = seen_of l.kind l.critical (length p + 4) (body_size l) (body_of l s) in
      let h : length p + 4 + body_size l ≡ length p + n = omega arith in
      let q = p ++ header (word_of l.kind l.critical) (body_size l) in
      let held : held_in (p ++ (record_bytes l s ++ t)) y.value ≡ held_in s (value_of_record x) =
      rw (e, cut_body l s t p) (f.same q t (length p + 4) (length_before p (word_of l.kind l.critical) (body_size l))) in (
        y,
        ap (read_from (length p)) (drop_at p (record_bytes l s ++ t) (length p) refl) ∙ read_back l s t (length p) is e f.good ∙ (λ j. read y (laid_bit (kind_of_record x) (value_of_record x) s is j) (h j)),
        λ j. record { kind = told_kind x j; held = held j },
      )

  -- the bit that is read is the one that the table says, and of an unknown record the one given
  pub written_bit : (t : List ℕ) → critical (record_bytes (layout_of x) s ++ t) ≡ bit_of (kind_of_record x) (given_bit x)
  unfolding critical
  written_bit t =
      let l = layout_of x in
      let is = (measured_long l s n (sym m)).is in
      ap critical_of (word_back l s t) ∙ word_bit l.kind l.critical (sound l s is).kind ∙ laid_bit (kind_of_record x) (value_of_record x) s is

-- ---- a body that was read without a fault

-- a chain of tests for a fault that found none
passed : (t : Bool) (a b : ℕ) → 0 < a → cond t a b ≡ 0 → (t ≡ false) × (b ≡ 0)
passed true a b h e = absurd (let z : ⊥ = omega arith in z)
passed false a b h e = (refl, e)

failed : (t : Bool) (a b : ℕ) → 0 < b → cond t a b ≡ 0 → (t ≡ true) × (a ≡ 0)
failed true a b h e = (refl, e)
failed false a b h e = absurd (let z : ⊥ = omega arith in z)

not_short : (n m : ℕ) → short n m ≡ 0 → n ≤ m
unfolding short
not_short n m e = ltb-false m n (passed (ltb m n) 1 0 (omega arith) e).0

not_uneven : (u n m : ℕ) → uneven u n m ≡ 0 → (n % u ≡ 0) × (n ≤ m)
unfolding uneven
not_uneven u n m e = let x = failed (eqb (n % u) 0) (short n m) 1 (omega arith) e in (eqb-true (n % u) 0 x.0, not_short n m x.1)

well_named : (b : List ℕ) (g : ℕ) → first_of (not_utf8 b) g ≡ 0 → (well_formed b ≡ true) × (g ≡ 0)
unfolding first_of not_utf8
well_named b g e = go (well_formed b) e
  where
    go : (t : Bool) → cond (eqb (cond t 0 2) 0) g (cond t 0 2) ≡ 0 → (t ≡ true) × (g ≡ 0)
    go true e = (refl, e)
    go false e = absurd (let z : ⊥ = omega arith in z)

faultless_good : (l : Shape) (n : ℕ) (b : List ℕ) → fault_of l n b ≡ 0 → (n ≤ length b) × Good l n b
unfolding fault_of not_number not_halves not_name
faultless_good shape.Skipped n b e = (not_short n (length b) e, tt)
faultless_good shape.Numbers n b e = let x = not_uneven 2 n (length b) e in (x.1, x.0)
faultless_good shape.Number n b e =
    let x = passed (ltb (length b) 2) 1 _ (omega arith) e in
    let y = eqb-true n 2 (failed (eqb n 2) 0 2 (omega arith) x.1).0 in
    (omega (arith, ltb-false (length b) 2 x.0), y)
faultless_good shape.Bytes n b e = (not_short n (length b) e, tt)
faultless_good shape.Name n b e = let x = well_named b (short n (length b)) e in (not_short n (length b) x.1, x.0)
faultless_good shape.Pairs n b e = let x = not_uneven 4 n (length b) e in (x.1, x.0)
faultless_good shape.Halves n b e =
    let x = passed (ltb (length b) (2 * (n / 2))) 1 _ (omega arith) e in
    let y = eqb-true (n % 2) 0 (failed (eqb (n % 2) 0) 0 2 (omega arith) x.1).0 in
    (omega (arith, ltb-false (length b) (2 * (n / 2)) x.0), y)
faultless_good shape.Unknown n b e = (not_short n (length b) e, tt)

only_unknown : (l : Shape) (c : Bool) (start n : ℕ) (b : List ℕ) (bit : Bool) (i j : ℕ) → value_of l c start n b ≡ unknown bit i j → l ≡ shape.Unknown
unfolding value_of
only_unknown shape.Skipped c start n b bit i j e = let z : ◌≡◌ {A = ℕ} 0 1 = cc in absurd (omega arith)
only_unknown shape.Numbers c start n b bit i j e = let z : ◌≡◌ {A = ℕ} 0 1 = cc in absurd (omega arith)
only_unknown shape.Number c start n b bit i j e = let z : ◌≡◌ {A = ℕ} 0 1 = cc in absurd (omega arith)
only_unknown shape.Bytes c start n b bit i j e = let z : ◌≡◌ {A = ℕ} 0 1 = cc in absurd (omega arith)
only_unknown shape.Name c start n b bit i j e = let z : ◌≡◌ {A = ℕ} 0 1 = cc in absurd (omega arith)
only_unknown shape.Pairs c start n b bit i j e = let z : ◌≡◌ {A = ℕ} 0 1 = cc in absurd (omega arith)
only_unknown shape.Halves c start n b bit i j e = let z : ◌≡◌ {A = ℕ} 0 1 = cc in absurd (omega arith)
only_unknown shape.Unknown c start n b bit i j e = refl

-- ---- what is written of a record that was read

-- a layout with the very body that was read, n bytes b
record Kept (l : Layout) (m : List ℕ) (n : ℕ) (b : List ℕ) : Type 0 where
  is : is_record l m ≡ true
  long : body_size l ≡ n
  body : body_of l m ≡ b

module _ (k : ℕ) (low : k ≤ 32767) (bit : Bool) (m : List ℕ) (start n : ℕ) (h : start + n ≤ length m) where
  part_kept : (p : Part) (l : Shape) → is_number l ≡ false → start ≡ p.start → n ≡ p.len → is_sound l k p none m ≡ true
      → Kept (laid k bit l p none) m n (part_at m start n)
  part_kept p l parts e f z =
      record {
        is = sound_record (laid k bit l p none) m (record { kind = low; first = omega arith; second = omega arith; body = z });
        long = part_size k bit m p l parts ∙ sym f;
        body = part_body k bit m p l parts ∙ rw (e, f);
      }

  numbers_kept : (p : Part) → part start n ≡ part p.start p.len → n % 2 ≡ 0 → Kept (laid k bit shape.Numbers p none) m n (part_at m start n)
  unfolding is_number is_sound
  numbers_kept p e g =
      let f : n ≡ p.len = cc in
      part_kept p shape.Numbers refl (cc) f (eq-eqb (p.len % 2) 0 (rw f at g))

  pairs_kept : (p : Part) → part start n ≡ part p.start p.len → n % 4 ≡ 0 → Kept (laid k bit shape.Pairs p none) m n (part_at m start n)
  unfolding is_number is_sound
  pairs_kept p e g =
      let f : n ≡ p.len = cc in
      part_kept p shape.Pairs refl (cc) f (eq-eqb (p.len % 4) 0 (rw f at g))

  bytes_kept : (p : Part) → part start n ≡ part p.start p.len → Kept (laid k bit shape.Bytes p none) m n (part_at m start n)
  unfolding is_number is_sound
  bytes_kept p e = part_kept p shape.Bytes refl (cc) (cc) refl

  name_kept : (p : Part) → part start n ≡ part p.start p.len → well_formed (part_at m start n) ≡ true
      → Kept (laid k bit shape.Name p none) m n (part_at m start n)
  unfolding is_number is_sound
  name_kept p e g =
      let d : start ≡ p.start = cc in
      let f : n ≡ p.len = cc in
      part_kept p shape.Name refl d f (rw (d, f) at g)

  unknown_kept : (p : Part) → start ≡ p.start → n ≡ p.len → is_unknown k ≡ true → Kept (laid k bit shape.Unknown p none) m n (part_at m start n)
  unfolding is_number is_sound
  unknown_kept p e f g = part_kept p shape.Unknown refl e f g

  halves_kept : (a b : Part) → halves start (n / 2) (start + n / 2) (n / 2) ≡ halves a.start a.len b.start b.len → n % 2 ≡ 0
      → Kept (laid k bit shape.Halves a b) m n (part_at m start n)
  unfolding is_number is_sound body_size body_of
  halves_kept a b e g =
      let i : start ≡ a.start = cc in
      let j : n / 2 ≡ a.len = cc in
      let c : start + n / 2 ≡ b.start = cc in
      let d : n / 2 ≡ b.len = cc in
      let t : n / 2 + n / 2 ≡ n = omega arith in
      record {
        is = sound_record (laid k bit shape.Halves a b) m
            (record { kind = low; first = omega arith; second = omega arith; body = eq-eqb a.len b.len (omega arith) });
        long = omega arith;
        body = rw (← i, ← j, ← c, ← d) (part_join m start (n / 2) (n / 2) (omega arith) ∙ ap (part_at m start) t);
      }

  number_kept : (x : ℕ) → ((i : ℕ) → get_or m i 0 < 256) → number (number_at (part_at m start n) 0) ≡ number x → n ≡ 2
      → Kept (laid_number k bit x) m n (part_at m start n)
  unfolding is_number is_sound body_size body_of
  number_kept x small e g =
      let f : number_at (part_at m start n) 0 ≡ x = cc in
      record {
        is = sound_record (laid_number k bit x) m (record { kind = low; first = omega arith; second = omega arith; body = refl });
        long = sym g;
        body = ap bytes_of (sym f)
            ∙ bytes_back (part_at m start n) (length_part m start n h ∙ g) (rw (part_at_lem m start n 1 h (omega arith)) (small (start + 1)));
      }

-- what is written, by what was read: the bit c, and the n bytes b
record Back (l : Layout) (m : List ℕ) (c : Bool) (n : ℕ) (b : List ℕ) : Type 0 where
  is : is_record l m ≡ true
  bit : l.critical ≡ bit_of l.kind c
  within : body_size l ≤ n
  whole : (l.kind ≡ 0 → ⊥) → (l.kind ≡ 8 → ⊥) → body_size l ≡ n
  tail : bytes_of (body_size l) ++ body_of l m ≡ cond (eqb l.kind 0 || eqb l.kind 8) (bytes_of 0) (bytes_of n ++ b)

kept_back : {l : Layout} {m : List ℕ} {c : Bool} {n : ℕ} {b : List ℕ} → l.critical ≡ bit_of l.kind c → (eqb l.kind 0 || eqb l.kind 8) ≡ false
    → Kept l m n b → Back l m c n b
kept_back {l} {m} {c} {n} {b} e f x =
    record { is = x.is; bit = e; within = omega (arith, x.long); whole = λ _ _. x.long; tail = rw (f, x.long, x.body) }

skipped_back : (k : ℕ) (bit : Bool) (m : List ℕ) (c : Bool) (n : ℕ) (b : List ℕ) → k ≤ 32767 → bit ≡ bit_of k c → (eqb k 0 || eqb k 8) ≡ true
    → ((k ≡ 0 → ⊥) → (k ≡ 8 → ⊥) → ⊥) → Back (laid k bit shape.Skipped none none) m c n b
unfolding is_number is_sound body_size body_of
skipped_back k bit m c n b low e f never =
    record {
      is = sound_record (laid k bit shape.Skipped none none) m (record { kind = low; first = omega arith; second = omega arith; body = refl });
      bit = e;
      within = omega arith;
      whole = λ i j. absurd (never i j);
      tail = rw (f, part_empty m) (append-nil (bytes_of 0));
    }

unknown_far : (k : ℕ) → is_unknown k ≡ true → (eqb k 0 || eqb k 8) ≡ false
unknown_far k e =
    on (eqb k 11)
    (λ t. rw (eqb-true k 11 t))
    (λ t.
    let h : 15 ≤ k = leb-true 15 k (rw t at (sym (unknown_numbers k) ∙ e)) in
    rw (ne_eqb k 0 (λ z. omega arith), ne_eqb k 8 (λ z. omega arith)))

module _ (m : List ℕ) (c : Bool) (start n : ℕ) (h : start + n ≤ length m) (small : (i : ℕ) → get_or m i 0 < 256) where
  unknown_back : (k : ℕ) (bit : Bool) (p : Part) → k ≤ 32767 → value_of (shape_of k) c start n (part_at m start n) ≡ unknown bit p.start p.len
      → Back (laid k bit shape.Unknown p none) m c n (part_at m start n)
  unfolding value_of
  unknown_back k bit p low e =
      let s = only_unknown (shape_of k) c start n (part_at m start n) bit p.start p.len e in
      let f : unknown c start n ≡ unknown bit p.start p.len = rw s at e in
      let u = shape_unknown k s in
      kept_back (cc (unknown_bit k c u)) (unknown_far k u) (unknown_kept k low bit m start n h p (cc) (cc) u)

  back : (x : NtsRecord) → (layout_of x).kind ≤ 32767 → Good (shape_of (layout_of x).kind) n (part_at m start n)
      → value_of (shape_of (layout_of x).kind) c start n (part_at m start n) ≡ value_of_record x → Back (layout_of x) m c n (part_at m start n)
  unfolding row_of shape_of bit_of value_of
  back r.EndOfMessage low g e = skipped_back 0 true m c n (part_at m start n) low refl refl (λ i j. i refl)
  back (r.NextProtocol p) low g e = kept_back refl refl (numbers_kept 1 low true m start n h p e g)
  back (r.Error x) low g e = kept_back refl refl (number_kept 2 low true m start n h x.0 small e g)
  back (r.Warning x) low g e = kept_back refl refl (number_kept 3 low true m start n h x.0 small e g)
  back (r.AeadAlgorithm p) low g e = kept_back refl refl (numbers_kept 4 low true m start n h p e g)
  back (r.NewCookie p) low g e = kept_back refl refl (bytes_kept 5 low false m start n h p e)
  back (r.Server p) low g e = kept_back refl refl (name_kept 6 low true m start n h p e g)
  back (r.Port x) low g e = kept_back refl refl (number_kept 7 low true m start n h x small e g)
  back r.KeepAlive low g e = skipped_back 8 false m c n (part_at m start n) low refl refl (λ i j. j refl)
  back (r.SupportedNextProtocolList p) low g e = kept_back refl refl (numbers_kept 9 low true m start n h p e g)
  back (r.SupportedAlgorithmList p) low g e = kept_back refl refl (pairs_kept 10 low true m start n h p e g)
  back (r.FixedKeyRequest a b) low g e = kept_back refl refl (halves_kept 12 low true m start n h a b e g)
  back (r.NtpServerDeny p) low g e = kept_back refl refl (name_kept 13 low false m start n h p e g)
  back (r.Authentication p) low g e = kept_back refl refl (name_kept 14 low false m start n h p e g)
  back (r.Unknown k bit p) low g e = unknown_back k bit p low e

-- ---- what a reader found, where it found a record

record Found (at : ℕ) (u : List ℕ) (y : Seen) (bit : Bool) (next : ℕ) : Type 0 where
  none : fault u ≡ 0
  marked : critical u ≡ bit
  same : kind u ≡ y.kind
  value : value_of (shape_of (kind u)) (critical u) (at + 4) (size u) (there u) ≡ y.value
  end : at + 4 + size u ≡ next

found : (at : ℕ) (u : List ℕ) (y : Seen) (bit : Bool) (next : ℕ) → read_from at u ≡ read y bit next → Found at u y bit next
unfolding read_from seen_of
found at u y bit next e =
    on (eqb (fault u) 0)
    (λ t.
    let f : read (seen_of (kind u) (critical u) (at + 4) (size u) (there u)) (critical u) (at + 4 + size u) ≡ read y bit next = rw t at e in
    let s : seen_of (kind u) (critical u) (at + 4) (size u) (there u) ≡ y = cc in
    record { none = eqb-true (fault u) 0 t; marked = cc; same = ap (λ (z : Seen). z.kind) s; value = ap (λ (z : Seen). z.value) s; end = cc })
    (λ t.
    let f : refused (record { number = fault u; beside = nothing; place = at }) ≡ read y bit next = rw t at e in
    let z : ◌≡◌ {A = ℕ} 0 1 = cc in
    absurd (omega arith))

whole_header : (u : List ℕ) → fault u ≡ 0 → (4 ≤ length u) × (fault_of (shape_of (kind u)) (size u) (there u) ≡ 0)
unfolding fault_by
whole_header u e = let x = passed (ltb (length u) 4) 1 _ (omega arith) e in (ltb-false (length u) 4 x.0, x.1)

-- a body that is all there is a part of the message
there_part : (m : List ℕ) (at : ℕ) → 4 ≤ length (drop at m) → size (drop at m) ≤ length (there (drop at m))
    → (at + 4 + size (drop at m) ≤ length m) × (there (drop at m) ≡ part_at m (at + 4) (size (drop at m)))
unfolding there part_at
there_part m at h g =
    let n = size (drop at m) in
    let a = length-drop at m in
    let b = length-drop 4 (drop at m) in
    let c = length-take n (drop 4 (drop at m)) in
    let l : at + 4 + n ≤ length m = omega arith in
    (l, rw (le-leb (at + 4 + n) (length m) l, drop-drop))

-- ---- the bytes of a record that was read

canonical_of : (u b : List ℕ) → 4 ≤ length u → get_or u 3 0 < 256
    → canonical (take 4 u ++ b)
    ≡ bytes_of (word_of (kind u) (bit_of (kind u) (critical u))) ++ cond (eqb (kind u) 0 || eqb (kind u) 8) (bytes_of 0) (bytes_of (size u) ++ b)
unfolding canonical kind critical size number_at bytes_of
canonical_of [] b h g = absurd (let z : ⊥ = omega arith in z)
canonical_of (c ∷ []) b h g = absurd (let z : ⊥ = omega arith in z)
canonical_of (c ∷ d ∷ []) b h g = absurd (let z : ⊥ = omega arith in z)
canonical_of (c ∷ d ∷ e ∷ []) b h g = absurd (let z : ⊥ = omega arith in z)
canonical_of (c ∷ d ∷ e ∷ f ∷ v) b h g =
    let p : e ≡ (e * 256 + f) / 256 = omega arith in
    let q : f ≡ (e * 256 + f) % 256 = omega arith in
    let k = kind_of (c * 256 + d) in
    let w = bytes_of (word_of k (bit_of k (critical_of (c * 256 + d)))) in
    ap (λ (t : Bool). w ++ cond t (bytes_of 0) (e ∷ f ∷ b)) (skipped_numbers k) ∙ (λ j. w ++ cond (eqb k 0 || eqb k 8) (bytes_of 0) (p j ∷ q j ∷ b))

record_cut : (l : Layout) (m : List ℕ) → record_bytes l m ≡ bytes_of (word_of l.kind l.critical) ++ (bytes_of (body_size l) ++ body_of l m)
unfolding record_bytes header
record_cut l m = append_assoc (bytes_of (word_of l.kind l.critical)) (bytes_of (body_size l)) (body_of l m)

-- a record's bytes are its header and what is there of its body
record_there : (u : List ℕ) (i : ℕ) → i ≡ 4 + size u → take i u ≡ take 4 u ++ there u
unfolding there
record_there u i e = ap (λ (j : ℕ). take j u) e ∙ take-add 4 (size u) u

written_canonical : (l : Layout) (m u : List ℕ) {b : List ℕ} → Back l m (critical u) (size u) b → l.kind ≡ kind u → there u ≡ b → 4 ≤ length u → get_or u 3 0 < 256
    → record_bytes l m ≡ canonical (take 4 u ++ there u)
written_canonical l m u x e f h g = rw (record_cut l m, x.tail, x.bit, e, ← f) (sym (canonical_of u (there u) h g))

kind_low : (x : NtsRecord) (u : List ℕ) → (layout_of x).kind ≡ kind u → (layout_of x).kind ≤ 32767
unfolding kind kind_of
kind_low x u e = omega arith

small_size : (m : List ℕ) (at : ℕ) → ((i : ℕ) → get_or m i 0 < 256) → size (drop at m) ≤ 65535
unfolding size number_at
small_size m at small = rw (get_or-drop, get_or-drop) (omega (arith, small (at + 2), small (at + 3)))

pub record Rewritten (x : NtsRecord) (m : List ℕ) (at : ℕ) (bit : Bool) (next : ℕ) : Type 0 where
  pub count : ℕ
  pub measures : measured (layout_of x) m ≡ bytes count
  pub within : count ≤ next - at
  pub whole : ((layout_of x).kind ≡ 0 → ⊥) → ((layout_of x).kind ≡ 8 → ⊥) → count ≡ next - at
  pub same : record_bytes (layout_of x) m ≡ canonical (take (next - at) (drop at m))
  -- in the bytes that were read exactly if the record is as `IsCanonical` says
  pub alike : IsCanonical (kind_of_record x) bit (next - (at + 4)) → record_bytes (layout_of x) m ≡ take (next - at) (drop at m)
  pub only_alike : record_bytes (layout_of x) m ≡ take (next - at) (drop at m) → IsCanonical (kind_of_record x) bit (next - (at + 4))

-- a record that was read from a message of bytes is written back
pub read_written : (x : NtsRecord) (m : List ℕ) (at : ℕ) (bit : Bool) (next : ℕ) → ((i : ℕ) → get_or m i 0 < 256) → read_at m at ≡ read (told_record x) bit next
    → Rewritten x m at bit next
unfolding read_at
read_written x m at bit next small e =
    let u = drop at m in
    let l = layout_of x in
    let n = size u in
    let f = found at u (told_record x) bit next e in
    let w = whole_header u f.none in
    let g = faultless_good (shape_of (kind u)) n (there u) w.1 in
    let t = there_part m at w.0 g.0 in
    let k : l.kind ≡ kind u = told_kind x ∙ sym f.same in
    let b =
    back m (critical u) (at + 4) n t.0 small x (kind_low x u k)
    (rw (k, ← t.1) g.1)
    (rw (k, ← t.1) f.value) in
    let d : next - at ≡ 4 + n = omega (arith, f.end) in
    let fits : n ≤ 65535 = small_size m at small in
    let s : record_bytes l m ≡ canonical (take (next - at) u) = rw (record_there u (next - at) d) (written_canonical l m u b k t.1 w.0 (rw get_or-drop (small (at + 3)))) in
    let h = header_taken u (next - at) (omega arith) in
    let body : size u ≡ next - (at + 4) = omega (arith, f.end) in
    let long : length (take (next - at) u) ≡ 4 + size (take (next - at) u) = length-take (next - at) u ∙ omega (arith, h.2, length-drop at m, t.0) in
    record {
      count = 4 + body_size l;
      measures = sym (just_long l m b.is (omega (arith, b.within)));
      within = omega (arith, b.within);
      whole = λ i j. omega (arith, b.whole i j);
      same = s;
      alike = λ c. s ∙ canonical_same (take (next - at) u) (small_part m (next - at) at small) long (rw (h.0, h.1, h.2, f.same, f.marked, body) c);
      only_alike = λ q. rw (h.0, h.1, h.2, f.same, f.marked, body) at (same_canonical (take (next - at) u) (sym s ∙ q));
    }
