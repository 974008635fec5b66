-- Demand 2's round trip of one record: the theorems over the definitions of record/specs (Record.antt, Laid.antt, Shown.antt) and layout/specs (Table.antt, Write.antt),
-- and for each what it says of calls of record::NtsRecord::serialize, length and parse, of their answers and of the output afterwards.
-- Assumes nothing.
use mathlib.Core.Path.{◌≡◌, refl, sym, ap, ◌∙◌}
use mathlib.Core.List.{List, [], ◌∷◌, ◌++◌}
use mathlib.Core.Bool.{Bool, true, false}
use Prim.Native.Nat.{ℕ, ◌+◌, ◌-◌, ◌<◌, ◌≤◌}
use native.Mathlib.Omega.{arith}
use borrow.Author.Tests.{ltb-false, le-ltb}
use lib.Dec.{ltb}
use lib.ListN.{length, take, drop, get_or, length-drop}
use lib.Seq.{take_at, length-take-le}
use Rattle.utf8.proofs.Tests.{on}
use Rattle.wire.specs.Over.{over, bytes_of}
use Rattle.nts.specs.Refusal.{nothing}
use Rattle.layout.specs.Table.{bit_of, is_unknown}
use Rattle.layout.specs.Write.{is_record, body_size, header, record_bytes, Count, bytes, refused, told_count, measured, fitted, written, left_by, Wrote}
use Rattle.layout.specs.declared.Layout.{Layout}
use Rattle.layout.specs.declared.ByteCount.{ByteCount}
use Rattle.layout.specs.declared.ByteCount.TheVariants.{Bytes}
use Rattle.layout.proofs.Apart.{count_apart}
use Rattle.layout.proofs.Table.{known_bit}
use Rattle.layout.proofs.Writing.{length_body, just_long, measured_long}
use Rattle.record.specs.Record.{kind, critical, Seen, read, read_at}
use Rattle.record.specs.Told.{kind_of_record, told_record, told_parsed}
use Rattle.record.specs.Laid.{layout_of}
use Rattle.record.specs.Shown.{shown, given_bit, canonical, IsCanonical}
use Rattle.record.specs.declared.NtsRecord.{NtsRecord}
use Rattle.record.specs.declared.Reading.{Reading}
use Rattle.record.specs.declared.Parsed.{Parsed}
use Rattle.record.specs.declared.Parsed.TheVariants.{Read, Refused}
use Rattle.record.proofs.Bits.{read_inside}
use Rattle.record.proofs.Canonical as canon
use Rattle.record.proofs.Trip as trip
use Rattle.record.proofs.NtsRecord.serialize.Reads as serialize
use Rattle.record.proofs.NtsRecord.length.Reads as measure
use Rattle.record.proofs.NtsRecord.parse.Reads as parse

-- ---- over the definitions: what is written is read back

-- the record x, its parts in s, for which the writer's definition answers n bytes: they are `record_bytes (layout_of x) s`
module _ (x : NtsRecord) (s : List ℕ) (n : ℕ) (w : measured (layout_of x) s ≡ bytes n) where
  -- "Writing a record and reading it gives that record.": in front of any other bytes t and at any place of a larger message, after the bytes p.
  -- Exactly the bytes that were written are taken, and the kind, the numbers and the bodies are the same. 02, order 4: "reading what was written gives the
  -- table's bit", and of an unknown record the one given, its own
  pub written_read : (p t : List ℕ)
      → (y : Seen)
      × (read_at (p ++ (record_bytes (layout_of x) s ++ t)) (length p) ≡ read y (bit_of (kind_of_record x) (given_bit x)) (length p + n))
      × (shown y (p ++ (record_bytes (layout_of x) s ++ t)) ≡ shown (told_record x) s)
  written_read = trip.written_read x s n w

  -- the bit that stands there is the table's, and of an unknown record the one given
  pub written_bit : (t : List ℕ) → critical (record_bytes (layout_of x) s ++ t) ≡ bit_of (kind_of_record x) (given_bit x)
  written_bit = trip.written_bit x s n w

  -- and the answer is how many bytes they are
  pub written_length : length (record_bytes (layout_of x) s) ≡ n
  unfolding record_bytes header bytes_of
  written_length =
      let l = measured_long (layout_of x) s n (sym w) in
      omega (arith, length_body (layout_of x) s l.is)

-- of a known kind the table's bit is the same for whatever is given
pub table_bit : (x : NtsRecord) (bit : Bool) → is_unknown (kind_of_record x) ≡ false → bit_of (kind_of_record x) (given_bit x) ≡ bit_of (kind_of_record x) bit
table_bit x bit e = known_bit (kind_of_record x) (given_bit x) bit e

-- ---- over the definitions: what is read is written back

-- what is read can be written again from the same message, if that is bytes: in k bytes, which are those that were read made `canonical`; as many
-- as were read, but for kinds 0 and 8
pub read_written : (x : NtsRecord) (m : List ℕ) (at : ℕ) (bit : Bool) (next : ℕ) → ((i : ℕ) → get_or m i 0 < 256) → read_at m at ≡ read (told_record x) bit next
    → (k : ℕ)
    × (measured (layout_of x) m ≡ bytes k)
    × (record_bytes (layout_of x) m ≡ canonical (take (next - at) (drop at m)))
    × (k ≤ next - at)
    × (((layout_of x).kind ≡ 0 → ⊥) → ((layout_of x).kind ≡ 8 → ⊥) → k ≡ next - at)
read_written x m at bit next small e = let a = trip.read_written x m at bit next small e in (a.count, a.measures, a.same, a.within, a.whole)

-- they are the bytes that were read exactly if the bit received is the one that is written, and the body of an end record or a keep-alive record was
-- empty: both ways
module _ (x : NtsRecord) (m : List ℕ) (at : ℕ) (bit : Bool) (next : ℕ) (small : (i : ℕ) → get_or m i 0 < 256) (e : read_at m at ≡ read (told_record x) bit next) where
  pub read_written_same : IsCanonical (kind_of_record x) bit (next - (at + 4)) → record_bytes (layout_of x) m ≡ take (next - at) (drop at m)
  read_written_same = (trip.read_written x m at bit next small e).alike

  pub read_written_only : record_bytes (layout_of x) m ≡ take (next - at) (drop at m) → IsCanonical (kind_of_record x) bit (next - (at + 4))
  read_written_only = (trip.read_written x m at bit next small e).only_alike

-- the bytes are the same but for the bit of a known kind and, for kinds 0 and 8, the size and the body: what `canonical` leaves of bytes b
module _ (b : List ℕ) where
  -- the kind is the same
  pub canonical_kind : kind (canonical b) ≡ kind b
  canonical_kind = canon.canonical_kind b

  -- the bit is the one of the table, and of an unknown kind the same
  pub canonical_bit : critical (canonical b) ≡ bit_of (kind b) (critical b)
  canonical_bit = canon.canonical_bit b

  -- the size and the body of any kind but 0 and 8 are the same
  pub canonical_rest : (kind b ≡ 0 → ⊥) → (kind b ≡ 8 → ⊥) → drop 2 (canonical b) ≡ drop 2 b
  canonical_rest = canon.canonical_rest b

  -- of those two the size is 0, and there is no body
  pub canonical_end : kind b ≡ 0 → drop 2 (canonical b) ≡ 0 ∷ 0 ∷ []
  canonical_end = canon.canonical_end b

  pub canonical_keep_alive : kind b ≡ 8 → drop 2 (canonical b) ≡ 0 ∷ 0 ∷ []
  canonical_keep_alive = canon.canonical_keep_alive b

-- ---- calls, with their answers: what each function's own contract says of them

-- of record::NtsRecord::serialize on the record x, its parts in s, into the output o, which is o' afterwards
pub record Serialized (x : NtsRecord) (s o : List ℕ) (r : ByteCount) (o' : List ℕ) : Type 1 where
  pub κs : _
  pub a : _
  pub e : _
  pub met : serialize.Learnt κs a r e
  pub of_record : a.0 ≡ x
  pub of_source : a.1.0.now ≡ s
  pub of_output : a.1.1.0.now ≡ o
  pub of_exit : e.1.1.0.now ≡ o'

-- of record::NtsRecord::length on the record x, its parts in s
pub record Measured (x : NtsRecord) (s : List ℕ) (r : ByteCount) : Type 1 where
  pub κs : _
  pub a : _
  pub e : _
  pub met : measure.Learnt κs a r e
  pub of_record : a.0 ≡ x
  pub of_source : a.1.0.now ≡ s

-- of record::NtsRecord::parse on the message m at the place `at`
pub record ParsedAt (m : List ℕ) (at : ℕ) (r : Parsed) : Type 1 where
  pub κs : _
  pub a : _
  pub e : _
  pub met : parse.Learnt κs a r e
  pub of_message : a.0.now ≡ m
  pub of_place : a.1.0 ≡ at

wrote : (x : NtsRecord) (s o : List ℕ) (r : ByteCount) (o' : List ℕ) → Serialized x s o r o'
    → Wrote (written (layout_of x) s (length o)) (record_bytes (layout_of x) s) o r o'
wrote x s o r o' c = rw (← c.of_record, ← c.of_source, ← c.of_output, ← c.of_exit) c.met

counted : (x : NtsRecord) (s : List ℕ) (r : ByteCount) → Measured x s r → told_count r ≡ measured (layout_of x) s
counted x s r c = rw (← c.of_record, ← c.of_source) c.met

pub parsed : (m : List ℕ) (at : ℕ) (r : Parsed) → ParsedAt m at r → told_parsed r ≡ read_at m at
parsed m at r c = rw (← c.of_message, ← c.of_place) c.met

-- an answer that tells of a record is one
pub read_answer : (r : Parsed) (y : Seen) (bit : Bool) (next : ℕ) → told_parsed r ≡ read y bit next
    → (z : Reading) × (r ≡ Read z) × (told_record z.item ≡ y) × (z.critical ≡ bit) × (z.next.at ≡ next)
read_answer (Read z) y bit next e = (z, refl, cc, cc, cc)
read_answer (Refused q) y bit next e = let z : ◌≡◌ {A = ℕ} 0 1 = cc in absurd (omega arith)

module _ (l : Layout) (s o : List ℕ) where
  -- a writer that answered n bytes measured them, had room for them and put them over the output's front
  wrote_bytes : (o' : List ℕ) (n : ℕ) → Wrote (written l s (length o)) (record_bytes l s) o (Bytes n) o'
      → (measured l s ≡ bytes n) × (n ≤ length o) × (o' ≡ over (record_bytes l s) o)
  unfolding written fitted left_by
  wrote_bytes o' n w = go (measured l s) refl w.says w.left
    where
      go : (c : Count) → measured l s ≡ c → bytes n ≡ fitted (length o) c → o' ≡ left_by (fitted (length o) c) (record_bytes l s) o
          → (measured l s ≡ bytes n) × (n ≤ length o) × (o' ≡ over (record_bytes l s) o)
      go (bytes k) e f g =
          on (ltb (length o) k)
          (λ t.
          let q : bytes n ≡ refused 10 nothing = rw t at f in
          let z : ◌≡◌ {A = ℕ} 0 1 = cc in
          absurd (omega arith))
          (λ t.
          let q : bytes n ≡ bytes k = rw t at f in
          let d : k ≡ n = cc in
          let h = ltb-false (length o) k t in
          (e ∙ ap bytes d, omega arith, rw t at g))
      go (refused k b) e f g = let z : ◌≡◌ {A = ℕ} 0 1 = cc in absurd (omega arith)

  -- and one that measures k bytes and has room for them answers so
  wrote_room : (r : ByteCount) (o' : List ℕ) (k : ℕ) → Wrote (written l s (length o)) (record_bytes l s) o r o' → measured l s ≡ bytes k → k ≤ length o
      → (r ≡ Bytes k) × (o' ≡ over (record_bytes l s) o)
  unfolding written fitted left_by
  wrote_room r o' k w e h =
      let a : told_count r ≡ bytes k = w.says ∙ rw (e, le-ltb (length o) k h) in
      (count_apart r (Bytes k) a, w.left ∙ rw (e, le-ltb (length o) k h))

-- ---- of calls: 01's domain for writing, each record that refusal 9 does not name and whose body is at most 65,535 bytes

-- every record of 01's domain is written where there is room: every call of serialize answers its exact length, and its bytes stand at the output's front
pub serialize_writes : (x : NtsRecord) (s o : List ℕ) (r : ByteCount) (o' : List ℕ) → Serialized x s o r o'
    → is_record (layout_of x) s ≡ true → body_size (layout_of x) ≤ 65535 → 4 + body_size (layout_of x) ≤ length o
    → (r ≡ Bytes (4 + body_size (layout_of x))) × (o' ≡ over (record_bytes (layout_of x) s) o)
serialize_writes x s o r o' c is fits room =
    let l = layout_of x in
    wrote_room l s o r o' (4 + body_size l) (wrote x s o r o' c) (sym (just_long l s is fits)) room

-- and measured whatever the room: every call of length answers its exact length
pub length_measures : (x : NtsRecord) (s : List ℕ) (r : ByteCount) → Measured x s r → is_record (layout_of x) s ≡ true → body_size (layout_of x) ≤ 65535
    → r ≡ Bytes (4 + body_size (layout_of x))
length_measures x s r c is fits =
    let l = layout_of x in
    count_apart r (Bytes (4 + body_size l)) (counted x s r c ∙ sym (just_long l s is fits))

-- ---- of calls: what serialize wrote, parse reads

-- serialize on the record x, its parts in s, answered n and left o' of the output o
module _ (x : NtsRecord) (s o : List ℕ) (n : ℕ) (o' : List ℕ) (c : Serialized x s o (Bytes n) o') where
  -- it changed exactly the n bytes at the output's front, which are the record's, and nothing after
  pub serialize_leaves : (length (record_bytes (layout_of x) s) ≡ n) × (n ≤ length o) × (o' ≡ over (record_bytes (layout_of x) s) o)
  serialize_leaves =
      let w = wrote_bytes (layout_of x) s o o' n (wrote x s o (Bytes n) o' c) in
      (written_length x s n w.0, w.1, w.2)

  serialize_front : take n o' ≡ record_bytes (layout_of x) s
  unfolding over
  serialize_front =
      let b = record_bytes (layout_of x) s in
      ap (take n) serialize_leaves.2 ∙ take_at b (drop (length b) o) n serialize_leaves.0

  -- the bytes of the record at a place of any message m
  reads_back : (p t m : List ℕ) → m ≡ p ++ (record_bytes (layout_of x) s ++ t) → (r : Parsed) → ParsedAt m (length p) r
      → (z : Reading) × (r ≡ Read z) × (z.next.at ≡ length p + n) × (shown (told_record z.item) m ≡ shown (told_record x) s)
      × (z.critical ≡ bit_of (kind_of_record x) (given_bit x))
  reads_back p t m e r k =
      let y = written_read x s n (wrote_bytes (layout_of x) s o o' n (wrote x s o (Bytes n) o' c)).0 p t in
      let z = read_answer r y.0 (bit_of (kind_of_record x) (given_bit x)) (length p + n) (parsed m (length p) r k ∙ ap (λ (b : List ℕ). read_at b (length p)) e ∙ y.1) in
      (z.0, z.1, z.4, ap (λ (q : Seen). shown q m) z.2 ∙ ap (shown y.0) e ∙ y.2, z.3)

  -- "Writing a record and reading it gives that record.": every call of parse at the output's front answers it, and the place after its n bytes. The bit
  -- is the table's, and of an unknown record the one given, its own
  pub serialize_parse : (r : Parsed) → ParsedAt o' 0 r
      → (z : Reading) × (r ≡ Read z) × (z.next.at ≡ n) × (shown (told_record z.item) o' ≡ shown (told_record x) s)
      × (z.critical ≡ bit_of (kind_of_record x) (given_bit x))
  unfolding over
  serialize_parse r k =
      let z = reads_back [] (drop (length (record_bytes (layout_of x) s)) o) o' serialize_leaves.2 r k in
      (z.0, z.1, omega (arith, z.2), z.3, z.4)

  -- and so wherever the n bytes stand in a message
  pub serialize_parse_in : (p t : List ℕ) (r : Parsed) → ParsedAt (p ++ (take n o' ++ t)) (length p) r
      → (z : Reading) × (r ≡ Read z) × (z.next.at ≡ length p + n)
      × (shown (told_record z.item) (p ++ (take n o' ++ t)) ≡ shown (told_record x) s)
      × (z.critical ≡ bit_of (kind_of_record x) (given_bit x))
  serialize_parse_in p t r k =
      reads_back p t (p ++ (take n o' ++ t)) (ap (λ (a : List ℕ). p ++ (a ++ t)) serialize_front) r k

  -- the bit in the output is the table's, and of an unknown record the one given
  pub serialize_bit : critical o' ≡ bit_of (kind_of_record x) (given_bit x)
  unfolding over
  serialize_bit =
      let w = wrote_bytes (layout_of x) s o o' n (wrote x s o (Bytes n) o' c) in
      ap critical w.2 ∙ written_bit x s n w.0 (drop (length (record_bytes (layout_of x) s)) o)

-- ---- of calls: what parse read, serialize writes

-- the record of z, read from m at the place `at`, is written again from m
pub record Again (m : List ℕ) (at : ℕ) (z : Reading) : Type 1 where
  -- in so many bytes: as many as were read, but for kinds 0 and 8
  pub count : ℕ
  pub within : count ≤ z.next.at - at
  pub whole : ((layout_of z.item).kind ≡ 0 → ⊥) → ((layout_of z.item).kind ≡ 8 → ⊥) → count ≡ z.next.at - at
  -- every call of length answers that
  pub lengths : (r : ByteCount) → Measured z.item m r → r ≡ Bytes count
  -- and so does every call of serialize into an output with room for them. Exactly they change, and they are those that were read, made
  -- `canonical`
  pub size : length (canonical (take (z.next.at - at) (drop at m))) ≡ count
  pub writes : (o : List ℕ) (r : ByteCount) (o' : List ℕ) → Serialized z.item m o r o' → count ≤ length o
      → (r ≡ Bytes count) × (o' ≡ over (canonical (take (z.next.at - at) (drop at m))) o)

-- any two calls of length on one record answer the same
pub length_same : (x : NtsRecord) (s : List ℕ) (r r' : ByteCount) → Measured x s r → Measured x s r' → r ≡ r'
length_same x s r r' c c' = count_apart r r' (counted x s r c ∙ sym (counted x s r' c'))

-- whatever parse reads, of a message that is bytes, is written again from that message
pub parse_serialize : (m : List ℕ) (at : ℕ) (z : Reading) → ((i : ℕ) → get_or m i 0 < 256) → ParsedAt m at (Read z) → Again m at z
parse_serialize m at z small c =
    let x = z.item in
    let k = read_written x m at z.critical z.next.at small (sym (parsed m at (Read z) c)) in
    record {
      count = k.0;
      within = k.3;
      whole = k.4;
      lengths = λ r d. count_apart r (Bytes k.0) (counted x m r d ∙ k.1);
      size = ap length (sym k.2) ∙ written_length x m k.0 k.1;
      writes = λ o r o' d h.
          let w = wrote_room (layout_of x) m o r o' k.0 (wrote x m o r o' d) k.1 h in
          (w.0, w.1 ∙ ap (λ (b : List ℕ). over b o) k.2);
    }

-- 02, order 4: writing what was read gives the same bytes exactly if the bit received is the table's (of an unknown record its own always is) and an end or
-- keep-alive record's body was empty. z was read from m, which is bytes, at the place `at`
module _ (m : List ℕ) (at : ℕ) (z : Reading) (small : (i : ℕ) → get_or m i 0 < 256) (c : ParsedAt m at (Read z)) where
  -- its bytes, and the size of its body
  abbrev received : List ℕ
  received = take (z.next.at - at) (drop at m)

  abbrev size_received : ℕ
  size_received = z.next.at - (at + 4)

  -- if it is so, every call of serialize into an output with room for as many bytes answers that many and puts the very bytes over its front
  pub parse_serialize_same : IsCanonical (kind_of_record z.item) z.critical size_received
      → (o : List ℕ) (r : ByteCount) (o' : List ℕ) → Serialized z.item m o r o' → z.next.at - at ≤ length o
      → (r ≡ Bytes (z.next.at - at)) × (o' ≡ over received o)
  parse_serialize_same i o r o' d h =
      let x = z.item in
      let e = sym (parsed m at (Read z) c) in
      let k = read_written x m at z.critical z.next.at small e in
      let b = read_written_same x m at z.critical z.next.at small e i in
      let n : k.0 ≡ z.next.at - at = sym (written_length x m k.0 k.1) ∙ ap length b ∙ received_length in
      let w = wrote_room (layout_of x) m o r o' k.0 (wrote x m o r o' d) k.1 (omega arith) in
      (w.0 ∙ ap Bytes n, w.1 ∙ ap (λ (l : List ℕ). over l o) b)
    where
      inside : (at ≤ z.next.at) × (z.next.at ≤ length m)
      inside = read_inside m at (told_record z.item) z.critical z.next.at (parsed m at (Read z) c)

      received_length : length received ≡ z.next.at - at
      received_length = length-take-le (z.next.at - at) (drop at m) (omega (arith, length-drop at m, inside.0, inside.1))

  -- and only then: where a call of serialize wrote the very bytes, it is so
  pub parse_serialize_only : (o : List ℕ) (n : ℕ) (o' : List ℕ) → Serialized z.item m o (Bytes n) o' → take n o' ≡ received
      → IsCanonical (kind_of_record z.item) z.critical size_received
  parse_serialize_only o n o' d q =
      read_written_only z.item m at z.critical z.next.at small (sym (parsed m at (Read z) c)) (sym (serialize_front z.item m o n o' d) ∙ q)
