-- Order 4 of document 02, "Keep the bit you received", of calls over their own contracts: the bit that record::NtsRecord::parse and record::Cursor::read answer with a record of any kind, an
-- unknown record's own bit, what record::look tells at that place, the bit in each line of the listing, and which bit record::NtsRecord::bit_named says is written. That what is written is read
-- back with the table's bit, and when what is read is written in the same bytes, is in Demand2.antt; of the calls that a host links the bit as
-- received, both round trips and the named bit are in FaceRecord.antt. The listing's bit is told over its definition.
-- Assumes nothing.
use mathlib.Core.Path.{◌≡◌, refl, sym, ap, ◌∙◌}
use mathlib.Core.List.{List, [], ◌∷◌, ◌++◌}
use mathlib.Core.Bool.{Bool, true, false, cond}
use Prim.Native.Nat.{ℕ, ◌+◌, ◌-◌}
use native.Mathlib.Omega.{arith}
use lib.ListN.{length, take, drop}
use lib.Dec.{ltb, eqb}
use borrow.Author.Tests.{le-ltb}
use Rattle.utf8.proofs.Tests.{on}
use Rattle.nts.specs.Refusal.{nothing}
use Rattle.layout.specs.Table.{shape_of, bit_named, bit_by, bit_of}
use Rattle.layout.specs.Profile.{shape_in, knows}
use Rattle.layout.specs.declared.Shape.{Shape}
use Rattle.layout.specs.declared.Profile.{Profile}
use Rattle.layout.specs.declared.Profile.TheVariants.{Usual, Strict}
use Rattle.layout.proofs.Profiles.{strict_shape, usual_shape, unknown_shape}
use Rattle.layout.specs.declared.Part.{Part}
use Rattle.layout.specs.declared.Bit.{Bit}
use Rattle.layout.specs.declared.ByteCount.TheVariants.{Bytes}
use Rattle.record.specs.Record.{kind, critical, size, there, short, fault_of, fault_by, Seen, read_at, Sight, whole, broken, look_from, look_at}
use Rattle.record.specs.Told.{kind_of_record, value_of_record, told_record, told_parsed, told_looked}
use Rattle.record.specs.Shown.{given_bit}
use Rattle.record.specs.declared.NtsRecord.{NtsRecord}
use Rattle.record.specs.declared.NtsRecord.TheVariants.{Unknown}
use Rattle.record.specs.declared.Reading.{Reading}
use Rattle.record.specs.declared.Parsed.{Parsed}
use Rattle.record.specs.declared.Parsed.TheVariants.{Read}
use Rattle.record.specs.declared.Glance.{Glance}
use Rattle.record.specs.declared.Looked.{Looked}
use Rattle.record.specs.declared.Looked.TheVariants.{Whole, Refused}
use Rattle.record.proofs.Apart.{parsed_apart}
use Rattle.record.proofs.Inverse.{whole_was}
use Rattle.record.proofs.Whole.{body_fault, there_length}
use Rattle.record.proofs.Bits.{read_bit, read_own_bit, read_look, look_read}
use Rattle.record.proofs.look.Reads as look
use Rattle.record.proofs.NtsRecord.bit_named.Reads as bit_named_lem
use Rattle.record.proofs.Cursor.read.Reads as cursor_read
use Rattle.walk.specs.Shown.{Mark, shown}
use Rattle.walk.proofs.Meets.{meets_looked}
use Rattle.request.specs.Request.{reader}
use Rattle.promises.proofs.Demand2.{Serialized, ParsedAt, parsed, read_answer, serialize_bit}

-- ---- calls, with their answers: what each function's own contract says of them

-- of record::look, in the profile P, on the message m at the place `at`
pub record LookedAt (P : Profile) (m : List ℕ) (at : ℕ) (r : Looked) : Type 1 where
  pub κs : _
  pub a : _
  pub e : _
  pub met : look.Learnt κs a r e
  pub of_profile : a.0 ≡ P
  pub of_message : a.1.0.now ≡ m
  pub of_place : a.1.1.0 ≡ at

-- of record::Cursor::read on the message m, with the cursor at the place `at`
pub record ReadAt (m : List ℕ) (at : ℕ) (r : Parsed) : Type 1 where
  pub κs : _
  pub a : _
  pub e : _
  pub met : cursor_read.Learnt κs a r e
  pub of_place : a.0.at ≡ at
  pub of_message : a.1.0.now ≡ m

-- of record::NtsRecord::bit_named on the kind k
pub record Named (k : ℕ) (r : Bit) : Type 1 where
  pub κs : _
  pub a : _
  pub e : _
  pub met : bit_named_lem.Learnt κs a r e
  pub of_kind : a.0 ≡ k

looked : (P : Profile) (m : List ℕ) (at : ℕ) (r : Looked) → LookedAt P m at r → told_looked r ≡ look_at (shape_in P) m at
looked P m at r c = rw (← c.of_profile, ← c.of_message, ← c.of_place) c.met

-- ---- "The record's answer is to carry the bit as received, for every kind."

-- the record z was read from m at the place `at`
module _ (m : List ℕ) (at : ℕ) (z : Reading) (c : ParsedAt m at (Read z)) where
  -- its bit is the top one of the type word that stands there
  pub parse_bit : z.critical ≡ critical (drop at m)
  parse_bit = read_bit m at (told_record z.item) z.critical z.next.at (parsed m at (Read z) c)

  -- an unknown record keeps its own, and that is the same
  pub parse_own_bit : (k : ℕ) (own : _) (p : Part) → z.item ≡ Unknown k own p → own ≡ z.critical
  parse_own_bit k own p e =
      read_own_bit m at (told_record z.item) z.critical z.next.at (parsed m at (Read z) c) own p.start p.len (ap value_of_record e)

-- a cursor's read and any call of parse at its place answer the same, so what is said here and in Demand2.antt of the one's record is said of the other's
pub cursor_parses : (m : List ℕ) (at : ℕ) (r r' : Parsed) → ReadAt m at r → ParsedAt m at r' → r ≡ r'
cursor_parses m at r r' c d =
    let e : told_parsed r ≡ read_at m at = rw (← c.of_message, ← c.of_place) c.met in
    parsed_apart r r' (e ∙ sym (parsed m at r' d))

-- ---- "the listing uses it"

-- what a look tells that has nothing but its fault
abbrev sight_by : ℕ → List ℕ → ℕ → Sight
sight_by at s f = cond (eqb f 0) (whole (kind s) (critical s) (size s)) (broken (record { number = f; beside = nothing; place = at }))

-- what is told of a record at a place that reads whole: every call of parse there answers a record of that kind, bit and size
told_at : (m : List ℕ) (at k : ℕ) (bit : _) (n : ℕ) → whole k bit n ≡ look_at shape_of m at → (r : Parsed) → ParsedAt m at r
    → (z : Reading) × (r ≡ Read z) × (kind_of_record z.item ≡ k) × (z.critical ≡ bit) × (z.next.at ≡ at + 4 + n)
told_at m at k bit n e r c =
    let y = look_read m at k bit n e in
    let z = read_answer r y.0 bit (at + 4 + n) (parsed m at r c ∙ sym y.1) in
    (z.0, z.1, ap (λ (q : Seen). q.kind) z.2 ∙ y.2, z.3, z.4)

-- a look in a profile asks of a body what parse does, but of a kind that the profile does not know nothing but its bytes
look_like : (P : Profile) (m : List ℕ) (at : ℕ) → shape_in P (kind (drop at m)) ≡ shape_of (kind (drop at m)) → look_at (shape_in P) m at ≡ look_at shape_of m at
unfolding look_at look_from fault_by
look_like P m at e =
    let s = drop at m in
    ap (λ (x : Shape). sight_by at s (cond (ltb (length s) 4) 1 (fault_of x (size s) (there s)))) e

same_shape : (P : Profile) (k : ℕ) → knows P k ≡ true → shape_in P k ≡ shape_of k
same_shape Usual k e = sym (usual_shape k)
same_shape Strict k e = strict_shape k e

-- so what parse reads, every profile's look sees ..
look_in : (P : Profile) (m : List ℕ) (at k : ℕ) (bit : Bool) (n : ℕ) → whole k bit n ≡ look_at shape_of m at → look_at (shape_in P) m at ≡ whole k bit n
unfolding look_at look_from fault_by fault_of short
look_in P m at k bit n e =
    on (knows P (kind s)) (λ q. look_like P m at (same_shape P (kind s) q) ∙ sym e) (λ q. unknown_seen q)
  where
    s : List ℕ
    s = drop at m

    unknown_seen : knows P (kind s) ≡ false → look_at (shape_in P) m at ≡ whole k bit n
    unknown_seen q =
        let w = whole_was shape_of at s k bit n e in
        let none : cond (ltb (length s) 4) 1 (fault_of (shape_in P (kind s)) (size s) (there s)) ≡ 0 =
        rw (le-ltb (length s) 4 (body_fault shape_of s w.faultless).0, unknown_shape P (kind s) q, there_length shape_of s w.faultless, le-ltb (size s) (size s) (omega arith)) in
        ap (sight_by at s) none ∙ sym (λ i. whole (w.is i) (w.marked i) (w.sized i))

-- .. and what a look sees of a kind that its profile knows, parse reads
look_known : (P : Profile) (m : List ℕ) (at k : ℕ) (bit : Bool) (n : ℕ) → knows P k ≡ true → whole k bit n ≡ look_at (shape_in P) m at → whole k bit n ≡ look_at shape_of m at
unfolding look_at
look_known P m at k bit n q e =
    let w = whole_was (shape_in P) at (drop at m) k bit n e in
    e ∙ look_like P m at (same_shape P (kind (drop at m)) (ap (knows P) (sym w.is) ∙ q))

-- record::look, which walk and listing ask, tells of a record that reads whole what parse answers there: kind, bit, and the body's size. In the usual profile of every kind ..
pub look_bit : (m : List ℕ) (at : ℕ) (g : Glance) → LookedAt Usual m at (Whole g) → (r : Parsed) → ParsedAt m at r
    → (z : Reading) × (r ≡ Read z) × (kind_of_record z.item ≡ g.kind) × (z.critical ≡ g.critical) × (z.next.at ≡ at + 4 + g.size)
look_bit m at g l r c =
    told_at m at g.kind g.critical g.size (looked Usual m at (Whole g) l ∙ look_like Usual m at (sym (usual_shape (kind (drop at m))))) r c

-- .. and in each of those that it knows
pub look_bit_known : (P : Profile) (m : List ℕ) (at : ℕ) (g : Glance) → LookedAt P m at (Whole g) → knows P g.kind ≡ true → (r : Parsed) → ParsedAt m at r
    → (z : Reading) × (r ≡ Read z) × (kind_of_record z.item ≡ g.kind) × (z.critical ≡ g.critical) × (z.next.at ≡ at + 4 + g.size)
look_bit_known P m at g l k r c = told_at m at g.kind g.critical g.size (look_known P m at g.kind g.critical g.size k (looked P m at (Whole g) l)) r c

-- and where parse reads a record, every look in every profile is whole and tells its kind, its bit and its size
pub parse_look : (P : Profile) (m : List ℕ) (at : ℕ) (z : Reading) → ParsedAt m at (Read z) → (r : Looked) → LookedAt P m at r
    → (g : Glance) × (r ≡ Whole g) × (g.kind ≡ kind_of_record z.item) × (g.critical ≡ z.critical) × (at + 4 + g.size ≡ z.next.at)
parse_look P m at z c r l = go r (looked P m at r l ∙ look_in P m at (kind_of_record z.item) z.critical (z.next.at - (at + 4)) (sym sees))
  where
    sees : look_at shape_of m at ≡ whole (kind_of_record z.item) z.critical (z.next.at - (at + 4))
    sees = read_look m at (told_record z.item) z.critical z.next.at (parsed m at (Read z) c)

    after : at + 4 + (z.next.at - (at + 4)) ≡ z.next.at
    after =
        let k = told_at m at (kind_of_record z.item) z.critical (z.next.at - (at + 4)) (sym sees) (Read z) c in
        let same : k.0 ≡ z = cc k.1 in
        sym k.4 ∙ ap (λ (y : Reading). y.next.at) same

    go : (q : Looked) → told_looked q ≡ whole (kind_of_record z.item) z.critical (z.next.at - (at + 4))
        → (g : Glance) × (q ≡ Whole g) × (g.kind ≡ kind_of_record z.item) × (g.critical ≡ z.critical) × (at + 4 + g.size ≡ z.next.at)
    go (Whole g) e = let n : g.size ≡ z.next.at - (at + 4) = cc in (g, refl, cc, cc, ap (λ (i : ℕ). at + 4 + i) n ∙ after)
    go (Refused q) e = let n : ◌≡◌ {A = ℕ} 0 1 = cc in absurd (omega arith)

-- x is any of the record lines in the listing of the message m under the limit n (listing/specs/Listing.antt): parse at the line's place, in the message cut at the limit, answers a
-- record of the type, bit and size that the line shows
pub listing_bit : (m : List ℕ) (n : ℕ) (l₁ l₂ : List Mark) (x : Mark) → shown (reader Usual) [] 0 0 (take n m) ≡ l₁ ++ (x ∷ l₂)
    → (r : Parsed) → ParsedAt (take n m) x.place r
    → (z : Reading) × (r ≡ Read z) × (kind_of_record z.item ≡ x.kind) × (z.critical ≡ x.critical) × (z.next.at ≡ x.place + 4 + x.size)
listing_bit m n l₁ l₂ x q r c =
    told_at (take n m) x.place x.kind x.critical x.size (sym (meets_looked (reader Usual) (take n m) l₁ l₂ x q) ∙ look_like Usual (take n m) x.place (sym (usual_shape (kind (drop x.place (take n m)))))) r c

-- ---- "The writer still writes the bit that 01's table names"

-- what bit_named says of the record's kind is the bit that serialize wrote; of an unknown kind the one given with the record
pub named_written : (x : NtsRecord) (s o : List ℕ) (n : ℕ) (o' : List ℕ) → Serialized x s o (Bytes n) o' → (b : Bit) → Named (kind_of_record x) b → critical o' ≡ bit_by b (given_bit x)
unfolding bit_of
named_written x s o n o' c b d =
    serialize_bit x s o n o' c ∙ ap (λ (q : Bit). bit_by q (given_bit x)) (sym (d.met ∙ ap bit_named d.of_kind))
