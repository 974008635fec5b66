-- What is told of an answer tells any two answers apart: it can be turned back into the answer.
-- Assumes nothing.
use mathlib.Core.Path.{◌≡◌, refl, ap}
use mathlib.Core.Bool.{Bool, cond}
use Prim.Native.Nat.{ℕ}
use native.Mathlib.Omega.{arith}
use lib.Dec.{eqb}
use Rattle.nts.proofs.Apart.{apart, refusal_apart}
use Rattle.nts.specs.Refusal.{told_refusal}
use Rattle.layout.specs.declared.Part.{Part}
use Rattle.record.specs.Record.{Value, skipped, number, part, halves, unknown, Seen, read}
use Rattle.record.specs.Entry as entry
use Rattle.record.specs.Told.{told_record, told_parsed, told_looked, told_protocol, told_algorithm, told_pair}
use Rattle.record.specs.declared.Cursor.{Cursor}
use Rattle.record.specs.declared.NtsRecord.{NtsRecord}
use Rattle.record.specs.declared.NtsRecord.TheVariants.{EndOfMessage, NextProtocol, Error, Warning, AeadAlgorithm, NewCookie, Server, Port, KeepAlive, SupportedNextProtocolList, SupportedAlgorithmList, FixedKeyRequest, NtpServerDeny, Authentication, Unknown}
use Rattle.record.specs.declared.Parsed.{Parsed}
use Rattle.record.specs.declared.Parsed.TheVariants.{Read, Refused}
use Rattle.record.specs.declared.Looked.{Looked}
use Rattle.record.specs.declared.Looked.TheVariants as looked
use Rattle.record.specs.declared.ProtocolAt.{ProtocolAt}
use Rattle.record.specs.declared.ProtocolAt.TheVariants as protocol_at
use Rattle.record.specs.declared.AlgorithmAt.{AlgorithmAt}
use Rattle.record.specs.declared.AlgorithmAt.TheVariants as algorithm_at
use Rattle.record.specs.declared.DescriptionAt.{DescriptionAt}
use Rattle.record.specs.declared.DescriptionAt.TheVariants as description_at

-- ---- a record

list_from : ℕ → Part → NtsRecord
list_from k p =
    cond (eqb k 1) (NextProtocol p)
    (cond (eqb k 4) (AeadAlgorithm p)
    (cond (eqb k 5) (NewCookie p)
    (cond (eqb k 6) (Server p)
    (cond (eqb k 9) (SupportedNextProtocolList p)
    (cond (eqb k 10) (SupportedAlgorithmList p)
    (cond (eqb k 13) (NtpServerDeny p)
    (Authentication p)))))))

record_by : ℕ → Value → NtsRecord
record_by k skipped = cond (eqb k 0) EndOfMessage KeepAlive
record_by k (number n) = cond (eqb k 2) (Error (record { 0 = n })) (cond (eqb k 3) (Warning (record { 0 = n })) (Port n))
record_by k (part a n) = list_from k (record { start = a; len = n })
record_by k (halves a n b m) = FixedKeyRequest (record { start = a; len = n }) (record { start = b; len = m })
record_by k (unknown bit a n) = Unknown k bit (record { start = a; len = n })

record_from : Seen → NtsRecord
record_from x = record_by x.kind x.value

record_back : (r : NtsRecord) → record_from (told_record r) ≡ r
unfolding record_from record_by list_from
record_back EndOfMessage = refl
record_back (NextProtocol p) = refl
record_back (Error c) = refl
record_back (Warning c) = refl
record_back (AeadAlgorithm p) = refl
record_back (NewCookie p) = refl
record_back (Server p) = refl
record_back (Port n) = refl
record_back KeepAlive = refl
record_back (SupportedNextProtocolList p) = refl
record_back (SupportedAlgorithmList p) = refl
record_back (FixedKeyRequest a b) = refl
record_back (NtpServerDeny p) = refl
record_back (Authentication p) = refl
record_back (Unknown k bit p) = refl

pub record_apart : (x y : NtsRecord) → told_record x ≡ told_record y → x ≡ y
record_apart = apart told_record record_from record_back

-- ---- what the reader answers

pub read_apart : (x y : Seen) (b c : Bool) (m n : ℕ) → read x b m ≡ read y c n → (x ≡ y) × (b ≡ c) × (m ≡ n)
read_apart x y b c m n e = (cc, cc, cc)

pub cursor_apart : (x y : Cursor) → x.at ≡ y.at → x ≡ y
cursor_apart x y e = ap (λ (n : ℕ). record { at = n }) e

pub parsed_apart : (x y : Parsed) → told_parsed x ≡ told_parsed y → x ≡ y
parsed_apart (Read x) (Read y) e =
    let s = read_apart (told_record x.item) (told_record y.item) x.critical y.critical x.next.at y.next.at e in
    let i = record_apart x.item y.item s.0 in
    let b = s.1 in
    let n = cursor_apart x.next y.next s.2 in
    ap Read (λ j. record { item = i j; critical = b j; next = n j })
parsed_apart (Read x) (Refused s) e = let z : ◌≡◌ {A = ℕ} 0 1 = cc in absurd (omega arith)
parsed_apart (Refused r) (Read y) e = let z : ◌≡◌ {A = ℕ} 0 1 = cc in absurd (omega arith)
parsed_apart (Refused r) (Refused s) e =
    let t : told_refusal r ≡ told_refusal s = cc in
    ap Refused (refusal_apart r s t)

pub looked_apart : (x y : Looked) → told_looked x ≡ told_looked y → x ≡ y
looked_apart (looked.Whole x) (looked.Whole y) e =
    let k : x.kind ≡ y.kind = cc in
    let b : x.critical ≡ y.critical = cc in
    let n : x.size ≡ y.size = cc in
    ap looked.Whole (λ j. record { kind = k j; critical = b j; size = n j })
looked_apart (looked.Whole x) (looked.Refused s) e = let z : ◌≡◌ {A = ℕ} 0 1 = cc in absurd (omega arith)
looked_apart (looked.Refused r) (looked.Whole y) e = let z : ◌≡◌ {A = ℕ} 0 1 = cc in absurd (omega arith)
looked_apart (looked.Refused r) (looked.Refused s) e =
    let t : told_refusal r ≡ told_refusal s = cc in
    ap looked.Refused (refusal_apart r s t)

-- ---- an entry of a list

protocol_from : entry.Entry → ProtocolAt
protocol_from entry.outside = protocol_at.Nothing
protocol_from (entry.number n) = protocol_at.Protocol (record { 0 = n })
protocol_from (entry.pair n k) = protocol_at.Nothing

protocol_back : (x : ProtocolAt) → protocol_from (told_protocol x) ≡ x
unfolding protocol_from
protocol_back protocol_at.Nothing = refl
protocol_back (protocol_at.Protocol p) = refl

pub protocol_apart : (x y : ProtocolAt) → told_protocol x ≡ told_protocol y → x ≡ y
protocol_apart = apart told_protocol protocol_from protocol_back

algorithm_from : entry.Entry → AlgorithmAt
algorithm_from entry.outside = algorithm_at.Nothing
algorithm_from (entry.number n) = algorithm_at.Algorithm (record { 0 = n })
algorithm_from (entry.pair n k) = algorithm_at.Nothing

algorithm_back : (x : AlgorithmAt) → algorithm_from (told_algorithm x) ≡ x
unfolding algorithm_from
algorithm_back algorithm_at.Nothing = refl
algorithm_back (algorithm_at.Algorithm a) = refl

pub algorithm_apart : (x y : AlgorithmAt) → told_algorithm x ≡ told_algorithm y → x ≡ y
algorithm_apart = apart told_algorithm algorithm_from algorithm_back

pair_from : entry.Entry → DescriptionAt
pair_from entry.outside = description_at.Nothing
pair_from (entry.number n) = description_at.Nothing
pair_from (entry.pair n k) = description_at.Description (record { id = record { 0 = n }; keysize = k })

pair_back : (x : DescriptionAt) → pair_from (told_pair x) ≡ x
unfolding pair_from
pair_back description_at.Nothing = refl
pair_back (description_at.Description d) = refl

pub pair_apart : (x y : DescriptionAt) → told_pair x ≡ told_pair y → x ≡ y
pair_apart = apart told_pair pair_from pair_back
