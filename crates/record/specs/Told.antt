-- What each case of an answer says, by 01's numbers: a record's kind and values, a refusal's number and place, an entry of a list.
use Rattle.std.specs.Prelude.{ℕ}
use Rattle.nts.specs.Refusal.{told_refusal}
use Rattle.layout.specs.declared.Part.{Part}
use Rattle.record.specs.Record.{Value, skipped, number, part, halves, unknown, Seen, Told, read, refused, Sight, whole, broken}
use Rattle.record.specs.Entry as entry
use Rattle.record.specs.declared.NtsRecord.{NtsRecord}
use Rattle.record.specs.declared.NtsRecord.TheVariants.{EndOfMessage, NextProtocol, Error, Warning, AeadAlgorithm, NewCookie, Server, Port, KeepAlive, SupportedNextProtocolList, SupportedAlgorithmList, FixedKeyRequest, NtpServerDeny, Authentication, Unknown}
use Rattle.record.specs.declared.Parsed.{Parsed}
use Rattle.record.specs.declared.Parsed.TheVariants.{Read, Refused}
use Rattle.record.specs.declared.Looked.{Looked}
use Rattle.record.specs.declared.Looked.TheVariants as looked
use Rattle.record.specs.declared.Fault.{Fault}
use Rattle.record.specs.declared.Fault.TheVariants.{None, Short, IllFormed}
use Rattle.record.specs.declared.NumberAt.{NumberAt}
use Rattle.record.specs.declared.NumberAt.TheVariants as number_at
use Rattle.record.specs.declared.ProtocolAt.{ProtocolAt}
use Rattle.record.specs.declared.ProtocolAt.TheVariants as protocol_at
use Rattle.record.specs.declared.AlgorithmAt.{AlgorithmAt}
use Rattle.record.specs.declared.AlgorithmAt.TheVariants as algorithm_at
use Rattle.record.specs.declared.DescriptionAt.{DescriptionAt}
use Rattle.record.specs.declared.DescriptionAt.TheVariants as description_at

abbrev pub held : Part → Value
held p = part p.start p.len

-- the column "Kind" of 01's table
abbrev pub kind_of_record : NtsRecord → ℕ
kind_of_record EndOfMessage = 0
kind_of_record (NextProtocol p) = 1
kind_of_record (Error c) = 2
kind_of_record (Warning c) = 3
kind_of_record (AeadAlgorithm p) = 4
kind_of_record (NewCookie p) = 5
kind_of_record (Server p) = 6
kind_of_record (Port n) = 7
kind_of_record KeepAlive = 8
kind_of_record (SupportedNextProtocolList p) = 9
kind_of_record (SupportedAlgorithmList p) = 10
kind_of_record (FixedKeyRequest a b) = 12
kind_of_record (NtpServerDeny p) = 13
kind_of_record (Authentication p) = 14
kind_of_record (Unknown k bit p) = k

abbrev pub value_of_record : NtsRecord → Value
value_of_record EndOfMessage = skipped
value_of_record (NextProtocol p) = held p
value_of_record (Error c) = number c.0
value_of_record (Warning c) = number c.0
value_of_record (AeadAlgorithm p) = held p
value_of_record (NewCookie p) = held p
value_of_record (Server p) = held p
value_of_record (Port n) = number n
value_of_record KeepAlive = skipped
value_of_record (SupportedNextProtocolList p) = held p
value_of_record (SupportedAlgorithmList p) = held p
value_of_record (FixedKeyRequest a b) = halves a.start a.len b.start b.len
value_of_record (NtpServerDeny p) = held p
value_of_record (Authentication p) = held p
value_of_record (Unknown k bit p) = unknown bit p.start p.len

abbrev pub told_record : NtsRecord → Seen
told_record r = record { kind = kind_of_record r; value = value_of_record r }

abbrev pub told_parsed : Parsed → Told
told_parsed (Read x) = read (told_record x.item) x.critical x.next.at
told_parsed (Refused r) = refused (told_refusal r)

abbrev pub told_looked : Looked → Sight
told_looked (looked.Whole x) = whole x.kind x.critical x.size
told_looked (looked.Refused r) = broken (told_refusal r)

-- 0 for none, and the refusal's number
abbrev pub told_fault : Fault → ℕ
told_fault None = 0
told_fault Short = 1
told_fault IllFormed = 2

abbrev pub told_number : NumberAt → entry.Entry
told_number (number_at.Number n) = entry.number n
told_number number_at.Nothing = entry.outside

abbrev pub told_protocol : ProtocolAt → entry.Entry
told_protocol (protocol_at.Protocol p) = entry.number p.0
told_protocol protocol_at.Nothing = entry.outside

abbrev pub told_algorithm : AlgorithmAt → entry.Entry
told_algorithm (algorithm_at.Algorithm a) = entry.number a.0
told_algorithm algorithm_at.Nothing = entry.outside

abbrev pub told_pair : DescriptionAt → entry.Entry
told_pair (description_at.Description d) = entry.pair d.id.0 d.keysize
told_pair description_at.Nothing = entry.outside
