-- Any two results that meet a public function's contract are the same: one theorem a function, over the contract itself.
-- Assumes nothing.
use mathlib.Core.Path.{◌≡◌, sym, ◌∙◌}
use Rattle.layout.proofs.Apart.{count_apart, wrote_same}
use Rattle.record.proofs.Apart.{cursor_apart, parsed_apart, looked_apart, protocol_apart, algorithm_apart, pair_apart}
use Rattle.record.proofs.NtsRecord.parse.Reads as parse
use Rattle.record.proofs.NtsRecord.serialize.Reads as serialize
use Rattle.record.proofs.NtsRecord.length.Reads as length
use Rattle.record.proofs.NtsRecord.bit_named.Reads as bit_named
use Rattle.record.proofs.Cursor.new.Reads as new
use Rattle.record.proofs.Cursor.read.Reads as read
use Rattle.record.proofs.look.Reads as look
use Rattle.record.proofs.protocol_at.Reads as protocol_at
use Rattle.record.proofs.algorithm_at.Reads as algorithm_at
use Rattle.record.proofs.description_at.Reads as description_at

pub NtsRecord-parse_same : (κs : _) (a : _) (r r' : _) (e e' : _) → parse.Learnt κs a r e → parse.Learnt κs a r' e' → r ≡ r'
NtsRecord-parse_same κs a r r' e e' p q = parsed_apart r r' (p ∙ sym q)

pub Cursor-new_same : (κs : _) (a : _) (r r' : _) (e e' : _) → new.Learnt κs a r e → new.Learnt κs a r' e' → r ≡ r'
Cursor-new_same κs a r r' e e' p q = cursor_apart r r' (p ∙ sym q)

pub Cursor-read_same : (κs : _) (a : _) (r r' : _) (e e' : _) → read.Learnt κs a r e → read.Learnt κs a r' e' → r ≡ r'
Cursor-read_same κs a r r' e e' p q = parsed_apart r r' (p ∙ sym q)

pub look_same : (κs : _) (a : _) (r r' : _) (e e' : _) → look.Learnt κs a r e → look.Learnt κs a r' e' → r ≡ r'
look_same κs a r r' e e' p q = looked_apart r r' (p ∙ sym q)

pub protocol_at_same : (κs : _) (a : _) (r r' : _) (e e' : _) → protocol_at.Learnt κs a r e → protocol_at.Learnt κs a r' e' → r ≡ r'
protocol_at_same κs a r r' e e' p q = protocol_apart r r' (p ∙ sym q)

pub algorithm_at_same : (κs : _) (a : _) (r r' : _) (e e' : _) → algorithm_at.Learnt κs a r e → algorithm_at.Learnt κs a r' e' → r ≡ r'
algorithm_at_same κs a r r' e e' p q = algorithm_apart r r' (p ∙ sym q)

pub description_at_same : (κs : _) (a : _) (r r' : _) (e e' : _) → description_at.Learnt κs a r e → description_at.Learnt κs a r' e' → r ≡ r'
description_at_same κs a r r' e e' p q = pair_apart r r' (p ∙ sym q)

pub NtsRecord-length_same : (κs : _) (a : _) (r r' : _) (e e' : _) → length.Learnt κs a r e → length.Learnt κs a r' e' → r ≡ r'
NtsRecord-length_same κs a r r' e e' p q = count_apart r r' (p ∙ sym q)

pub NtsRecord-bit_named_same : (κs : _) (a : _) (r r' : _) (e e' : _) → bit_named.Learnt κs a r e → bit_named.Learnt κs a r' e' → r ≡ r'
NtsRecord-bit_named_same κs a r r' e e' p q = p ∙ sym q

-- a writer's output afterwards is among what the contract determines
pub NtsRecord-serialize_same : (κs : _) (a : _) (r r' : _) (e e' : _) → serialize.Learnt κs a r e → serialize.Learnt κs a r' e' → (r ≡ r') × (e.1.1.0.now ≡ e'.1.1.0.now)
NtsRecord-serialize_same κs a r r' e e' p q = wrote_same p q
