-- Any two results that meet a public function's contract are the same: one theorem a function, over the contract itself.
-- Assumes nothing.
use mathlib.Core.Path.{◌≡◌, sym, ◌∙◌}
use Rattle.wire.proofs.Bytes.{part_of_same}
use Rattle.wire.proofs.Over.{tried_same}
use Rattle.wire.proofs.byte_at.Reads as byte_at
use Rattle.wire.proofs.number_at.Reads as number_at
use Rattle.wire.proofs.part.Reads as part
use Rattle.wire.proofs.put_number.Reads as put_number
use Rattle.wire.proofs.put_bytes.Reads as put_bytes

pub byte_at_same : (κs : _) (a : _) (r r' : _) (e e' : _) → byte_at.Learnt κs a r e → byte_at.Learnt κs a r' e' → r ≡ r'
byte_at_same κs a r r' e e' p q = p ∙ sym q

pub number_at_same : (κs : _) (a : _) (r r' : _) (e e' : _) → number_at.Learnt κs a r e → number_at.Learnt κs a r' e' → r ≡ r'
number_at_same κs a r r' e e' p q = p ∙ sym q

pub part_same : (κs : _) (a : _) (r r' : _) (e e' : _) → part.Learnt κs a r e → part.Learnt κs a r' e' → (r.now ≡ r'.now) × (r.ref_ptr ≡ r'.ref_ptr)
part_same κs a r r' e e' p q = part_of_same p q

-- a writer's output afterwards is among what the contract determines
pub put_number_same : (κs : _) (a : _) (r r' : _) (e e' : _) → put_number.Learnt κs a r e → put_number.Learnt κs a r' e' → (r ≡ r') × (e.1.0.now ≡ e'.1.0.now)
put_number_same κs a r r' e e' p q = tried_same p q

pub put_bytes_same : (κs : _) (a : _) (r r' : _) (e e' : _) → put_bytes.Learnt κs a r e → put_bytes.Learnt κs a r' e' → (r ≡ r') × (e.1.0.now ≡ e'.1.0.now)
put_bytes_same κs a r r' e e' p q = tried_same p q
