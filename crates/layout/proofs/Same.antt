-- Any two results that meet a public function's contract are the same: one theorem a function, over the contract itself.
-- Assumes nothing.
use mathlib.Core.Path.{◌≡◌, sym, ◌∙◌}
use Rattle.wire.proofs.Bytes.{part_of_same}
use Rattle.wire.proofs.Over.{tried_same}
use Rattle.layout.proofs.Apart.{count_apart, wrote_same}
use Rattle.layout.proofs.Part.of.Reads as of
use Rattle.layout.proofs.Profile.taken.Reads as taken
use Rattle.layout.proofs.Profile.allows.Reads as allows
use Rattle.layout.proofs.Profile.is_final.Reads as is_final
use Rattle.layout.proofs.Layout.write.Reads as write
use Rattle.layout.proofs.Layout.length.Reads as length
use Rattle.layout.proofs.put_header.Reads as put_header

pub Part-of_same : (κs : _) (a : _) (r r' : _) (e e' : _) → of.Learnt κs a r e → of.Learnt κs a r' e' → (r.now ≡ r'.now) × (r.ref_ptr ≡ r'.ref_ptr)
Part-of_same κs a r r' e e' p q = part_of_same p q

pub Layout-length_same : (κs : _) (a : _) (r r' : _) (e e' : _) → length.Learnt κs a r e → length.Learnt κs a r' e' → r ≡ r'
Layout-length_same κs a r r' e e' p q = count_apart r r' (p ∙ sym q)

-- a writer's output afterwards is among what the contract determines
pub Layout-write_same : (κs : _) (a : _) (r r' : _) (e e' : _) → write.Learnt κs a r e → write.Learnt κs a r' e' → (r ≡ r') × (e.1.1.0.now ≡ e'.1.1.0.now)
Layout-write_same κs a r r' e e' p q = wrote_same p q

pub put_header_same : (κs : _) (a : _) (r r' : _) (e e' : _) → put_header.Learnt κs a r e → put_header.Learnt κs a r' e' → (r ≡ r') × (e.1.1.0.now ≡ e'.1.1.0.now)
put_header_same κs a r r' e e' p q = tried_same p q

pub Profile-taken_same : (κs : _) (a : _) (r r' : _) (e e' : _) → taken.Learnt κs a r e → taken.Learnt κs a r' e' → r ≡ r'
Profile-taken_same κs a r r' e e' p q = p ∙ sym q

pub Profile-allows_same : (κs : _) (a : _) (r r' : _) (e e' : _) → allows.Learnt κs a r e → allows.Learnt κs a r' e' → r ≡ r'
Profile-allows_same κs a r r' e e' p q = p ∙ sym q

pub Profile-is_final_same : (κs : _) (a : _) (r r' : _) (e e' : _) → is_final.Learnt κs a r e → is_final.Learnt κs a r' e' → r ≡ r'
Profile-is_final_same κs a r r' e e' p q = p ∙ sym q
