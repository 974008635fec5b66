-- Any two results that meet a public function's contract are the same, and so is all that they leave in what was lent: one theorem a function, over
-- the contract itself.
-- Assumes nothing.
use mathlib.Core.Path.{◌≡◌, sym, ◌∙◌}
use Rattle.cells.proofs.Lent.{gives_same}
use Rattle.handing.proofs.ntske_part.Reads as ntske_part
use Rattle.handing.proofs.ntske_entry.Reads as ntske_entry
use Rattle.handing.proofs.ntske_number.Reads as ntske_number
use Rattle.handing.proofs.ntske_pair.Reads as ntske_pair
use Rattle.handing.proofs.ntske_choose.Reads as ntske_choose
use Rattle.handing.proofs.ntske_choose_protocol.Reads as ntske_choose_protocol
use Rattle.handing.proofs.ntske_key_length.Reads as ntske_key_length
use Rattle.handing.proofs.ntske_version.Reads as ntske_version

pub ntske_part_same : (κs : _) (a : _) (r r' : _) (e e' : _) → ntske_part.Learnt κs a r e → ntske_part.Learnt κs a r' e' → (r ≡ r') × (e.1.1.1.0.now ≡ e'.1.1.1.0.now)
ntske_part_same κs a r r' e e' p q = gives_same p q

pub ntske_entry_same : (κs : _) (a : _) (r r' : _) (e e' : _) → ntske_entry.Learnt κs a r e → ntske_entry.Learnt κs a r' e' → (r ≡ r') × (e.1.1.1.0.now ≡ e'.1.1.1.0.now)
ntske_entry_same κs a r r' e e' p q = gives_same p q

pub ntske_number_same : (κs : _) (a : _) (r r' : _) (e e' : _) → ntske_number.Learnt κs a r e → ntske_number.Learnt κs a r' e' → (r ≡ r') × (e.1.1.1.1.0.now ≡ e'.1.1.1.1.0.now)
ntske_number_same κs a r r' e e' p q = gives_same p q

pub ntske_pair_same : (κs : _) (a : _) (r r' : _) (e e' : _) → ntske_pair.Learnt κs a r e → ntske_pair.Learnt κs a r' e' → (r ≡ r') × (e.1.1.1.1.0.now ≡ e'.1.1.1.1.0.now)
ntske_pair_same κs a r r' e e' p q = gives_same p q

pub ntske_choose_same : (κs : _) (a : _) (r r' : _) (e e' : _) → ntske_choose.Learnt κs a r e → ntske_choose.Learnt κs a r' e' → (r ≡ r') × (e.1.1.1.1.0.now ≡ e'.1.1.1.1.0.now)
ntske_choose_same κs a r r' e e' p q = gives_same p q

pub ntske_choose_protocol_same : (κs : _) (a : _) (r r' : _) (e e' : _) → ntske_choose_protocol.Learnt κs a r e → ntske_choose_protocol.Learnt κs a r' e' → (r ≡ r') × (e.1.1.0.now ≡ e'.1.1.0.now)
ntske_choose_protocol_same κs a r r' e e' p q = gives_same p q

pub ntske_key_length_same : (κs : _) (a : _) (r r' : _) (e e' : _) → ntske_key_length.Learnt κs a r e → ntske_key_length.Learnt κs a r' e' → (r ≡ r') × (e.1.0.now ≡ e'.1.0.now)
ntske_key_length_same κs a r r' e e' p q = gives_same p q

pub ntske_version_same : (κs : _) (a : _) (r r' : _) (e e' : _) → ntske_version.Learnt κs a r e → ntske_version.Learnt κs a r' e' → r ≡ r'
ntske_version_same κs a r r' e e' p q = p ∙ sym q
