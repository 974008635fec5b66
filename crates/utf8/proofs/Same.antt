-- Any two results that meet a public function's contract are the same: one theorem a function, over the contract itself.
-- Assumes nothing.
use mathlib.Core.Path.{◌≡◌, sym, ◌∙◌}
use Rattle.utf8.proofs.is_utf8.Reads as is_utf8
use Rattle.utf8.proofs.is_ascii.Reads as is_ascii
use Rattle.utf8.proofs.lead_size.Reads as lead_size
use Rattle.utf8.proofs.class_of.Reads as class_of

pub is_utf8_same : (κs : _) (a : _) (r r' : _) (e e' : _) → is_utf8.Learnt κs a r e → is_utf8.Learnt κs a r' e' → r ≡ r'
is_utf8_same κs a r r' e e' p q = p ∙ sym q

pub is_ascii_same : (κs : _) (a : _) (r r' : _) (e e' : _) → is_ascii.Learnt κs a r e → is_ascii.Learnt κs a r' e' → r ≡ r'
is_ascii_same κs a r r' e e' p q = p ∙ sym q

pub lead_size_same : (κs : _) (a : _) (r r' : _) (e e' : _) → lead_size.Learnt κs a r e → lead_size.Learnt κs a r' e' → r ≡ r'
lead_size_same κs a r r' e e' p q = p ∙ sym q

pub class_of_same : (κs : _) (a : _) (r r' : _) (e e' : _) → class_of.Learnt κs a r e → class_of.Learnt κs a r' e' → r ≡ r'
class_of_same κs a r r' e e' p q = p ∙ sym q
