-- Any two results that meet the contract of `make_text` are the same, and so is the output that they leave.
-- Assumes nothing.
use mathlib.Core.Path.{◌≡◌, sym, ◌∙◌}
use Rattle.kelist.proofs.make_text.Reads as make_text

pub make_text_same : (κs : _) (a : _) (r r' : _) (e e' : _) → make_text.Learnt κs a r e → make_text.Learnt κs a r' e' → (r ≡ r') × (e.1.0.now ≡ e'.1.0.now)
make_text_same κs a r r' e e' p q = (p.count ∙ sym q.count, p.left ∙ sym q.left)
