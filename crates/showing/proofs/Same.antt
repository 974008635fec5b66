-- Any two results that meet the contract of `ntske_list` are the same, and so are the output and the cell that they leave.
-- Assumes nothing.
use mathlib.Core.Path.{◌≡◌}
use Rattle.cells.proofs.Lent.{writes_same}
use Rattle.showing.proofs.ntske_list.Reads as ntske_list

pub ntske_list_same : (κs : _) (a : _) (r r' : _) (e e' : _) → ntske_list.Learnt κs a r e → ntske_list.Learnt κs a r' e' → (r ≡ r') × (e.1.1.1.0.now ≡ e'.1.1.1.0.now) × (e.1.1.1.1.0.now ≡ e'.1.1.1.1.0.now)
ntske_list_same κs a r r' e e' p q = writes_same p q
