-- Any two results that meet the contract of `list` are the same, and so is the output that they leave.
-- Assumes nothing.
use mathlib.Core.Path.{◌≡◌}
use Rattle.layout.proofs.Apart.{wrote_same}
use Rattle.listing.proofs.list.Reads as list

pub list_same : (κs : _) (a : _) (r r' : _) (e e' : _) → list.Learnt κs a r e → list.Learnt κs a r' e' → (r ≡ r') × (e.1.1.1.0.now ≡ e'.1.1.1.0.now)
list_same κs a r r' e e' p q = wrote_same p q
