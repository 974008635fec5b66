-- Any two results that meet a public function's contract are the same, and so is all that they leave in what was lent: one theorem a function, over
-- the contract itself.
-- Assumes nothing.
use mathlib.Core.Path.{◌≡◌, sym, ◌∙◌}
use Rattle.cells.proofs.Lent.{gives_same}
use Rattle.deciding.proofs.ntske_walk_request.Reads as ntske_walk_request
use Rattle.deciding.proofs.ntske_decide_request.Reads as ntske_decide_request

pub ntske_walk_request_same : (κs : _) (a : _) (r r' : _) (e e' : _) → ntske_walk_request.Learnt κs a r e → ntske_walk_request.Learnt κs a r' e' → (r ≡ r') × (e.1.1.0.now ≡ e'.1.1.0.now)
ntske_walk_request_same κs a r r' e e' p q = gives_same p q

pub ntske_decide_request_same : (κs : _) (a : _) (r r' : _) (e e' : _) → ntske_decide_request.Learnt κs a r e → ntske_decide_request.Learnt κs a r' e' → (r ≡ r') × (e.1.1.0.now ≡ e'.1.1.0.now) × (e.1.1.1.0.now ≡ e'.1.1.1.0.now)
ntske_decide_request_same κs a r r' e e' p q = let g = gives_same p.gives q.gives in (g.0, p.left ∙ sym q.left, g.1)
