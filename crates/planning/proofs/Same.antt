-- Any two results that meet a public function's contract are the same, and so is all that they leave in what was lent: one theorem a function, over
-- the contract itself.
-- Assumes nothing.
use mathlib.Core.Path.{◌≡◌, sym, ◌∙◌}
use Rattle.cells.proofs.Lent.{gives_same, writes_same}
use Rattle.planning.proofs.ntske_plan_new.Reads as plan_new
use Rattle.planning.proofs.ntske_plan_set_port.Reads as plan_set_port
use Rattle.planning.proofs.ntske_plan_clear_port.Reads as plan_clear_port
use Rattle.planning.proofs.ntske_plan_set_name_length.Reads as plan_set_name_length
use Rattle.planning.proofs.ntske_plan_clear_name_length.Reads as plan_clear_name_length
use Rattle.planning.proofs.ntske_plan_set_keep_alive.Reads as plan_set_keep_alive
use Rattle.planning.proofs.ntske_plan_clear_keep_alive.Reads as plan_clear_keep_alive
use Rattle.planning.proofs.ntske_plan_append.Reads as plan_append
use Rattle.planning.proofs.ntske_plan_length.Reads as plan_length
use Rattle.planning.proofs.ntske_write_reply.Reads as write_reply

pub ntske_plan_new_same : (κs : _) (a : _) (r r' : _) (e e' : _) → plan_new.Learnt κs a r e → plan_new.Learnt κs a r' e' → (r ≡ r') × (e.1.1.0.now ≡ e'.1.1.0.now)
ntske_plan_new_same κs a r r' e e' p q = gives_same p q

pub ntske_plan_set_port_same : (κs : _) (a : _) (r r' : _) (e e' : _) → plan_set_port.Learnt κs a r e → plan_set_port.Learnt κs a r' e' → (r ≡ r') × (e.0.now ≡ e'.0.now)
ntske_plan_set_port_same κs a r r' e e' p q = gives_same p q

pub ntske_plan_clear_port_same : (κs : _) (a : _) (r r' : _) (e e' : _) → plan_clear_port.Learnt κs a r e → plan_clear_port.Learnt κs a r' e' → (r ≡ r') × (e.0.now ≡ e'.0.now)
ntske_plan_clear_port_same κs a r r' e e' p q = gives_same p q

pub ntske_plan_set_name_length_same : (κs : _) (a : _) (r r' : _) (e e' : _) → plan_set_name_length.Learnt κs a r e → plan_set_name_length.Learnt κs a r' e' → (r ≡ r') × (e.0.now ≡ e'.0.now)
ntske_plan_set_name_length_same κs a r r' e e' p q = gives_same p q

pub ntske_plan_clear_name_length_same : (κs : _) (a : _) (r r' : _) (e e' : _) → plan_clear_name_length.Learnt κs a r e → plan_clear_name_length.Learnt κs a r' e' → (r ≡ r') × (e.0.now ≡ e'.0.now)
ntske_plan_clear_name_length_same κs a r r' e e' p q = gives_same p q

pub ntske_plan_set_keep_alive_same : (κs : _) (a : _) (r r' : _) (e e' : _) → plan_set_keep_alive.Learnt κs a r e → plan_set_keep_alive.Learnt κs a r' e' → (r ≡ r') × (e.0.now ≡ e'.0.now)
ntske_plan_set_keep_alive_same κs a r r' e e' p q = gives_same p q

pub ntske_plan_clear_keep_alive_same : (κs : _) (a : _) (r r' : _) (e e' : _) → plan_clear_keep_alive.Learnt κs a r e → plan_clear_keep_alive.Learnt κs a r' e' → (r ≡ r') × (e.0.now ≡ e'.0.now)
ntske_plan_clear_keep_alive_same κs a r r' e e' p q = gives_same p q

pub ntske_plan_append_same : (κs : _) (a : _) (r r' : _) (e e' : _) → plan_append.Learnt κs a r e → plan_append.Learnt κs a r' e' → (r ≡ r') × (e.0.now ≡ e'.0.now) × (e.1.1.0.now ≡ e'.1.1.0.now)
ntske_plan_append_same κs a r r' e e' p q = let g = gives_same p.gives q.gives in (g.0, g.1, p.left ∙ sym q.left)

pub ntske_plan_length_same : (κs : _) (a : _) (r r' : _) (e e' : _) → plan_length.Learnt κs a r e → plan_length.Learnt κs a r' e' → (r ≡ r') × (e.1.1.0.now ≡ e'.1.1.0.now)
ntske_plan_length_same κs a r r' e e' p q = gives_same p q

pub ntske_write_reply_same : (κs : _) (a : _) (r r' : _) (e e' : _) → write_reply.Learnt κs a r e → write_reply.Learnt κs a r' e' → (r ≡ r') × (e.1.1.1.0.now ≡ e'.1.1.1.0.now) × (e.1.1.1.1.0.now ≡ e'.1.1.1.1.0.now)
ntske_write_reply_same κs a r r' e e' p q = writes_same p q
