-- Any two results that meet a public function's contract are the same, and so is all that they leave in what was lent: one theorem a function, over
-- the contract itself.
-- Assumes nothing.
use mathlib.Core.Path.{◌≡◌}
use Rattle.cells.proofs.Lent.{gives_same}
use Rattle.feeding.proofs.Feeding.{feeds_same}
use Rattle.feeding.proofs.ntske_connection_new.Reads as connection_new
use Rattle.feeding.proofs.ntske_connection_new_strict.Reads as connection_new_strict
use Rattle.feeding.proofs.ntske_feed_request.Reads as feed_request
use Rattle.feeding.proofs.ntske_close_request.Reads as close_request
use Rattle.feeding.proofs.ntske_feed_reply.Reads as feed_reply
use Rattle.feeding.proofs.ntske_close_reply.Reads as close_reply

pub ntske_connection_new_same : (κs : _) (a : _) (r r' : _) (e e' : _) → connection_new.Learnt κs a r e → connection_new.Learnt κs a r' e' → (r ≡ r') × (e.1.0.now ≡ e'.1.0.now)
ntske_connection_new_same κs a r r' e e' p q = gives_same p q

pub ntske_connection_new_strict_same : (κs : _) (a : _) (r r' : _) (e e' : _) → connection_new_strict.Learnt κs a r e → connection_new_strict.Learnt κs a r' e' → (r ≡ r') × (e.1.0.now ≡ e'.1.0.now)
ntske_connection_new_strict_same κs a r r' e e' p q = gives_same p q

pub ntske_feed_request_same : (κs : _) (a : _) (r r' : _) (e e' : _) → feed_request.Learnt κs a r e → feed_request.Learnt κs a r' e' → (r ≡ r') × (e.0.now ≡ e'.0.now) × (e.1.1.0.now ≡ e'.1.1.0.now) × (e.1.1.1.0.now ≡ e'.1.1.1.0.now) × (e.1.1.1.1.0.now ≡ e'.1.1.1.1.0.now)
ntske_feed_request_same κs a r r' e e' p q = feeds_same p q

pub ntske_close_request_same : (κs : _) (a : _) (r r' : _) (e e' : _) → close_request.Learnt κs a r e → close_request.Learnt κs a r' e' → (r ≡ r') × (e.0.now ≡ e'.0.now) × (e.1.0.now ≡ e'.1.0.now) × (e.1.1.0.now ≡ e'.1.1.0.now) × (e.1.1.1.0.now ≡ e'.1.1.1.0.now)
ntske_close_request_same κs a r r' e e' p q = feeds_same p q

pub ntske_feed_reply_same : (κs : _) (a : _) (r r' : _) (e e' : _) → feed_reply.Learnt κs a r e → feed_reply.Learnt κs a r' e' → (r ≡ r') × (e.0.now ≡ e'.0.now) × (e.1.1.1.1.0.now ≡ e'.1.1.1.1.0.now) × (e.1.1.1.1.1.0.now ≡ e'.1.1.1.1.1.0.now) × (e.1.1.1.1.1.1.0.now ≡ e'.1.1.1.1.1.1.0.now)
ntske_feed_reply_same κs a r r' e e' p q = feeds_same p q

pub ntske_close_reply_same : (κs : _) (a : _) (r r' : _) (e e' : _) → close_reply.Learnt κs a r e → close_reply.Learnt κs a r' e' → (r ≡ r') × (e.0.now ≡ e'.0.now) × (e.1.1.1.0.now ≡ e'.1.1.1.0.now) × (e.1.1.1.1.0.now ≡ e'.1.1.1.1.0.now) × (e.1.1.1.1.1.0.now ≡ e'.1.1.1.1.1.0.now)
ntske_close_reply_same κs a r r' e e' p q = feeds_same p q
