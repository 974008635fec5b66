-- Any two results that meet a public function's contract are the same, and so are the outputs they leave: one theorem a function, over the
-- contract itself.
-- Assumes nothing.
use mathlib.Core.Path.{◌≡◌, sym, ◌∙◌}
use Rattle.layout.proofs.Apart.{count_apart, wrote_same}
use Rattle.outgoing.proofs.write_reply.Reads as write_reply
use Rattle.outgoing.proofs.write_request.Reads as write_request
use Rattle.outgoing.proofs.request_length.Reads as request_length

pub write_reply_same : (κs : _) (a : _) (r r' : _) (e e' : _) → write_reply.Learnt κs a r e → write_reply.Learnt κs a r' e' → (r ≡ r') × (e.1.1.1.0.now ≡ e'.1.1.1.0.now)
write_reply_same κs a r r' e e' p q = wrote_same p q

pub write_request_same : (κs : _) (a : _) (r r' : _) (e e' : _) → write_request.Learnt κs a r e → write_request.Learnt κs a r' e' → (r ≡ r') × (e.1.1.1.1.0.now ≡ e'.1.1.1.1.0.now)
write_request_same κs a r r' e e' p q = wrote_same p q

pub request_length_same : (κs : _) (a : _) (r r' : _) (e e' : _) → request_length.Learnt κs a r e → request_length.Learnt κs a r' e' → r ≡ r'
request_length_same κs a r r' e e' p q = count_apart r r' (p ∙ sym q)
