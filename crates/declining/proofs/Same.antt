-- Any two results that meet a public function's contract are the same, and so are the outputs they leave: one theorem a function, over the
-- contract itself.
-- Assumes nothing.
use mathlib.Core.Path.{◌≡◌}
use Rattle.layout.proofs.Apart.{wrote_same}
use Rattle.declining.proofs.write_no_protocol.Reads as write_no_protocol
use Rattle.declining.proofs.write_no_algorithm.Reads as write_no_algorithm
use Rattle.declining.proofs.write_error.Reads as write_error

pub write_no_protocol_same : (κs : _) (a : _) (r r' : _) (e e' : _) → write_no_protocol.Learnt κs a r e → write_no_protocol.Learnt κs a r' e' → (r ≡ r') × (e.0.now ≡ e'.0.now)
write_no_protocol_same κs a r r' e e' p q = wrote_same p q

pub write_no_algorithm_same : (κs : _) (a : _) (r r' : _) (e e' : _) → write_no_algorithm.Learnt κs a r e → write_no_algorithm.Learnt κs a r' e' → (r ≡ r') × (e.1.0.now ≡ e'.1.0.now)
write_no_algorithm_same κs a r r' e e' p q = wrote_same p q

pub write_error_same : (κs : _) (a : _) (r r' : _) (e e' : _) → write_error.Learnt κs a r e → write_error.Learnt κs a r' e' → (r ≡ r') × (e.1.0.now ≡ e'.1.0.now)
write_error_same κs a r r' e e' p q = wrote_same p q
