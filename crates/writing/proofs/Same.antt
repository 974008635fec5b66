-- Any two results that meet a public function's contract are the same, and so is all that they leave in what was lent: one theorem a function, over
-- the contract itself.
-- Assumes nothing.
use mathlib.Core.Path.{◌≡◌, sym, ◌∙◌}
use Rattle.cells.proofs.Lent.{gives_same, writes_same}
use Rattle.writing.proofs.ntske_write_no_protocol.Reads as write_no_protocol
use Rattle.writing.proofs.ntske_write_no_algorithm.Reads as write_no_algorithm
use Rattle.writing.proofs.ntske_write_error.Reads as write_error
use Rattle.writing.proofs.ntske_write_support_reply.Reads as write_support_reply
use Rattle.writing.proofs.ntske_support_reply_length.Reads as support_reply_length
use Rattle.writing.proofs.ntske_write_request.Reads as write_request
use Rattle.writing.proofs.ntske_request_length.Reads as request_length
use Rattle.writing.proofs.ntske_append_denied.Reads as append_denied
use Rattle.writing.proofs.ntske_write_record.Reads as write_record
use Rattle.writing.proofs.ntske_record_length.Reads as record_length

pub ntske_write_no_protocol_same : (κs : _) (a : _) (r r' : _) (e e' : _) → write_no_protocol.Learnt κs a r e → write_no_protocol.Learnt κs a r' e' → (r ≡ r') × (e.0.now ≡ e'.0.now) × (e.1.0.now ≡ e'.1.0.now)
ntske_write_no_protocol_same κs a r r' e e' p q = writes_same p q

pub ntske_write_no_algorithm_same : (κs : _) (a : _) (r r' : _) (e e' : _) → write_no_algorithm.Learnt κs a r e → write_no_algorithm.Learnt κs a r' e' → (r ≡ r') × (e.1.0.now ≡ e'.1.0.now) × (e.1.1.0.now ≡ e'.1.1.0.now)
ntske_write_no_algorithm_same κs a r r' e e' p q = writes_same p q

pub ntske_write_error_same : (κs : _) (a : _) (r r' : _) (e e' : _) → write_error.Learnt κs a r e → write_error.Learnt κs a r' e' → (r ≡ r') × (e.1.0.now ≡ e'.1.0.now) × (e.1.1.0.now ≡ e'.1.1.0.now)
ntske_write_error_same κs a r r' e e' p q = writes_same p q

pub ntske_write_support_reply_same : (κs : _) (a : _) (r r' : _) (e e' : _) → write_support_reply.Learnt κs a r e → write_support_reply.Learnt κs a r' e' → (r ≡ r') × (e.1.1.1.0.now ≡ e'.1.1.1.0.now) × (e.1.1.1.1.0.now ≡ e'.1.1.1.1.0.now)
ntske_write_support_reply_same κs a r r' e e' p q = writes_same p q

pub ntske_support_reply_length_same : (κs : _) (a : _) (r r' : _) (e e' : _) → support_reply_length.Learnt κs a r e → support_reply_length.Learnt κs a r' e' → (r ≡ r') × (e.1.1.1.0.now ≡ e'.1.1.1.0.now)
ntske_support_reply_length_same κs a r r' e e' p q = gives_same p q

pub ntske_write_request_same : (κs : _) (a : _) (r r' : _) (e e' : _) → write_request.Learnt κs a r e → write_request.Learnt κs a r' e' → (r ≡ r') × (e.1.1.1.1.0.now ≡ e'.1.1.1.1.0.now) × (e.1.1.1.1.1.0.now ≡ e'.1.1.1.1.1.0.now)
ntske_write_request_same κs a r r' e e' p q = writes_same p q

pub ntske_request_length_same : (κs : _) (a : _) (r r' : _) (e e' : _) → request_length.Learnt κs a r e → request_length.Learnt κs a r' e' → (r ≡ r') × (e.1.1.1.1.0.now ≡ e'.1.1.1.1.0.now)
ntske_request_length_same κs a r r' e e' p q = gives_same p q

pub ntske_append_denied_same : (κs : _) (a : _) (r r' : _) (e e' : _) → append_denied.Learnt κs a r e → append_denied.Learnt κs a r' e' → (r ≡ r') × (e.1.0.now ≡ e'.1.0.now) × (e.1.1.0.now ≡ e'.1.1.0.now)
ntske_append_denied_same κs a r r' e e' p q = (p.gives.says ∙ sym q.gives.says, p.left ∙ sym q.left, p.gives.left ∙ sym q.gives.left)

pub ntske_write_record_same : (κs : _) (a : _) (r r' : _) (e e' : _) → write_record.Learnt κs a r e → write_record.Learnt κs a r' e' → (r ≡ r') × (e.1.1.0.now ≡ e'.1.1.0.now) × (e.1.1.1.0.now ≡ e'.1.1.1.0.now)
ntske_write_record_same κs a r r' e e' p q = writes_same p q

pub ntske_record_length_same : (κs : _) (a : _) (r r' : _) (e e' : _) → record_length.Learnt κs a r e → record_length.Learnt κs a r' e' → (r ≡ r') × (e.1.1.0.now ≡ e'.1.1.0.now)
ntske_record_length_same κs a r r' e e' p q = gives_same p q
