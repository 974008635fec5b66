-- Any two results that meet a public function's contract are the same, and so is all that they leave in what was lent: one theorem a function, over
-- the contract itself.
-- Assumes nothing.
use mathlib.Core.Path.{◌≡◌, sym, ap, ◌∙◌}
use mathlib.Core.List.{[]}
use Rattle.cells.specs.Cells.{Given, held}
use Rattle.cells.proofs.Lent.{gives_same}
use Rattle.reading.proofs.ntske_read_request.Reads as ntske_read_request
use Rattle.reading.proofs.ntske_read_request_strict.Reads as ntske_read_request_strict
use Rattle.reading.proofs.ntske_read_reply.Reads as ntske_read_reply
use Rattle.reading.proofs.ntske_read_reply_strict.Reads as ntske_read_reply_strict
use Rattle.reading.proofs.ntske_read_record.Reads as ntske_read_record
use Rattle.reading.proofs.ntske_bit_named.Reads as ntske_bit_named
use Rattle.reading.proofs.ntske_is_utf8.Reads as ntske_is_utf8
use Rattle.reading.proofs.request_cells.Reads as request_cells
use Rattle.reading.proofs.reply_cells.Reads as reply_cells

pub ntske_read_request_same : (κs : _) (a : _) (r r' : _) (e e' : _) → ntske_read_request.Learnt κs a r e → ntske_read_request.Learnt κs a r' e' → (r ≡ r') × (e.1.1.0.now ≡ e'.1.1.0.now) × (e.1.1.1.0.now ≡ e'.1.1.1.0.now)
ntske_read_request_same κs a r r' e e' p q = let g = gives_same p.gives q.gives in (g.0, p.left ∙ sym q.left, g.1)

pub ntske_read_request_strict_same : (κs : _) (a : _) (r r' : _) (e e' : _) → ntske_read_request_strict.Learnt κs a r e → ntske_read_request_strict.Learnt κs a r' e' → (r ≡ r') × (e.1.1.0.now ≡ e'.1.1.0.now) × (e.1.1.1.0.now ≡ e'.1.1.1.0.now)
ntske_read_request_strict_same κs a r r' e e' p q = let g = gives_same p.gives q.gives in (g.0, p.left ∙ sym q.left, g.1)

pub ntske_read_reply_same : (κs : _) (a : _) (r r' : _) (e e' : _) → ntske_read_reply.Learnt κs a r e → ntske_read_reply.Learnt κs a r' e' → (r ≡ r') × (e.1.1.1.1.0.now ≡ e'.1.1.1.1.0.now) × (e.1.1.1.1.1.0.now ≡ e'.1.1.1.1.1.0.now)
ntske_read_reply_same κs a r r' e e' p q = let g = gives_same p.gives q.gives in (g.0, p.left ∙ sym q.left, g.1)

pub ntske_read_reply_strict_same : (κs : _) (a : _) (r r' : _) (e e' : _) → ntske_read_reply_strict.Learnt κs a r e → ntske_read_reply_strict.Learnt κs a r' e' → (r ≡ r') × (e.1.1.1.1.0.now ≡ e'.1.1.1.1.0.now) × (e.1.1.1.1.1.0.now ≡ e'.1.1.1.1.1.0.now)
ntske_read_reply_strict_same κs a r r' e e' p q = let g = gives_same p.gives q.gives in (g.0, p.left ∙ sym q.left, g.1)

pub ntske_read_record_same : (κs : _) (a : _) (r r' : _) (e e' : _) → ntske_read_record.Learnt κs a r e → ntske_read_record.Learnt κs a r' e' → (r ≡ r') × (e.1.1.0.now ≡ e'.1.1.0.now)
ntske_read_record_same κs a r r' e e' p q = gives_same p q

pub ntske_bit_named_same : (κs : _) (a : _) (r r' : _) (e e' : _) → ntske_bit_named.Learnt κs a r e → ntske_bit_named.Learnt κs a r' e' → r ≡ r'
ntske_bit_named_same κs a r r' e e' p q = p ∙ sym q

pub ntske_is_utf8_same : (κs : _) (a : _) (r r' : _) (e e' : _) → ntske_is_utf8.Learnt κs a r e → ntske_is_utf8.Learnt κs a r' e' → r ≡ r'
ntske_is_utf8_same κs a r r' e e' p q = p ∙ sym q

pub request_cells_same : (κs : _) (a : _) (r r' : _) (e e' : _) → request_cells.Learnt κs a r e → request_cells.Learnt κs a r' e' → r ≡ r'
request_cells_same κs a r r' e e' p q = ap (λ (g : Given). held g []) (p ∙ sym q)

pub reply_cells_same : (κs : _) (a : _) (r r' : _) (e e' : _) → reply_cells.Learnt κs a r e → reply_cells.Learnt κs a r' e' → r ≡ r'
reply_cells_same κs a r r' e e' p q = ap (λ (g : Given). held g []) (p ∙ sym q)
