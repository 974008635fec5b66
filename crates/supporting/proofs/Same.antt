-- Any two results that meet a public function's contract are the same, and so are the outputs they leave: one theorem a function, over the
-- contract itself.
-- Assumes nothing.
use mathlib.Core.Path.{◌≡◌, sym, ◌∙◌}
use Rattle.layout.proofs.Apart.{count_apart, wrote_same}
use Rattle.supporting.proofs.write_support_reply.Reads as write_support_reply
use Rattle.supporting.proofs.support_reply_length.Reads as support_reply_length

pub write_support_reply_same : (κs : _) (a : _) (r r' : _) (e e' : _) → write_support_reply.Learnt κs a r e → write_support_reply.Learnt κs a r' e' → (r ≡ r') × (e.1.1.1.0.now ≡ e'.1.1.1.0.now)
write_support_reply_same κs a r r' e e' p q = wrote_same p q

pub support_reply_length_same : (κs : _) (a : _) (r r' : _) (e e' : _) → support_reply_length.Learnt κs a r e → support_reply_length.Learnt κs a r' e' → r ≡ r'
support_reply_length_same κs a r r' e e' p q = count_apart r r' (p ∙ sym q)
