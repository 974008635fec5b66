-- Any two results that meet a public function's contract are the same, and so are the outputs they leave: one theorem a function, over the
-- contract itself.
-- Assumes nothing.
use mathlib.Core.Path.{◌≡◌, sym, ◌∙◌}
use Rattle.wire.proofs.Over.{tried_same}
use Rattle.messages.proofs.too_long.Reads as too_long
use Rattle.messages.proofs.put_empty.Reads as put_empty
use Rattle.messages.proofs.put_one.Reads as put_one
use Rattle.messages.proofs.put_body.Reads as put_body
use Rattle.messages.proofs.put_list.Reads as put_list
use Rattle.messages.proofs.put_keep_alive.Reads as put_keep_alive

pub too_long_same : (κs : _) (a : _) (r r' : _) (e e' : _) → too_long.Learnt κs a r e → too_long.Learnt κs a r' e' → r ≡ r'
too_long_same κs a r r' e e' p q = p ∙ sym q

pub put_empty_same : (κs : _) (a : _) (r r' : _) (e e' : _) → put_empty.Learnt κs a r e → put_empty.Learnt κs a r' e' → (r ≡ r') × (e.1.0.now ≡ e'.1.0.now)
put_empty_same κs a r r' e e' p q = tried_same p q

pub put_one_same : (κs : _) (a : _) (r r' : _) (e e' : _) → put_one.Learnt κs a r e → put_one.Learnt κs a r' e' → (r ≡ r') × (e.1.1.0.now ≡ e'.1.1.0.now)
put_one_same κs a r r' e e' p q = tried_same p q

pub put_body_same : (κs : _) (a : _) (r r' : _) (e e' : _) → put_body.Learnt κs a r e → put_body.Learnt κs a r' e' → (r ≡ r') × (e.1.1.0.now ≡ e'.1.1.0.now)
put_body_same κs a r r' e e' p q = tried_same p q

pub put_list_same : (κs : _) (a : _) (r r' : _) (e e' : _) → put_list.Learnt κs a r e → put_list.Learnt κs a r' e' → (r ≡ r') × (e.1.1.0.now ≡ e'.1.1.0.now)
put_list_same κs a r r' e e' p q = tried_same p q

pub put_keep_alive_same : (κs : _) (a : _) (r r' : _) (e e' : _) → put_keep_alive.Learnt κs a r e → put_keep_alive.Learnt κs a r' e' → (r ≡ r') × (e.1.0.now ≡ e'.1.0.now)
put_keep_alive_same κs a r r' e e' p q = tried_same p q
