-- Any two results that meet a public function's contract are the same, and so are the tables they leave: one theorem a function, over the
-- contract itself.
-- Assumes nothing.
use mathlib.Core.Path.{◌≡◌, sym, ◌∙◌}
use Rattle.reply.proofs.Apart.{answer_apart}
use Rattle.reply.proofs.KeyExchangeResponse.judge.Reads as judge
use Rattle.reply.proofs.KeyExchangeResponse.parse.Reads as parse
use Rattle.reply.proofs.KeyExchangeResponse.named.Reads as named

pub KeyExchangeResponse-judge_same : (κs : _) (a : _) (r r' : _) (e e' : _) → judge.Learnt κs a r e → judge.Learnt κs a r' e' → r ≡ r'
KeyExchangeResponse-judge_same κs a r r' e e' p q =
    let x = answer_apart r.answer r'.answer (p.says ∙ sym q.says) in
    let y = p.stopped ∙ sym q.stopped in
    λ i. record { answer = x i; place = y i }

pub KeyExchangeResponse-parse_same : (κs : _) (a : _) (r r' : _) (e e' : _) → parse.Learnt κs a r e → parse.Learnt κs a r' e' → (r ≡ r') × (e.1.1.1.1.1.0.now ≡ e'.1.1.1.1.1.0.now)
KeyExchangeResponse-parse_same κs a r r' e e' p q = (answer_apart r r' (p.says ∙ sym q.says), p.left ∙ sym q.left)

pub KeyExchangeResponse-named_same : (κs : _) (a : _) (r r' : _) (e e' : _) → named.Learnt κs a r e → named.Learnt κs a r' e' → r ≡ r'
KeyExchangeResponse-named_same κs a r r' e e' p q =
    let x = p.0 ∙ sym q.0 in
    let y = p.1 ∙ sym q.1 in
    λ i. record { protocol = record { 0 = x i }; algorithm = record { 0 = y i } }
