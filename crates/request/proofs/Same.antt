-- Any two results that meet a public function's contract are the same, and so are the tables they leave: one theorem a function, over the
-- contract itself.
-- Assumes nothing.
use mathlib.Core.Path.{◌≡◌, sym, ◌∙◌}
use Rattle.request.proofs.Apart.{answer_apart}
use Rattle.walk.proofs.Same.{finding_apart}
use Rattle.request.proofs.Request.walk.Reads as walk
use Rattle.request.proofs.Request.decide.Reads as decide
use Rattle.request.proofs.Request.judge.Reads as judge
use Rattle.request.proofs.Request.parse.Reads as parse

pub Request-walk_same : (κs : _) (a : _) (r r' : _) (e e' : _) → walk.Learnt κs a r e → walk.Learnt κs a r' e' → r ≡ r'
Request-walk_same κs a r r' e e' p q = finding_apart r r' (p ∙ sym q)

pub Request-decide_same : (κs : _) (a : _) (r r' : _) (e e' : _) → decide.Learnt κs a r e → decide.Learnt κs a r' e' → (r ≡ r') × (e.1.1.0.now ≡ e'.1.1.0.now)
Request-decide_same κs a r r' e e' p q = (answer_apart r r' (p.says ∙ sym q.says), p.left ∙ sym q.left)

pub Request-judge_same : (κs : _) (a : _) (r r' : _) (e e' : _) → judge.Learnt κs a r e → judge.Learnt κs a r' e' → r ≡ r'
Request-judge_same κs a r r' e e' p q =
    let x = answer_apart r.answer r'.answer (p.says ∙ sym q.says) in
    let y = finding_apart r.finding r'.finding (p.found ∙ sym q.found) in
    λ i. record { answer = x i; finding = y i }

pub Request-parse_same : (κs : _) (a : _) (r r' : _) (e e' : _) → parse.Learnt κs a r e → parse.Learnt κs a r' e' → (r ≡ r') × (e.1.1.1.0.now ≡ e'.1.1.1.0.now)
Request-parse_same κs a r r' e e' p q = (answer_apart r r' (p.says ∙ sym q.says), p.left ∙ sym q.left)
