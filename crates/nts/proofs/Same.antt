-- Any two results that meet a public function's contract are the same: one theorem a function, over the contract itself.
-- Assumes nothing.
use mathlib.Core.Path.{◌≡◌, sym, ◌∙◌}
use Rattle.nts.proofs.Apart.{code_apart, description_apart}
use Rattle.nts.proofs.AeadAlgorithm.description.Reads as description
use Rattle.nts.proofs.NtsError.number.Reads as number
use Rattle.nts.proofs.NtsError.code.Reads as code

pub AeadAlgorithm-description_same : (κs : _) (a : _) (r r' : _) (e e' : _) → description.Learnt κs a r e → description.Learnt κs a r' e' → r ≡ r'
AeadAlgorithm-description_same κs a r r' e e' p q = description_apart r r' (p ∙ sym q)

pub NtsError-number_same : (κs : _) (a : _) (r r' : _) (e e' : _) → number.Learnt κs a r e → number.Learnt κs a r' e' → r ≡ r'
NtsError-number_same κs a r r' e e' p q = p ∙ sym q

pub NtsError-code_same : (κs : _) (a : _) (r r' : _) (e e' : _) → code.Learnt κs a r e → code.Learnt κs a r' e' → r ≡ r'
NtsError-code_same κs a r r' e e' p q = code_apart r r' (p ∙ sym q)
