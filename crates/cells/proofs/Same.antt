-- Any two results that meet a public function's contract are the same, and so is all that they leave in what was lent: one theorem a function, over
-- the contract itself.
-- Assumes nothing.
use mathlib.Core.Path.{◌≡◌, sym, ◌∙◌}
use Rattle.cells.proofs.Lent.{gives_same}
use Rattle.cells.proofs.refused_at.Reads as refused_at
use Rattle.cells.proofs.refused.Reads as refused
use Rattle.cells.proofs.mark.Reads as mark
use Rattle.cells.proofs.beside.Reads as beside
use Rattle.cells.proofs.give_count.Reads as give_count
use Rattle.cells.proofs.flag_of.Reads as flag_of

pub refused_at_same : (κs : _) (a : _) (r r' : _) (e e' : _) → refused_at.Learnt κs a r e → refused_at.Learnt κs a r' e' → r ≡ r'
refused_at_same κs a r r' e e' p q = p ∙ sym q

pub refused_same : (κs : _) (a : _) (r r' : _) (e e' : _) → refused.Learnt κs a r e → refused.Learnt κs a r' e' → r ≡ r'
refused_same κs a r r' e e' p q = p ∙ sym q

pub mark_same : (κs : _) (a : _) (r r' : _) (e e' : _) → mark.Learnt κs a r e → mark.Learnt κs a r' e' → r ≡ r'
mark_same κs a r r' e e' p q = p ∙ sym q

pub beside_same : (κs : _) (a : _) (r r' : _) (e e' : _) → beside.Learnt κs a r e → beside.Learnt κs a r' e' → r ≡ r'
beside_same κs a r r' e e' p q = p ∙ sym q

pub give_count_same : (κs : _) (a : _) (r r' : _) (e e' : _) → give_count.Learnt κs a r e → give_count.Learnt κs a r' e' → (r ≡ r') × (e.1.0.now ≡ e'.1.0.now)
give_count_same κs a r r' e e' p q = gives_same p q

pub flag_of_same : (κs : _) (a : _) (r r' : _) (e e' : _) → flag_of.Learnt κs a r e → flag_of.Learnt κs a r' e' → r ≡ r'
flag_of_same κs a r r' e e' p q = p ∙ sym q
