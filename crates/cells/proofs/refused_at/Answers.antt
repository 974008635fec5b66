-- `cells::refused_at` meets its contract: it adds up what the definition adds up, of sixteen, sixteen and thirty-two bits.
use Rattle.cells.proofs.Lent.{adds_up}
use Rattle.cells.proofs.refused_at.Goals as goal

pub returns : goal.returns
returns c = adds_up _ _ _ c.mark.ensures c.beside.ensures
