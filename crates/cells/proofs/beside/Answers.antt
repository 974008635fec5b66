-- `cells::beside` meets its contract: each arm knows what is beside the refusal.
use mathlib.Core.Path.{sym, ap, ◌∙◌}
use Rattle.nts.specs.Refusal.{told_code, beside_number}
use Rattle.cells.proofs.beside.Goals as goal

pub returns-in-None : goal.returns-in-None
returns-in-None c = ap beside_number (sym (ap told_code c.in-None.is) ∙ c.code-code.ensures)

pub returns-in-Number : goal.returns-in-Number
returns-in-Number c = ap beside_number (sym (ap told_code c.in-Number.is) ∙ c.code-code.ensures)

pub returns-in-Protocol : goal.returns-in-Protocol
returns-in-Protocol c = ap beside_number (sym (ap told_code c.in-Protocol.is) ∙ c.code-code.ensures)

pub returns-in-Algorithm : goal.returns-in-Algorithm
returns-in-Algorithm c = ap beside_number (sym (ap told_code c.in-Algorithm.is) ∙ c.code-code.ensures)
