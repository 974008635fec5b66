-- What the contract of `hand_over` says, as a fact. That it is the contract is `learnt_is`.
-- Assumes nothing.
use mathlib.Core.Path.{◌≡◌, refl}
use seplogic.Ra.Ura.{Ura}
use base.Logic.{SProp}
use prog.Memory.{Memory}
use prog.Routine.{Routine}
use types.Logic.{Logic}
use contract.Monad.{Fun, fact}
use contract.Lifetimes.{Lfts}
use denote.Triple.Entry.{Args, Res}
use denote.Triple.Clauses.{AtExit}
use Rattle.pieces.specs.Reads.{HandsOver}
use Rattle.pieces.specs.contracts.hand_over as thin

abbrev pub Learnt : (κs : Lfts 6) (a : Args thin.signature κs) (r : Res thin.signature κs) (e : AtExit thin.ended κs) → Type 0
Learnt κs a r e =
    HandsOver
    a.0.now
    a.1.0
    a.1.1.1.0.now
    a.1.1.0
    a.1.1.1.1.0.now
    a.1.1.1.1.1.0.now
    a.1.1.1.1.1.1.0.now
    a.1.1.1.1.1.1.1.0.now
    (record { connection = e.0.now; answer = r })
    e.1.1.1.1.1.1.0.now
    e.1.1.1.1.1.1.1.0.now

pub learnt_is : {M : Type 1} {𝓤 : Ura M} (𝓛 : Logic 𝓤) (mem : Memory → SProp 𝓤) (run : Routine → Fun 𝓤) (κs : Lfts 6) (a : Args thin.signature κs) (r : Res thin.signature κs) (e : AtExit thin.ended κs)
    → (thin.clauses 𝓛 mem run κs a).ensures tt r e ≡ fact 𝓤 (Learnt κs a r e)
learnt_is 𝓛 mem run κs a r e = refl
