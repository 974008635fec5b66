-- The host's second call, from what the call by value answered of the finding that the cells tell.
-- Assumes nothing.
use mathlib.Core.Path.{◌≡◌, refl, sym, ap, ◌∙◌}
use mathlib.Core.List.{List}
use Prim.Native.Nat.{ℕ, ◌<◌}
use Rattle.wire.proofs.Over.{over_none}
use Rattle.nts.specs.Refusal.{nothing}
use Rattle.walk.specs.Finding.{Found}
use Rattle.places.specs.Places.{room_of}
use Rattle.request.specs.Request.{told_by, told_answer, table_after, decided, Decides}
use Rattle.cells.specs.Cells.{cell, word, unplaced, Given, Gives}
use Rattle.cells.proofs.Lent.{given}
use Rattle.reading.specs.Read.{request_given}
use Rattle.deciding.specs.Given.{found_in, DecidesRequest}
use Rattle.deciding.proofs.Refusing.{decided_none}
use Rattle.request.specs.declared.Answer.{Answer}

-- a reason above 4 is refused with 9, and nothing changes
pub decides_none : (c m t lent : List ℕ) {r : ℕ} → 4 < cell c 2 → r ≡ word (unplaced 9 nothing) → DecidesRequest c m t lent r t lent
unfolding table_after
decides_none c m t lent h e =
    let d = decided_none c m (room_of t) h in
    record { gives = given request_given (ap (told_by m) (sym d)) (record { says = e; left = refl }); left = sym (ap (λ x. table_after x t) d ∙ over_none t) }

-- otherwise the answer is given: f is the finding that the cells tell
pub decides : (c : List ℕ) {m t lent t' after : List ℕ} {r : ℕ} {f : Found} (x : Answer) (g : Given) → f ≡ found_in c → Decides f m t x t' → g ≡ request_given (told_answer x)
    → Gives g lent r after → DecidesRequest c m t lent r t' after
decides c {m} {t} {lent} {t'} {after} {r} x g e p q w =
    record {
      gives = given (λ y. y) (q ∙ ap request_given (p.says ∙ ap (λ (x : Found). told_by m (decided x m (room_of t))) e)) w;
      left = p.left ∙ ap (λ (x : Found). table_after (decided x m (room_of t)) t) e;
    }
