-- `pieces::after_end` meets its contract: its tests are the definition's, one after the other.
use mathlib.Core.Path.{sym, ap, ◌∙◌}
use borrow.Author.Tests.{not-true, not-false}
use Rattle.pieces.specs.Pieces as pieces
use Rattle.pieces.specs.Pieces.{is_decided}
use Rattle.pieces.specs.Code.{told_how, told_came}
use Rattle.pieces.specs.declared.How.{How}
use Rattle.pieces.proofs.Ending.{after_any, after_undecided, after_other, after_ended}
use Rattle.pieces.proofs.after_end.Goals as goal

pub returns-then-not-is_final : goal.returns-then-not-is_final
returns-then-not-is_final c = after_any _ _ _ _ _ _ (sym c.is_final.ensures ∙ not-true _ c.if-not-is_final.true-raw)

pub returns-then-not-is_end : goal.returns-then-not-is_end
returns-then-not-is_end c = after_other _ _ _ _ _ _ (sym c.is_end.ensures ∙ not-true _ c.if-not-is_end.true-raw)

pub returns-in-Waiting : goal.returns-in-Waiting
returns-in-Waiting c = after_undecided _ _ _ _ _ _ (ap (λ (h : How). is_decided (told_how h)) c.in-Waiting.is)

pub returns-in-NoRoom : goal.returns-in-NoRoom
returns-in-NoRoom c = after_undecided _ _ _ _ _ _ (ap (λ (h : How). is_decided (told_how h)) c.in-NoRoom.is)

pub returns-in-Followed : goal.returns-in-Followed
returns-in-Followed c = after_undecided _ _ _ _ _ _ (ap (λ (h : How). is_decided (told_how h)) c.in-Followed.is)

pub returns-else-not-is_end : goal.returns-else-not-is_end
returns-else-not-is_end c =
    let x = c.args.came in
    ap (λ (h : pieces.How). record { gathered = x.gathered; begins = x.begins; met = x.met; how = h }) c.how_after.ensures
    ∙ after_ended _ _ _ _ _ (told_came x) (sym c.is_final.ensures ∙ not-false _ c.if-not-is_final.false-raw) (ap (λ (h : How). is_decided (told_how h)) c.in-Decided.is)
    (sym c.is_end.ensures ∙ not-false _ c.if-not-is_end.false-raw)
