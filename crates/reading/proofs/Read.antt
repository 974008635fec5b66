-- A record that is refused is refused at the place that was asked for.
-- Assumes nothing.
use mathlib.Core.Path.{◌≡◌, sym, ap, ◌∙◌}
use mathlib.Core.List.{List}
use Prim.Native.Nat.{ℕ}
use Rattle.nts.specs.Refusal.{Refused}
use Rattle.record.specs.Record.{refused, read_at}
use Rattle.record.proofs.Inverse.{refused_was}
use Rattle.record.proofs.Read.{rest, from_rest}

pub record_place : (m : List ℕ) (place : ℕ) (r : Refused) → refused r ≡ read_at m place → r.place ≡ place
record_place m place r e = ap (λ (x : Refused). x.place) (refused_was place (rest m place) r (e ∙ sym (from_rest m place))).1
