-- The lines from a place of a message on, by a look at the record there and by whether the walk stops at it: those of the records that the walk
-- meets.
-- Assumes nothing.
use mathlib.Core.Path.{◌≡◌, sym, ap, ◌∙◌}
use mathlib.Core.List.{List, append-nil}
use Prim.Native.Nat.{ℕ, ◌+◌}
use native.Mathlib.Omega.{arith}
use Rattle.nts.specs.Refusal.{Refused}
use Rattle.layout.specs.Profile.{shape_in}
use Rattle.layout.specs.declared.Profile.TheVariants.{Usual}
use Rattle.record.specs.Record.{whole, broken, look_at}
use Rattle.record.specs.declared.Glance.{Glance}
use Rattle.record.proofs.Read.{look_inside}
use Rattle.walk.specs.Found.{place_of}
use Rattle.walk.proofs.Meets.{meets_none, meets_last, meets_more}
use Rattle.request.specs.Request.{reader}
use Rattle.listing.specs.Listing.{lines_of}
use Rattle.listing.specs.Code.{row_line, LineAt}
use Rattle.listing.specs.declared.Line.TheVariants as line

pub line_none : (s : List ℕ) (place at : ℕ) (r : Refused) → broken r ≡ look_at (shape_in Usual) s at → LineAt s place at line.None
line_none s place at r e =
    record {
      same = λ st p. ap lines_of (meets_none (reader Usual) s st at r e);
      onward = λ x next q. let z : ◌≡◌ {A = ℕ} 0 1 = cc in absurd (omega arith);
    }

module _ (s : List ℕ) (place at : ℕ) (x : Glance) (e : whole x.kind x.critical x.size ≡ look_at (shape_in Usual) s at) where
  pub line_last : at ≡ place → LineAt s place at (line.Last x)
  line_last q =
      record {
        same = λ st p. ap lines_of (meets_last (reader Usual) s st at x.kind x.critical x.size e (q ∙ p)) ∙ append-nil (row_line at x);
        onward = λ y next h. let z : ◌≡◌ {A = ℕ} 0 1 = cc in absurd (omega arith);
      }

  pub line_more : (at ≡ place → ⊥) → LineAt s place at (line.More x (at + 4 + x.size))
  line_more q =
      record {
        same = λ st p.
            let m = meets_more (reader Usual) s st at x.kind x.critical x.size e (λ h. q (h ∙ sym p)) in
            (m.state, ap lines_of m.meets, ap place_of m.walks);
        onward = λ y next h.
            let z : at + 4 + x.size ≡ next = cc in
            let i = look_inside (shape_in Usual) s at x.kind x.critical x.size e in
            (omega arith, omega arith);
      }
