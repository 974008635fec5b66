-- `layout::Layout::length` meets its contract: what is no record is told first, then a body that is too long.
use mathlib.Core.Path.{sym, ap, ◌∙◌}
use Prim.Native.Nat.{ℕ, ◌+◌}
use native.Mathlib.Omega.{arith}
use Rattle.layout.specs.Write.{bytes}
use Rattle.layout.proofs.Writing.{parts_fit, not_record, too_long, just_long}
use Rattle.layout.proofs.Layout.length.Goals as goal

pub body_size-size-requires : goal.body_size-size-requires
body_size-size-requires c = parts_fit _ c.args.source.now (omega arith) (sym c.is_record.ensures ∙ c.if-is_record.true)

pub returns-then-size-gt-LONGEST : goal.returns-then-size-gt-LONGEST
returns-then-size-gt-LONGEST c = too_long _ _ (sym c.is_record.ensures ∙ c.if-is_record.true) (omega arith)

pub returns-then-is_record : goal.returns-then-is_record
returns-then-is_record c = ap (λ (n : ℕ). bytes (4 + n)) c.body_size-size.ensures ∙ just_long _ _ (sym c.is_record.ensures ∙ c.if-is_record.true) (omega arith)

pub returns : goal.returns
returns c = not_record _ _ (sym c.is_record.ensures ∙ c.if-is_record.false)
