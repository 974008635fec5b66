-- What the walk over a tray tells of it: how many fields there are, and how many bytes their bodies have.
use Rattle.std.specs.Prelude.{ℕ, length}
use Rattle.plan.specs.Tray.{Fields, broken, fields, bytes_in}
use Rattle.plan.specs.declared.Tally.{Tally}
use Rattle.plan.specs.declared.Tally.TheVariants.{Broken, Whole}

pub data Count : Type 0 where
  none : Count
  whole : ℕ → ℕ → Count

abbrev pub counted : Fields → Count
counted broken = none
counted (fields l) = whole (length l) (bytes_in l)

abbrev pub told_tally : Tally → Count
told_tally Broken = none
told_tally (Whole x) = whole x.fields x.bytes
