-- The algorithms whose key length is known: 01, "From records to a request", 2, where algorithm 15 needs halves of 32 bytes and 17 halves of 64.
use Rattle.std.specs.Prelude.{ℕ, cond, eqb}
use Rattle.nts.specs.declared.Description.{Description}
use Rattle.nts.specs.declared.Description.TheVariants.{Known, Unknown}

pub data Described : Type 0 where
  unknown : Described
  known : ℕ → ℕ → Described

-- an algorithm number, with its key length in bytes
unfoldable pub describe : ℕ → Described
describe n = cond (eqb n 15) (known 15 32) (cond (eqb n 17) (known 17 64) unknown)

-- what each case of the answer says
abbrev pub told_description : Description → Described
told_description (Known d) = known d.id.0 d.keysize
told_description Unknown = unknown
