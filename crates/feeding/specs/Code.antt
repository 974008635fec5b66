-- What the code's own cases say.
use Rattle.std.specs.Prelude.{ℕ, List, cond}
use Rattle.pieces.specs.Pieces.{Line, told_connection}
use Rattle.feeding.specs.Fed.{is_connection, line_in}
use Rattle.feeding.specs.declared.Kept.{Kept}
use Rattle.feeding.specs.declared.Kept.TheVariants as kept

-- the connection that cells hold, if they hold one
pub data KeptLine : Type 0 where
  no_line : KeptLine
  line : Line → KeptLine

abbrev pub told_kept : Kept → KeptLine
told_kept (kept.Connection c) = line (told_connection c)
told_kept kept.None = no_line

unfoldable pub kept_in : List ℕ → KeptLine
kept_in c = cond (is_connection c) (line (line_in c)) no_line
