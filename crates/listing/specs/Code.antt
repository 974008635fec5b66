-- What the code holds of a listing: one line as the loops see it, and a writer of a short text into an array with room for it.
use Rattle.std.specs.Prelude.{ℕ, ◌<◌, ◌≤◌, ◌≡◌, List, [], ◌∷◌, ◌++◌, length, drop}
use Rattle.wire.specs.Over.{Put}
use Rattle.layout.specs.declared.Profile.TheVariants.{Usual}
use Rattle.record.specs.declared.Glance.{Glance}
use Rattle.walk.specs.Walk.{Sighting, walk}
use Rattle.walk.specs.Shown.{Mark, shown}
use Rattle.walk.specs.Found.{place_of}
use Rattle.request.specs.Request.{reader}
use Rattle.listing.specs.Listing.{space, newline, digits, mark, line_of, lines_of}
use Rattle.listing.specs.declared.Line.{Line}
use Rattle.listing.specs.declared.Line.TheVariants as line

-- a writer that had room: it wrote b, at most so many bytes, at the front of o
pub record PutMost (most : ℕ) (b o : List ℕ) (r : ℕ) (o' : List ℕ) : Type 0 where
  pub put : Put (length b) b o r o'
  pub within : r ≤ most

abbrev pub mark_of : ℕ → Glance → Mark
mark_of at x = record { place = at; kind = x.kind; critical = x.critical; size = x.size }

-- the line of the record at a place
abbrev pub row_line : ℕ → Glance → List ℕ
row_line at x = line_of (mark_of at x)

-- what stands behind a line's place
unfoldable pub row_text : Glance → List ℕ
row_text x = ((space ∷ []) ++ digits x.kind) ++ (((space ∷ mark x.critical ∷ space ∷ []) ++ digits x.size) ++ (newline ∷ []))

-- where a walk over the message s that is at a place with the records st noted stops
abbrev pub stop_from : List ℕ → List Sighting → ℕ → ℕ
stop_from s st at = place_of (walk (reader Usual) st at 0 (drop at s))

-- the lines of the records that it meets from there on
abbrev pub lines_from : List ℕ → List Sighting → ℕ → List ℕ
lines_from s st at = lines_of (shown (reader Usual) st at 0 (drop at s))

-- what a line found at a place says of them: none, one, or one and those from the place after it on, where the walk stops at the same place
abbrev pub LinesBy : List ℕ → List Sighting → ℕ → Line → Type 0
LinesBy s st at line.None = lines_from s st at ≡ []
LinesBy s st at (line.Last x) = lines_from s st at ≡ row_line at x
LinesBy s st at (line.More x next) =
    (st' : List Sighting) × (lines_from s st at ≡ row_line at x ++ lines_from s st' next) × (stop_from s st at ≡ stop_from s st' next)

pub record LineAt (s : List ℕ) (place at : ℕ) (r : Line) : Type 0 where
  pub same : (st : List Sighting) → place ≡ stop_from s st at → LinesBy s st at r
  pub onward : (x : Glance) (next : ℕ) → r ≡ line.More x next → (at < next) × (next ≤ length s)
