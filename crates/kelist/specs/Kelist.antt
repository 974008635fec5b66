-- What kelist prints for what it has read of standard input: 01, "The listing program": "reads the first 65,535 bytes of standard input, with
-- room for 1,024 names".
use Rattle.std.specs.Prelude.{ℕ, List}
use Rattle.listing.specs.Listing.{listing}

unfoldable pub kelist_text : List ℕ → List ℕ
kelist_text input = listing input 65535 1024
