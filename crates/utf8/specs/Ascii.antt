-- ASCII: the bytes 00 to 7F, each a character (RFC 3629, section 3). RFC 8915, section 4.1.7 asks it of a server's name.
use Rattle.std.specs.Prelude.{ℕ, List, [], ◌∷◌, Bool, true, ◌&&◌, leb}

-- every byte of the list is
unfoldable pub is_ascii : List ℕ → Bool
is_ascii [] = true
is_ascii (b ∷ s) = leb b 0x7F && is_ascii s
