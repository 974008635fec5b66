-- UTF-8, after RFC 3629, section 4: which lists of bytes match its grammar. The grammar's rules keep their names.
use Rattle.std.specs.Prelude.{ℕ, zero, suc, List, [], ◌∷◌, Bool, true, false, cond, ◌&&◌, length, leb}

-- %xLO-HI
abbrev pub within : ℕ → ℕ → ℕ → Bool
within lo hi b = leb lo b && leb b hi

-- UTF8-tail
unfoldable pub tail : ℕ → Bool
tail b = within 0x80 0xBF b

-- UTF8-1, UTF8-2, UTF8-3 and UTF8-4: each alternative is a row, with what each of its bytes may be
unfoldable pub rows : List (List (ℕ → Bool))
rows =
    (within 0x00 0x7F ∷ [])
    ∷ (within 0xC2 0xDF ∷ tail ∷ [])
    ∷ (within 0xE0 0xE0 ∷ within 0xA0 0xBF ∷ tail ∷ [])
    ∷ (within 0xE1 0xEC ∷ tail ∷ tail ∷ [])
    ∷ (within 0xED 0xED ∷ within 0x80 0x9F ∷ tail ∷ [])
    ∷ (within 0xEE 0xEF ∷ tail ∷ tail ∷ [])
    ∷ (within 0xF0 0xF0 ∷ within 0x90 0xBF ∷ tail ∷ tail ∷ [])
    ∷ (within 0xF1 0xF3 ∷ tail ∷ tail ∷ tail ∷ [])
    ∷ (within 0xF4 0xF4 ∷ within 0x80 0x8F ∷ tail ∷ tail ∷ [])
    ∷ []

-- the list begins with bytes that the row allows
unfoldable pub fits : List (ℕ → Bool) → List ℕ → Bool
fits [] s = true
fits (p ∷ row) [] = false
fits (p ∷ row) (b ∷ s) = p b && fits row s

-- UTF8-char: how many bytes the character at the list's front has, by the first row that it fits; 0 for none
unfoldable pub char_size : List (List (ℕ → Bool)) → List ℕ → ℕ
char_size [] s = 0
char_size (row ∷ more) s = cond (fits row s) (length row) (char_size more s)

-- UTF8-octets, after k more bytes of the character begun: one character after the other, to the end. A character that a row fits is all
-- there, so the end is never met inside one
unfoldable pub octets : ℕ → List ℕ → Bool
octets k [] = true
octets (suc k) (b ∷ s) = octets k s
octets zero (b ∷ s) = elim (char_size rows (b ∷ s)) [ zero ↦ false | suc k ↦ octets k s ]

-- the whole list is UTF-8
unfoldable pub well_formed : List ℕ → Bool
well_formed s = octets 0 s
