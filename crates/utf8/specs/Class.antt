-- The table's own definition (02, order 6): the classes of bytes, as the Unicode standard's table of well-formed byte sequences (its
-- table 3-7) groups the lead bytes, and which of them 01's lead-byte rule ("The record", last paragraph) gives each byte.
use Rattle.std.specs.Prelude.{ℕ, ◌-◌, ◌<◌, ◌≤◌, ◌≡◌, List, Bool, true, false, cond, ◌||◌, length, get_or, eqb, leb}
use Rattle.std.specs.Int.Count.{count_leading_zeros}
use Rattle.utf8.specs.declared.Class.{Class}
use Rattle.utf8.specs.declared.Class.TheVariants.{No, As, L2, L3, L4, E0, Ed, F0, F4}
use Rattle.utf8.specs.Utf8.{within, tail}
use Rattle.utf8.specs.Lead.{lead_size, second}

-- a byte's count of leading one bits: the leading zeros of its complement
unfoldable pub ones : ℕ → ℕ
ones a = count_leading_zeros 8 (0xFF - a)

-- the class by the count, where nothing is narrowed: the count gives the sequence length, none for ASCII, two to four otherwise
unfoldable pub by_ones : ℕ → Class
by_ones n = cond (eqb n 0) As (cond (eqb n 2) L2 (cond (eqb n 3) L3 (cond (eqb n 4) L4 No)))

-- the class of a byte: 80 to BF, C0, C1 and F5 to FF lead nothing, the first continuation byte is narrowed after E0, ED, F0 and F4, and all
-- others go by their count
unfoldable pub class_of : ℕ → Class
class_of a =
    cond (within 0x80 0xBF a || eqb a 0xC0 || eqb a 0xC1 || within 0xF5 0xFF a) No
    (cond (eqb a 0xE0) E0
    (cond (eqb a 0xED) Ed
    (cond (eqb a 0xF0) F0
    (cond (eqb a 0xF4) F4
    (by_ones (ones a))))))

-- a table with the class of each of the 256 bytes at its place
pub record Table (t : List Class) : Type 0 where
  pub long : length t ≡ 256
  pub each : (a : ℕ) → a < 256 → get_or t a No ≡ class_of a

-- What a class says: how many bytes its sequences have, 0 where there are none, which byte may be the second, and whether it is that of ASCII.
unfoldable pub class_size : Class → ℕ
class_size No = 0
class_size As = 1
class_size L2 = 2
class_size L3 = 3
class_size L4 = 4
class_size E0 = 3
class_size Ed = 3
class_size F0 = 4
class_size F4 = 4

unfoldable pub class_second : Class → ℕ → Bool
class_second No b = tail b
class_second As b = tail b
class_second L2 b = tail b
class_second L3 b = tail b
class_second L4 b = tail b
class_second E0 b = within 0xA0 0xBF b
class_second Ed b = within 0x80 0x9F b
class_second F0 b = within 0x90 0xBF b
class_second F4 b = within 0x80 0x8F b

unfoldable pub class_ascii : Class → Bool
class_ascii No = false
class_ascii As = true
class_ascii L2 = false
class_ascii L3 = false
class_ascii L4 = false
class_ascii E0 = false
class_ascii Ed = false
class_ascii F0 = false
class_ascii F4 = false

-- What 01's rule says of a byte, said by a class: the sequence length; the count of leading one bits, which is that length where it is two to
-- four, and none for ASCII; whether it is ASCII; and which byte may follow.
pub record Leads (a : ℕ) (c : Class) : Type 0 where
  pub size : class_size c ≡ lead_size a
  pub counted : 2 ≤ class_size c → class_size c ≡ ones a
  pub none : class_size c ≡ 1 → ones a ≡ 0
  pub ascii : class_ascii c ≡ leb a 0x7F
  pub follows : (b : ℕ) → class_second c b ≡ second a b
