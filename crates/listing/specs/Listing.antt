-- The listing of a message: 01, "The listing program", to the letter.
use Rattle.std.specs.Prelude.{ℕ, zero, suc, ◌+◌, ◌/◌, ◌%◌, List, [], ◌∷◌, ◌++◌, Bool, cond, take, ltb}
use Rattle.nts.specs.Refusal.{Beside, nothing, code, protocol, algorithm}
use Rattle.layout.specs.declared.Profile.TheVariants.{Usual}
use Rattle.walk.specs.Shown.{Mark, shown}
use Rattle.request.specs.Request.{reader, request, Told, key_exchange_is, fixed_key_is, support_is, refused_with, told_by}

-- ---- text, as bytes

abbrev pub space : ℕ
space = 32

abbrev pub newline : ℕ
newline = 10

-- a number in decimal, with no more than f digits; every number of 64 bits has at most 20
unfoldable pub digits_by : ℕ → ℕ → List ℕ
digits_by zero n = []
digits_by (suc f) n = cond (ltb n 10) ((48 + n) ∷ []) (digits_by f (n / 10) ++ ((48 + n % 10) ∷ []))

unfoldable pub digits : ℕ → List ℕ
digits n = digits_by 20 n

-- "place type bit size"
abbrev pub heading : List ℕ
heading = 112 ∷ 108 ∷ 97 ∷ 99 ∷ 101 ∷ 32 ∷ 116 ∷ 121 ∷ 112 ∷ 101 ∷ 32 ∷ 98 ∷ 105 ∷ 116 ∷ 32 ∷ 115 ∷ 105 ∷ 122 ∷ 101 ∷ 10 ∷ []

-- "c" for a set bit, "-" for a clear one
abbrev pub mark : Bool → ℕ
mark bit = cond bit 99 45

-- ---- a line for each record that reads whole, up to and with the end record or the one refused

-- of a place, a kind, a bit and a size
unfoldable pub record_line : ℕ → ℕ → Bool → ℕ → List ℕ
record_line at k bit n = digits at ++ (space ∷ (digits k ++ (space ∷ mark bit ∷ space ∷ (digits n ++ (newline ∷ [])))))

abbrev pub line_of : Mark → List ℕ
line_of x = record_line x.place x.kind x.critical x.size

abbrev pub lines_of : List Mark → List ℕ
lines_of [] = []
lines_of (x ∷ l) = line_of x ++ lines_of l

-- ---- the last line

-- "request key-exchange protocols ", " algorithms ", " denied ", "request fixed-key", "request support", "refused ", " at ", " code "
abbrev pub protocols_text : List ℕ
protocols_text = 114 ∷ 101 ∷ 113 ∷ 117 ∷ 101 ∷ 115 ∷ 116 ∷ 32 ∷ 107 ∷ 101 ∷ 121 ∷ 45 ∷ 101 ∷ 120 ∷ 99 ∷ 104 ∷ 97 ∷ 110 ∷ 103 ∷ 101 ∷ 32 ∷ 112 ∷ 114 ∷ 111 ∷ 116 ∷ 111 ∷ 99 ∷ 111 ∷ 108 ∷ 115 ∷ 32 ∷ []

abbrev pub algorithms_text : List ℕ
algorithms_text = 32 ∷ 97 ∷ 108 ∷ 103 ∷ 111 ∷ 114 ∷ 105 ∷ 116 ∷ 104 ∷ 109 ∷ 115 ∷ 32 ∷ []

abbrev pub denied_text : List ℕ
denied_text = 32 ∷ 100 ∷ 101 ∷ 110 ∷ 105 ∷ 101 ∷ 100 ∷ 32 ∷ []

abbrev pub fixed_text : List ℕ
fixed_text = 114 ∷ 101 ∷ 113 ∷ 117 ∷ 101 ∷ 115 ∷ 116 ∷ 32 ∷ 102 ∷ 105 ∷ 120 ∷ 101 ∷ 100 ∷ 45 ∷ 107 ∷ 101 ∷ 121 ∷ []

abbrev pub support_text : List ℕ
support_text = 114 ∷ 101 ∷ 113 ∷ 117 ∷ 101 ∷ 115 ∷ 116 ∷ 32 ∷ 115 ∷ 117 ∷ 112 ∷ 112 ∷ 111 ∷ 114 ∷ 116 ∷ []

abbrev pub refused_text : List ℕ
refused_text = 114 ∷ 101 ∷ 102 ∷ 117 ∷ 115 ∷ 101 ∷ 100 ∷ 32 ∷ []

abbrev pub at_text : List ℕ
at_text = 32 ∷ 97 ∷ 116 ∷ 32 ∷ []

abbrev pub code_text : List ℕ
code_text = 32 ∷ 99 ∷ 111 ∷ 100 ∷ 101 ∷ 32 ∷ []

abbrev pub beside_text : Beside → List ℕ
beside_text nothing = []
beside_text (code n) = code_text ++ digits n
beside_text (protocol n) = code_text ++ digits n
beside_text (algorithm n) = code_text ++ digits n

-- a list's entries are two bytes each
abbrev pub answer_text : Told → List ℕ
answer_text (key_exchange_is p a d) = protocols_text ++ (digits (p.len / 2) ++ (algorithms_text ++ (digits (a.len / 2) ++ (denied_text ++ digits d))))
answer_text (fixed_key_is u c s a p k) = fixed_text
answer_text (support_is u p a k) = support_text
answer_text (refused_with r) = refused_text ++ (digits r.number ++ (at_text ++ (digits r.place ++ beside_text r.beside)))

-- ---- the whole listing

-- of a message m, of which the first n bytes are read, and what the request reader answers for it, in the usual profile, with room for so many names; every line ends
-- in a newline, the last too
unfoldable pub listing : List ℕ → ℕ → ℕ → List ℕ
listing m n room = heading ++ (lines_of (shown (reader Usual) [] 0 0 (take n m)) ++ (answer_text (told_by m (request Usual m n room)) ++ (newline ∷ [])))
