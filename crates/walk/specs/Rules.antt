-- A reader as a table of fifteen entries, one for each kind up to 14, in a profile, and one rule for unknown kinds, which are not asked of the table: 01,
-- "From records to a request" and "Choosing and replying", each in record order. The entry at 11, which is an unknown kind, says nothing; nor does one at a kind that the profile does not know.
use Rattle.std.specs.Prelude.{ℕ, List, Bool, cond, ◌||◌, length, get_or, ltb, eqb}
use Rattle.wire.specs.Bytes.{number_at}
use Rattle.nts.specs.Refusal.{nothing, code}
use Rattle.layout.specs.Profile.{asks_of, is_final, shape_in, knows, allows}
use Rattle.layout.specs.declared.Profile.{Profile}
use Rattle.walk.specs.Walk.{Act, ends, passes, notes, refuses, Reader}
use Rattle.walk.specs.Table.{meaning}

-- ---- what an entry can be

-- the record ends the message
abbrev pub ending : ℕ
ending = 0

-- it is passed over
abbrev pub passed : ℕ
passed = 1

-- it is noted
abbrev pub noted : ℕ
noted = 2

-- it is noted, and a second one is 4
abbrev pub once : ℕ
once = 3

-- the same, and a list of more than one entry, which has two bytes, is 4
abbrev pub single : ℕ
single = 4

-- it is told with its code: an error as 11, a warning as 12; another kind is 4
abbrev pub told : ℕ
told = 5

-- it is refused with 4, as by any other number
abbrev pub refused : ℕ
refused = 6

-- ---- the reader that a table is

unfoldable pub tell_act : ℕ → List ℕ → Act
tell_act k b = cond (eqb k 2) (refuses 11 (code (number_at b 0))) (cond (eqb k 3) (refuses 12 (code (number_at b 0))) (refuses 4 nothing))

-- by entry, kind and body
unfoldable pub rule_act : ℕ → ℕ → List ℕ → Act
rule_act r k b =
    cond (eqb r ending) ends
    (cond (eqb r passed) passes
    (cond (eqb r noted || eqb r once) notes
    (cond (eqb r single) (cond (ltb 2 (length b)) (refuses 4 nothing) notes)
    (cond (eqb r told) (tell_act k b) (refuses 4 nothing)))))

-- the entries, and the profile in which they are taken
pub record Rules : Type 0 where
  pub profile : Profile
  pub entries : List ℕ

-- the entry of a kind
abbrev pub entry_of : Rules → ℕ → ℕ
entry_of rules k = get_or rules.entries k 0

unfoldable pub act_at : Rules → ℕ → Bool → List ℕ → Act
act_at rules k critical b =
    cond (allows (asks_of rules.profile k) critical b)
    (meaning (knows rules.profile k) critical (rule_act (entry_of rules k) k b))
    (refuses 18 nothing)

unfoldable pub once_at : Rules → ℕ → Bool
once_at rules k = eqb (entry_of rules k) once || eqb (entry_of rules k) single

abbrev pub reader_of : Rules → Reader
reader_of rules = record { shape = shape_in rules.profile; act = act_at rules; once = once_at rules; final = is_final rules.profile }

-- whether a record with this entry is noted where the walk goes on
unfoldable pub is_noted : ℕ → Bool
is_noted r = eqb r noted || eqb r once || eqb r single
