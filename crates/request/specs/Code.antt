-- What the code asks of the cells and of an answer.
use Rattle.std.specs.Prelude.{ℕ, List, Bool, false, cond, eqb}
use Rattle.wire.specs.Bytes.{number_at}
use Rattle.walk.specs.Walk.{Sighting}
use Rattle.walk.specs.Judge.{Verdict, some, part_of}
use Rattle.walk.specs.Found.{first_in, told_in}
use Rattle.walk.specs.declared.Seen.{Seen}
use Rattle.request.specs.Request.{Form, fixed_by, Told, key_exchange_is, fixed_key_is, support_is, refused_with, first_half, second_half}

-- a list that was there, with one entry
unfoldable pub is_one : Seen → Bool
is_one x = cond (eqb x.count 0) false (eqb x.len 2)

-- a fixed-key request over the first record of each kind that the cells tell ..
abbrev pub fixed_in : (Sighting → List ℕ) → List ℕ → Verdict Form Sighting
fixed_in val c = fixed_by val (first_in c 14) (first_in c 12) (first_in c 4) (first_in c 1) (some (told_in c 8))

-- .. and what is told of it, with the algorithm's number
abbrev pub keys_are : List ℕ → List ℕ → ℕ → Told
keys_are m c a = fixed_key_is (part_of (first_in c 14)) (first_half (first_in c 12)) (second_half (first_in c 12)) a (number_at m (first_in c 1).start) (some (told_in c 8))

-- how many names an answer puts into the table
abbrev pub denied_in : Told → ℕ
denied_in (key_exchange_is p a d) = d
denied_in (fixed_key_is u c s a p k) = 0
denied_in (support_is u p a k) = 0
denied_in (refused_with r) = 0
