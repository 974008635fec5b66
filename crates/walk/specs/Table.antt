-- Readers as 01 gives them: a table over the known kinds, and one rule for the unknown ones; in a profile, 02, order 5. "From records to a request" and
-- "Choosing and replying": a message is read through its first end record; unknown is 3 with its bit set, otherwise passed over. Which kinds are known, and what is
-- asked of a record before its meaning, is the profile's: "18, for a record after its 1 or 2 and before its meaning".
use Rattle.std.specs.Prelude.{ℕ, List, Bool, cond, eqb}
use Rattle.nts.specs.Refusal.{nothing}
use Rattle.layout.specs.Profile.{asks_of, is_final, shape_in, knows, allows}
use Rattle.layout.specs.declared.Profile.{Profile}
use Rattle.walk.specs.Walk.{Act, ends, passes, refuses, Reader}

-- a record's meaning: known says whether its kind is, and x what is done with it then
abbrev pub meaning : Bool → Bool → Act → Act
meaning known critical x = cond known x (cond critical (refuses 3 nothing) passes)

-- what a reader does that has the table f for what follows: kind 0 ends, any other known kind as its table says by kind and body
unfoldable pub act_by : Profile → (ℕ → List ℕ → Act) → ℕ → Bool → List ℕ → Act
act_by P f k critical body =
    cond (allows (asks_of P k) critical body)
    (meaning (knows P k) critical (cond (eqb k 0) ends (f k body)))
    (refuses 18 nothing)

-- `once` says of which kinds a second record is 4
abbrev pub table_reader : (ℕ → List ℕ → Act) → (ℕ → Bool) → Profile → Reader
table_reader f once P = record { shape = shape_in P; act = act_by P f; once = once; final = is_final P }
