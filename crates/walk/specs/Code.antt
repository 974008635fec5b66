-- What the code makes of one record, by its table's entry; proofs/ shows that it is the walk's own step.
use Rattle.std.specs.Prelude.{ℕ, ◌+◌, ◌*◌, ◌<◌, ◌≤◌, ◌≡◌, List, Bool, true, false, cond, ◌&&◌, get_or, set, ltb, eqb}
use Rattle.wire.specs.Bytes.{number_at, part_at}
use Rattle.nts.specs.declared.NtsError.{NtsError}
use Rattle.nts.specs.declared.Refusal.{Refusal}
use Rattle.layout.specs.Profile.{asks_of, is_final, shape_in, allows}
use Rattle.layout.specs.declared.Profile.{Profile}
use Rattle.record.specs.Record.{whole, look_at}
use Rattle.record.specs.Told.{told_looked}
use Rattle.record.specs.declared.Looked.{Looked}
use Rattle.record.specs.declared.Looked.TheVariants as looked
use Rattle.walk.specs.Rules.{ending, passed, noted, once, single, told, Rules, entry_of, is_noted}
use Rattle.walk.specs.Shown.{slot_of}
use Rattle.walk.specs.Found.{entry_in}
use Rattle.walk.specs.declared.Seen.{Seen}
use Rattle.walk.specs.declared.Verdict.{Verdict}
use Rattle.walk.specs.declared.Verdict.TheVariants.{On, End, Stop}
use Rattle.walk.specs.declared.View.{View}
use Rattle.walk.specs.declared.View.TheVariants as view
use Rattle.walk.specs.declared.Stepped.{Stepped}
use Rattle.walk.specs.declared.Walked.{Walked}
use Rattle.walk.specs.declared.Stop.TheVariants as stop

-- ---- what is asked of a record

-- what a record is refused with that is told with its code
unfoldable pub error_of : ℕ → ℕ → NtsError
error_of k n = cond (eqb k 2) (NtsError.Error (record { 0 = n })) (cond (eqb k 3) (NtsError.UnknownWarning (record { 0 = n })) NtsError.Invalid)

-- its place in the table, its critical bit, what it tells, and whether the profile allows it
pub record Asked : Type 0 where
  pub slot : ℕ
  pub critical : Bool
  pub told : NtsError
  pub allowed : Bool

-- of a record of the message s whose body begins at `start` and has n bytes
abbrev pub asked : Profile → List ℕ → ℕ → Bool → ℕ → ℕ → Asked
asked P s slot critical start n =
    record { slot = slot; critical = critical; told = error_of slot (number_at s start); allowed = allows (asks_of P slot) critical (part_at s start n) }

-- ---- the verdict on it

unfoldable pub at_most : ℕ → ℕ → Verdict
at_most n limit = cond (ltb limit n) (Stop NtsError.Invalid) On

-- a known kind: its entry, how many of it were met before, the record's size, and what it tells
unfoldable pub ruled_of : ℕ → ℕ → ℕ → NtsError → Verdict
ruled_of r before n error =
    cond (eqb r ending) End
    (cond (eqb r passed) On
    (cond (eqb r noted) On
    (cond (eqb r once) (at_most before 0)
    (cond (eqb r single) (cond (eqb before 0) (at_most n 2) (Stop NtsError.Invalid))
    (cond (eqb r told) (Stop error) (Stop NtsError.Invalid))))))

-- an unknown kind
unfoldable pub unknown_of : ℕ → Bool → Verdict
unknown_of slot critical = cond (eqb slot 11) (cond critical (Stop NtsError.UnrecognizedCriticalRecord) On) On

-- what it means
unfoldable pub meant_of : ℕ → ℕ → Bool → NtsError → ℕ → ℕ → Verdict
meant_of r slot critical error before n =
    cond (eqb slot 11)
    (cond critical (Stop NtsError.UnrecognizedCriticalRecord) On)
    (ruled_of r before n error)

-- .. where the profile allows it
unfoldable pub verdict_of : ℕ → Asked → ℕ → ℕ → Verdict
verdict_of r x before n = cond x.allowed (meant_of r x.slot x.critical x.told before n) (Stop NtsError.NotAllowed)

-- ---- one record more, in the cells

abbrev pub put_in : List ℕ → ℕ → Seen → List ℕ
put_in c j v = set (set (set c (j * 3) v.count) (j * 3 + 1) v.start) (j * 3 + 2) v.len

abbrev pub more_in : List ℕ → ℕ → ℕ → ℕ → List ℕ
more_in c j start n = cond (eqb (get_or c (j * 3) 0) 0) (put_in c j (record { count = 1; start = start; len = n })) (set c (j * 3) (get_or c (j * 3) 0 + 1))

pub record Met (r : ℕ) (x : Asked) (j start n : ℕ) (c : List ℕ) (v : Verdict) (c' : List ℕ) : Type 0 where
  pub says : v ≡ verdict_of r x (entry_in c j).count n
  pub left : c' ≡ more_in c j start n

-- the body that the cells tell of a kind which the table's entries note lies inside a message of n bytes
unfoldable pub Fits : List ℕ → ℕ → List ℕ → Type 0
Fits entries n c = (k : ℕ) → k < 15 → eqb k 11 ≡ false → is_noted (get_or entries k 0) ≡ true → (entry_in c k).start + (entry_in c k).len ≤ n

-- ---- what is seen of a record

-- it reads: its kind, of the place `slot` in the table, its bit and its size; and whether the profile allows it
pub record Sees (P : Profile) (s : List ℕ) (at slot : ℕ) (bit : Bool) (n : ℕ) (ok : Bool) : Type 0 where
  pub kind : ℕ
  pub looks : whole kind bit n ≡ look_at (shape_in P) s at
  pub stands : slot ≡ slot_of (shape_in P) kind
  pub allowed : (asked P s slot bit (at + 4) n).allowed ≡ ok

-- it does not read
pub record Breaks (P : Profile) (s : List ℕ) (at : ℕ) (v : Verdict) : Type 0 where
  pub refusal : Refusal
  pub looks : told_looked (looked.Refused refusal) ≡ look_at (shape_in P) s at
  pub says : v ≡ Stop refusal.error

abbrev pub Views : Profile → List ℕ → ℕ → View → Type 0
Views P s at (view.Whole slot bit n) = Sees P s at slot bit n true
Views P s at (view.NotAllowed slot bit n) = Sees P s at slot bit n false
Views P s at (view.Unread v) = Breaks P s at v

-- ---- one step

-- no kind was met more often than there are bytes before the place
unfoldable pub Few : List ℕ → ℕ → Type 0
Few c at = (j : ℕ) → j < 15 → (entry_in c j).count ≤ at

-- what a look alone says: a record that reads lets the walk go on, one that does not stops it
abbrev pub looked_of : Looked → Verdict
looked_of (looked.Whole x) = On
looked_of (looked.Refused r) = Stop r.error

-- where a kind stands in the table
abbrev pub slot_in : Rules → ℕ → ℕ
slot_in rules k = slot_of (shape_in rules.profile) k

-- the verdict, the place after the record, and the cells, by what a look at it says
abbrev pub verdict_in : Rules → List ℕ → ℕ → List ℕ → Looked → Verdict
verdict_in rules s at c (looked.Whole x) =
    verdict_of (entry_of rules (slot_in rules x.kind)) (asked rules.profile s (slot_in rules x.kind) x.critical (at + 4) x.size) (entry_in c (slot_in rules x.kind)).count x.size
verdict_in rules s at c (looked.Refused r) = Stop r.error

abbrev pub next_in : ℕ → Looked → ℕ
next_in at (looked.Whole x) = at + 4 + x.size
next_in at (looked.Refused r) = at

abbrev pub cells_in : Rules → ℕ → List ℕ → Looked → List ℕ
cells_in rules at c (looked.Whole x) = more_in c (slot_in rules x.kind) (at + 4) x.size
cells_in rules at c (looked.Refused r) = c

pub record Steps (rules : Rules) (s : List ℕ) (at : ℕ) (c : List ℕ) (r : Stepped) (c' : List ℕ) : Type 0 where
  pub look : Looked
  pub looks : told_looked look ≡ look_at (shape_in rules.profile) s at
  pub says : r.verdict ≡ verdict_in rules s at c look
  pub after : r.next ≡ next_in at look
  pub left : c' ≡ cells_in rules at c look

-- ---- after the end record

-- a walk under the limit n that came to the end record at a place of a message of so many bytes; `next` is the place after it
unfoldable pub ended_in : Profile → ℕ → ℕ → ℕ → ℕ → Walked
ended_in P n at next long =
    cond (is_final P && ltb next long)
    (record { limit = n; place = next; stop = stop.Refused NtsError.NotAllowed })
    (record { limit = n; place = at; stop = stop.End })
