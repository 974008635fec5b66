-- The decision after the end record, as a function of the bodies found, by kind; and a whole reader: 01, "From records to a request", "After
-- the end", and "Choosing and replying". It is generic over what shows a body, so that it cannot look at a place.
use Rattle.std.specs.Prelude.{ℕ, List, [], ◌∷◌, Bool, true, false, cond, take, drop, eqb}
use Rattle.nts.specs.Refusal.{Beside, Refused}
use Rattle.layout.specs.declared.Part.{Part}
use Rattle.layout.specs.declared.Profile.{Profile}
use Rattle.walk.specs.Walk.{Reader, Sighting, Outcome, stopped, ended, walked}

-- refused with a number, or accepted with contents of the form Q over the bodies
pub data Verdict (Q : Type 0 → Type 0) (A : Type 0) : Type 0 where
  no : ℕ → Beside → Verdict Q A
  yes : Q A → Verdict Q A

-- what is lent to a read beside its message: for how many records the table has room, and, of a reply, which protocols and which algorithms were offered
-- (02, order 3)
pub record Terms : Type 0 where
  pub room : ℕ
  pub protocols : ℕ → Bool
  pub algorithms : ℕ → Bool

-- every number is let in
abbrev pub any : ℕ → Bool
any n = true

-- nothing is asked of a number
abbrev pub room_for : ℕ → Terms
room_for room = record { room = room; protocols = any; algorithms = any }

-- what a read is asked under: the profile in which it is read, after how many bytes the message is cut, and what is lent beside it
pub record Under : Type 0 where
  pub profile : Profile
  pub limit : ℕ
  pub terms : Terms

pub record Judge : Type 1 where
  -- the form of an accepted answer, over what stands for a body
  pub Q : Type 0 → Type 0
  pub map_q : {A B : Type 0} → (A → B) → Q A → Q B
  -- under what is asked, from what shows a body's bytes, and from the bodies found of each kind, in record order
  pub decide : Under → {A : Type 0} → (A → List ℕ) → (ℕ → List A) → Verdict Q A

-- what was noted of a kind, in record order
abbrev pub of_kind : ℕ → List Sighting → List Sighting
of_kind k [] = []
of_kind k (x ∷ st) = cond (eqb x.of k) (x ∷ of_kind k st) (of_kind k st)

-- a record of a kind is there
abbrev pub some : {A : Type 0} → List A → Bool
some [] = false
some (x ∷ l) = true

-- it is missing: z; otherwise by the first
abbrev pub with_first : {A B : Type 0} → List A → B → (A → B) → B
with_first [] z f = z
with_first (x ∷ l) z f = f x

-- the body of a noted record
abbrev pub body_in : List ℕ → Sighting → List ℕ
body_in m x = take x.len (drop x.start m)

-- .. as a part of the message
abbrev pub part_of : Sighting → Part
part_of x = record { start = x.start; len = x.len }

pub data Answer (Q : Type 0 → Type 0) : Type 0 where
  refused : Refused → Answer Q
  accepted : Q Sighting → Answer Q

-- a refusal decided after the end record bears the end record's place
abbrev pub placed : {Q : Type 0 → Type 0} → ℕ → Verdict Q Sighting → Answer Q
placed at (no n b) = refused (record { number = n; beside = b; place = at })
placed at (yes q) = accepted q

unfoldable pub finish : (D : Judge) → Under → List ℕ → Outcome → Answer D.Q
finish D u m (stopped r) = refused r
finish D u m (ended at next st) = placed at (D.decide u (body_in m) (λ k. of_kind k st))

-- a message m read by a reader, as if it were cut after so many bytes
unfoldable pub read_as : Reader → (D : Judge) → List ℕ → Under → Answer D.Q
read_as R D m u = finish D u m (walked R (take u.limit m))

-- .. by the reader that R is in the profile under which it is asked
abbrev pub read_by : (Profile → Reader) → (D : Judge) → List ℕ → Under → Answer D.Q
read_by R D m u = read_as (R u.profile) D m u
