-- A read that is fed as the line delivers: 02, order 1, "Feed it as the line delivers", order 3 for what was offered, and order 5 for the profile. Sentences in quotes are order 1's where no other is named.
use Rattle.std.specs.Prelude.{ℕ, zero, suc, ◌+◌, ◌≡◌, List, [], ◌∷◌, ◌++◌, Bool, true, false, cond, not, ◌&&◌, ◌||◌, length, take, drop, ltb, leb, eqb}
use Rattle.wire.specs.Over.{over}
use Rattle.nts.specs.Refusal.{nothing, Refused, told_refusal}
use Rattle.record.specs.Record.{size}
use Rattle.walk.specs.Walk.{Reader}
use Rattle.walk.specs.Judge as judge
use Rattle.walk.specs.Judge.{Terms, room_for, Judge, read_by}
use Rattle.layout.specs.declared.Profile.{Profile}
use Rattle.walk.specs.Met.{halts, on, passing, ends}
use Rattle.pieces.specs.declared.Connection.{Connection}
use Rattle.pieces.specs.declared.State.{State}
use Rattle.pieces.specs.declared.State.TheVariants as state

-- ---- the connection record

-- whether the read has come to an answer
pub data Standing : Type 0 where
  pending : Standing
  accepted : Standing
  refused : Refused → Standing

pub record Line : Type 0 where
  -- how the message is read
  pub profile : Profile
  -- after how many bytes the message is cut
  pub limit : ℕ
  -- how many bytes of it are gathered, in the front of the buffer
  pub gathered : ℕ
  -- where the record that is being gathered begins
  pub begins : ℕ
  -- which kinds were met before it, a bit each
  pub met : ℕ
  pub standing : Standing

-- "start a read"
abbrev pub started : Profile → ℕ → Line
started P n = record { profile = P; limit = n; gathered = 0; begins = 0; met = 0; standing = pending }

-- 9: "a connection record that counts more bytes than the buffer or the limit"
unfoldable pub broken : Line → List ℕ → Bool
broken c b = ltb (length b) c.gathered || ltb c.limit c.gathered

-- ---- the bytes of a read

-- what a call brings: a piece, which may be empty, and whether the line closed behind it
pub record Brought : Type 0 where
  pub piece : List ℕ
  pub closed : Bool

-- "the pieces joined": those gathered before, and this one
unfoldable pub joined : Line → List ℕ → Brought → List ℕ
joined c b h = take c.gathered b ++ h.piece

-- those inside the limit
unfoldable pub inside : Line → List ℕ → Brought → List ℕ
inside c b h = take c.limit (joined c b h)

-- .. for which the buffer has room
unfoldable pub fitting : Line → List ℕ → Brought → List ℕ
fitting c b h = take (length b) (inside c b h)

-- there are more of them
unfoldable pub full : Line → List ℕ → Brought → Bool
full c b h = ltb (length b) (length (inside c b h))

-- ---- "a record is judged when it stands whole, or when the limit or the close cuts it"

-- all bytes of the record at the front of s are there
unfoldable pub whole : List ℕ → Bool
whole s = leb 4 (length s) && leb (4 + size s) (length s)

-- the record that begins at a place, and the kinds met before it: it is not whole; or it decides, and so many bytes reach through it
pub data Going : Type 0 where
  waits : ℕ → ℕ → Going
  decides : ℕ → ℕ → ℕ → Going

-- the whole records of s, which begins at `at`, after k more bytes of the record begun
unfoldable pub going : Reader → ℕ → ℕ → ℕ → List ℕ → Going
going R met at k [] = waits at met
going R met at (suc k) (b ∷ s) = going R met at k s
going R met at zero (b ∷ s) =
    cond (whole (b ∷ s))
    (elim (passing R met (b ∷ s)) [ halts ↦ decides at met (at + (4 + size (b ∷ s))) | on met' ↦ going R met' (at + (4 + size (b ∷ s))) (3 + size (b ∷ s)) s ])
    (waits at met)

-- ---- what a piece leads to, where there is no answer yet

-- the read waits; a byte that it needs has no room; a byte follows the end record, where none may; or it is decided
pub data How : Type 0 where
  waiting no_room followed decided : How

-- where no whole record decides: a byte more has no room; "the limit or the close cuts" the record that stands last; or the read waits
unfoldable pub otherwise : Line → List ℕ → Brought → How
otherwise c b h = cond (full c b h) no_room (cond (eqb (length (inside c b h)) c.limit || h.closed) decided waiting)

-- how many bytes are gathered then, where the last of their records begins, and which kinds were met before it
pub record Came : Type 0 where
  pub gathered : ℕ
  pub begins : ℕ
  pub met : ℕ
  pub how : How

-- of n bytes: a record that is not whole is gathered as far as it goes
abbrev pub came_to : How → ℕ → Going → Came
came_to how n (waits at met) = record { gathered = n; begins = at; met = met; how = how }
came_to how n (decides at met through) = record { gathered = through; begins = at; met = met; how = decided }

-- a connection made by hand may have any numbers. A record that begins past the bytes gathered counts as beginning behind them; one that begins inside another is read from there
-- on; kinds that were not met count as met; and where a whole record of the bytes gathered decides already, those behind it are gathered no longer
abbrev pub begins_at : Line → ℕ
begins_at c = cond (ltb c.gathered c.begins) c.gathered c.begins

-- by the records alone
unfoldable pub gathers : Reader → Line → List ℕ → Brought → Came
gathers R c b h = came_to (otherwise c b h) (length (fitting c b h)) (going R c.met (begins_at c) 0 (drop (begins_at c) (fitting c b h)))

-- 02, order 5: "the strict one answers after its end record only when a byte inside the limit follows, or the limit or the close comes": through the end record there are `to` bytes,
-- of so many that have come inside the limit n
unfoldable pub how_after : ℕ → ℕ → Bool → ℕ → How
how_after n long closed to = cond (ltb to long) followed (cond (eqb to n || closed) decided waiting)

abbrev pub is_decided : How → Bool
is_decided waiting = false
is_decided no_room = false
is_decided followed = false
is_decided decided = true

-- x, or that, where the record that decided ends the message and nothing may follow; s are the bytes through it
unfoldable pub after_end : Reader → ℕ → ℕ → Bool → List ℕ → Came → Came
after_end R n long closed s x =
    cond (R.final && is_decided x.how && ends R (drop x.begins s))
    (record { gathered = x.gathered; begins = x.begins; met = x.met; how = how_after n long closed x.gathered })
    x

unfoldable pub comes : Reader → Line → List ℕ → Brought → Came
comes R c b h =
    after_end R c.limit (length (inside c b h)) h.closed (take (gathers R c b h).gathered (joined c b h)) (gathers R c b h)

-- ---- the answer

-- a sort of read: its table of kinds in each profile, its decision after the end, what its answer tells of the bytes read, and what it leaves of the lent table
pub record Read : Type 1 where
  pub reader : Profile → Reader
  pub judging : Judge
  pub Told : Type 0
  pub tells : List ℕ → judge.Answer judging.Q → Told
  pub fills : judge.Answer judging.Q → List ℕ → List ℕ

-- none yet, or that of a whole message
pub data Fed (Q : Type 0 → Type 0) : Type 0 where
  none : Fed Q
  answers : judge.Answer Q → Fed Q

abbrev pub refused_at : {Q : Type 0 → Type 0} → ℕ → ℕ → Fed Q
refused_at n place = answers (judge.refused (record { number = n; beside = nothing; place = place }))

-- "the answer equals the whole-message reader's on the pieces joined"; 16 at the byte that has no room; order 5: 18 at the byte that follows the end record
abbrev pub answer_after : (X : Read) → Profile → ℕ → How → List ℕ → Terms → Fed X.judging.Q
answer_after X P n waiting s x = none
answer_after X P n no_room s x = refused_at 16 (length s)
answer_after X P n followed s x = refused_at 18 (length s)
answer_after X P n decided s x = answers (read_by X.reader X.judging s (record { profile = P; limit = n; terms = x }))

-- without an answer before, under what is lent to the call that gives it: the table's room, and what was offered
unfoldable pub first_answer : (X : Read) → Line → List ℕ → Brought → Terms → Fed X.judging.Q
first_answer X c b h x =
    answer_after X c.profile c.limit (comes (X.reader c.profile) c b h).how (take (comes (X.reader c.profile) c b h).gathered (joined c b h)) x

-- "once an answer exists, later calls .. give it again": an accepted one from the bytes gathered, whatever room the table has that is lent now, since no
-- message has more records than bytes, and whatever lists are lent now: those of the call that accepted it let in what it names. Where an accepted state was put by hand, no list is asked
unfoldable pub again : (X : Read) → Line → List ℕ → Fed X.judging.Q
again X c b = answers (read_by X.reader X.judging (take c.gathered b) (record { profile = c.profile; limit = c.limit; terms = room_for c.gathered }))

abbrev pub by_standing : {A : Type 0} → Standing → A → A → (Refused → A) → A
by_standing pending x y f = x
by_standing accepted x y f = y
by_standing (refused r) x y f = f r

-- 9 is "first"
unfoldable pub answer_of : (X : Read) → Line → List ℕ → Brought → Terms → Fed X.judging.Q
answer_of X c b h x = cond (broken c b) (refused_at 9 0) (by_standing c.standing (first_answer X c b h x) (again X c b) (λ r. answers (judge.refused r)))

-- ---- what a call leaves: everything as it was, if it is 9 or there was an answer

unfoldable pub is_pending : Line → List ℕ → Bool
is_pending c b = not (broken c b) && by_standing c.standing true false (λ r. false)

abbrev pub standing_by : {Q : Type 0 → Type 0} → Fed Q → Standing
standing_by none = pending
standing_by (answers (judge.refused r)) = refused r
standing_by (answers (judge.accepted q)) = accepted

unfoldable pub line_after : (X : Read) → Line → List ℕ → Brought → Terms → Line
line_after X c b h x =
    cond (is_pending c b)
    (record {
      profile = c.profile;
      limit = c.limit;
      gathered = (comes (X.reader c.profile) c b h).gathered;
      begins = (comes (X.reader c.profile) c b h).begins;
      met = (comes (X.reader c.profile) c b h).met;
      standing = standing_by (first_answer X c b h x);
    })
    c

-- "the buffer begins with the joined bytes through the deciding record, or until it is full, and is otherwise untouched"
unfoldable pub buffer_after : (X : Read) → Line → List ℕ → Brought → List ℕ
buffer_after X c b h = cond (is_pending c b) (over (take (comes (X.reader c.profile) c b h).gathered (joined c b h)) b) b

abbrev pub filled_by : (X : Read) → Fed X.judging.Q → List ℕ → List ℕ
filled_by X none t = t
filled_by X (answers a) t = X.fills a t

-- "the table changes only when a message is accepted"
unfoldable pub table_after : (X : Read) → Line → List ℕ → Brought → Terms → List ℕ → List ℕ
table_after X c b h x t = cond (is_pending c b) (filled_by X (first_answer X c b h x) t) t

-- ---- a call

-- what is told of an answer over the bytes that are gathered after the call
pub data Says (T : Type 0) : Type 0 where
  nothing_yet : Says T
  says : T → Says T

abbrev pub says_of : (X : Read) → List ℕ → Fed X.judging.Q → Says X.Told
says_of X m none = nothing_yet
says_of X m (answers a) = says (X.tells m a)

-- the bytes gathered
abbrev pub held : Line → List ℕ → List ℕ
held c b = take c.gathered b

pub record Hands (X : Read) (c : Line) (b : List ℕ) (h : Brought) (x : Terms) (t : List ℕ) (r : Says X.Told) (c' : Line) (b' t' : List ℕ) : Type 0 where
  pub answer : r ≡ says_of X (held c' b') (answer_of X c b h x)
  pub line : c' ≡ line_after X c b h x
  pub buffer : b' ≡ buffer_after X c b h
  pub table : t' ≡ table_after X c b h x t

-- ---- what is kept of an answer in the code

abbrev pub told_state : State → Standing
told_state state.Pending = pending
told_state state.Accepted = accepted
told_state (state.Refused r) = refused (told_refusal r)

abbrev pub told_connection : Connection → Line
told_connection c = record { profile = c.profile; limit = c.limit; gathered = c.gathered; begins = c.begins; met = c.met; standing = told_state c.state }
