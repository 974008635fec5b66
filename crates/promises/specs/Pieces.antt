-- A read fed in pieces, over the calls that were made: 02, order 1, order 3 for what was offered, and order 5 for the profile. What is said here is said of the bytes handed over, joined, and of the whole-message reader;
-- nothing of a connection record but what it tells its host. proofs/Pieces.antt proves it of the calls of Fed.antt by their own contracts, for requests and for replies, and
-- PiecesFace.antt of the calls that a host links (FedCells.antt).
use Rattle.std.specs.Prelude.{ℕ, ◌+◌, ◌≤◌, ◌≡◌, List, [], ◌∷◌, ◌++◌, Bool, true, false, cond, not, ◌&&◌, ◌||◌, length, take, drop, ◌⊎◌, ltb, eqb}
use Rattle.wire.specs.Over.{over}
use Rattle.nts.specs.Refusal.{Refused}
use Rattle.record.specs.Record.{size}
use Rattle.layout.specs.declared.Profile.{Profile}
use Rattle.walk.specs.Walk.{Reader, Outcome, stopped, ended, walk}
use Rattle.walk.specs.Judge.{Terms, read_by}
use Rattle.walk.specs.Found.{place_of}
use Rattle.pieces.specs.Pieces.{Line, started, pending, Brought, Read, Fed, none, answers, refused_at, by_standing, Says, says_of, standing_by, filled_by, whole}
use Rattle.promises.specs.Demand3 as demand

-- ---- what joined bytes come to

-- "A record is judged when it stands whole": the one at which the whole-message walk over s stops is
unfoldable pub decided : Reader → List ℕ → Bool
decided R s = whole (drop (place_of (walk R [] 0 0 s)) s)

-- how many bytes of s that is through: all of them, where none decides
unfoldable pub through : Reader → List ℕ → ℕ
through R s = cond (decided R s) (place_of (walk R [] 0 0 s) + (4 + size (drop (place_of (walk R [] 0 0 s)) s))) (length s)

-- 16: "exactly when a byte arrives that the read needs, inside the limit, and the buffer has no room": byte number `room` of j, below the limit n, where
-- those before it decide nothing
unfoldable pub lacks_room : Reader → ℕ → ℕ → List ℕ → Bool
lacks_room R n room j = ltb room (length j) && ltb room n && not (decided R (take room j))

-- 02, order 5: where nothing may follow the end record, the read waits behind it: s goes just through it
abbrev pub ends_at : Outcome → ℕ → Bool
ends_at (stopped r) n = false
ends_at (ended at next st) n = eqb next n

unfoldable pub lasts : Reader → List ℕ → Bool
lasts R s = R.final && ends_at (walk R [] 0 0 s) (length s)

-- no answer yet: neither the close nor the limit has come, and nothing is decided
unfoldable pub undecided : Reader → ℕ → Brought → Bool
undecided R n h = not h.closed && ltb (length h.piece) n && (not (decided R h.piece) || lasts R h.piece)

-- the answer: 16 at the byte that has no room; none yet; or the whole-message reader's "on the pieces joined"
unfoldable pub answer_on : (X : Read) → Profile → ℕ → ℕ → Brought → Terms → Fed X.judging.Q
answer_on X P n buffer h x =
    cond (lacks_room (X.reader P) n buffer h.piece)
    (refused_at 16 buffer)
    (cond (undecided (X.reader P) n h) none (answers (read_by X.reader X.judging h.piece (record { profile = P; limit = n; terms = x }))))

-- how many of the joined bytes the buffer begins with: "through the deciding record, or until it is full"; no more than the limit, and as many as have come
unfoldable pub held_on : Reader → ℕ → ℕ → List ℕ → ℕ
held_on R n buffer j = through R (take buffer (take n j))

-- ---- calls on one line

-- a call that was made: what it was given and what it left
pub record Made (X : Read) : Type 0 where
  pub before : Line
  pub lent : List ℕ
  pub brought : Brought
  -- the table's room, and what was offered
  pub terms : Terms
  pub table : List ℕ
  pub said : Says X.Told
  pub after : Line
  pub left : List ℕ
  pub filled : List ℕ

-- a function that feeds a read of one sort, over its calls: what each was given and left; what it is that it accepted and that s is in hand, of the bytes gathered and the
-- table; and what it is that it refused, and left the table as it was
pub record Feeder (X : Read) (S : Type 0) : Type 2 where
  pub Call : Type 1
  pub made : Call → Made X
  pub Accepts : Call → S → Type 0
  pub Refuses : Call → Refused → Type 0

abbrev pub made_by : {X : Read} {S : Type 0} (F : Feeder X S) → List F.Call → List (Made X)
made_by F [] = []
made_by F (x ∷ xs) = F.made x ∷ made_by F xs

-- the latest first: after a start in the profile P under the limit n, with the buffer b
abbrev pub line_in : {X : Read} → Profile → ℕ → List (Made X) → Line
line_in P n [] = started P n
line_in P n (x ∷ xs) = x.after

abbrev pub buffer_in : {X : Read} → List ℕ → List (Made X) → List ℕ
buffer_in b [] = b
buffer_in b (x ∷ xs) = x.left

-- "The handler returns record and buffer as it got them"; the table and the offered lists may be others each time
abbrev pub OnLine : {X : Read} → Profile → ℕ → List ℕ → List (Made X) → Type 0
OnLine P n b [] = Unit {0}
OnLine P n b (x ∷ xs) = (x.before ≡ line_in P n xs) × (x.lent ≡ buffer_in b xs) × OnLine P n b xs

-- "the pieces joined", and whether the line closed behind them
abbrev pub joined_in : {X : Read} → List (Made X) → Brought
joined_in [] = record { piece = []; closed = false }
joined_in (x ∷ xs) = record { piece = (joined_in xs).piece ++ x.brought.piece; closed = (joined_in xs).closed || x.brought.closed }

-- ---- however cut

-- what a call on a line without an answer leaves, told of the joined bytes h alone
pub record Told (X : Read) (P : Profile) (n : ℕ) (b : List ℕ) (h : Brought) (x : Made X) : Type 0 where
  -- "Unless 16 is given, the answer equals the whole-message reader's on the pieces joined .. however cut"
  pub answer : x.said ≡ says_of X h.piece (answer_on X P n (length b) h x.terms)
  pub standing : x.after.standing ≡ standing_by (answer_on X P n (length b) h x.terms)
  -- "the buffer begins with the joined bytes through the deciding record, or until it is full, and is otherwise untouched"
  pub gathered : x.after.gathered ≡ held_on (X.reader P) n (length b) h.piece
  pub buffer : x.left ≡ over (take (held_on (X.reader P) n (length b) h.piece) h.piece) b
  -- "The table changes only when a message is accepted"
  pub table : x.filled ≡ filled_by X (answer_on X P n (length b) h x.terms) x.table

-- x is the last call and xs those before it: what was lent to the call which gave the answer, or without one to the last
abbrev pub terms_in : {X : Read} → Made X → List (Made X) → Terms
terms_in x [] = x.terms
terms_in x (y ∷ ys) = by_standing y.after.standing x.terms (terms_in y ys) (λ r. terms_in y ys)

-- what any call leaves, told of the joined bytes h of all calls
pub record Stands (X : Read) (P : Profile) (n : ℕ) (b : List ℕ) (h : Brought) (u : Terms) (x : Made X) : Type 0 where
  pub answer : x.said ≡ says_of X h.piece (answer_on X P n (length b) h u)
  pub standing : x.after.standing ≡ standing_by (answer_on X P n (length b) h u)
  pub gathered : x.after.gathered ≡ held_on (X.reader P) n (length b) h.piece
  pub buffer : x.left ≡ over (take (held_on (X.reader P) n (length b) h.piece) h.piece) b

-- a call that changed nothing, and gave the answer of the one before
pub record Repeated (X : Read) (x y : Made X) : Type 0 where
  pub answer : y.said ≡ x.said
  pub line : y.after ≡ x.after
  pub buffer : y.left ≡ x.left
  pub table : y.filled ≡ y.table

-- for every list of calls, the latest first
pub record HoweverCut {X : Read} {S : Type 0} (F : Feeder X S) : Type 1 where
  -- a call on a line without an answer: told of the bytes of all calls, joined
  pub first : (P : Profile) (n : ℕ) (b : List ℕ) (xs : List F.Call) (x : F.Call) → OnLine P n b (made_by F (x ∷ xs)) → (line_in P n (made_by F xs)).standing ≡ pending
      → Told X P n b (joined_in (made_by F (x ∷ xs))) (F.made x)
  -- after any calls, of which none but the last closed the line: the same, of the bytes of all of them, joined
  pub ever : (P : Profile) (n : ℕ) (b : List ℕ) (xs : List F.Call) (x : F.Call) → OnLine P n b (made_by F (x ∷ xs)) → (joined_in (made_by F xs)).closed ≡ false
      → Stands X P n b (joined_in (made_by F (x ∷ xs))) (terms_in (F.made x) (made_by F xs)) (F.made x)
  -- "Once an answer exists, later calls change nothing and give it again"
  pub later : (P : Profile) (n : ℕ) (b : List ℕ) (xs : List F.Call) (x y : F.Call) → OnLine P n b (made_by F (y ∷ x ∷ xs)) → ((F.made x).after.standing ≡ pending → ⊥)
      → Repeated X (F.made x) (F.made y)
  -- no byte handed over after an answer would have changed it, nor the bytes that are held: before the close, the answer is the whole-message reader's on the joined
  -- bytes and any bytes after them
  pub settled : (P : Profile) (n : ℕ) (b j t : List ℕ) (closed : Bool) (u : Terms) → (answer_on X P n (length b) (record { piece = j; closed = false }) u ≡ none → ⊥)
      → (answer_on X P n (length b) (record { piece = j ++ t; closed = closed }) u ≡ answer_on X P n (length b) (record { piece = j; closed = false }) u)
      × (held_on (X.reader P) n (length b) (j ++ t) ≡ held_on (X.reader P) n (length b) j)

-- ---- "Demand 3 holds for the joined bytes, if the buffer has room through the end record"

-- calls on one line, of which the last found no answer there
pub record Run {X : Read} {S : Type 0} (F : Feeder X S) : Type 1 where
  pub profile : Profile
  pub limit : ℕ
  pub buffer : List ℕ
  pub before : List F.Call
  pub last : F.Call
  pub online : OnLine profile limit buffer (made_by F (last ∷ before))
  pub waited : (line_in profile limit (made_by F before)).standing ≡ pending

-- as a reader: its message is the bytes joined, in the profile, under the limit and with the table and the lists that are lent to the last call; what that answers is its answer. It has
-- room for so many bytes, and where it would wait behind its end record, the line closed or the limit is not past them
abbrev pub joined_reader : {X : Read} {S : Type 0} → Feeder X S → demand.Reader S
joined_reader {X} F = record {
  Call = Run F;
  asked = λ c. (joined_in (made_by F (c.last ∷ c.before))).piece;
  under = λ c. record { profile = c.profile; limit = c.limit; terms = (F.made c.last).terms };
  Holds = λ c n. (n ≤ length c.buffer) × (lasts (X.reader c.profile) (joined_in (made_by F (c.last ∷ c.before))).piece ≡ true → ((joined_in (made_by F (c.last ∷ c.before))).closed ≡ true) ⊎ (c.limit ≤ n));
  Accepts = λ c s. F.Accepts c.last s;
  Refuses = λ c y. F.Refuses c.last y;
}
