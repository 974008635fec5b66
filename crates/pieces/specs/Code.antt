-- What the code makes of a piece, step by step.
use Rattle.std.specs.Prelude.{ℕ, ◌+◌, ◌-◌, ◌≤◌, ◌≡◌, List, ◌++◌, Bool, false, cond, ◌||◌, length, take, drop, ltb, eqb}
use Rattle.wire.specs.Over.{over}
use Rattle.record.specs.Record.{size}
use Rattle.walk.specs.Rules.{Rules, reader_of}
use Rattle.pieces.specs.Pieces as pieces
use Rattle.pieces.specs.Pieces.{Going, waits, decides, whole, going, broken, joined, came_to, gathers, comes, told_connection}
use Rattle.pieces.specs.declared.Connection.{Connection}
use Rattle.pieces.specs.declared.State.{State}
use Rattle.pieces.specs.declared.State.TheVariants as state
use Rattle.pieces.specs.declared.Scanned.{Scanned}
use Rattle.pieces.specs.declared.Scanned.TheVariants as scanned
use Rattle.pieces.specs.declared.How.{How}
use Rattle.pieces.specs.declared.How.TheVariants as how
use Rattle.pieces.specs.declared.Came.{Came}
use Rattle.pieces.specs.declared.Front.{Front}

-- ---- what is asked of a connection

unfoldable pub counts : Connection → ℕ → Bool
counts c room = ltb room c.gathered || ltb c.limit c.gathered

abbrev pub IsPending : Connection → List ℕ → Type 0
IsPending c b = (broken (told_connection c) b ≡ false) × (c.state ≡ state.Pending)

abbrev pub carried_by : Connection → Came → State → Connection
carried_by c x s = record { profile = c.profile; limit = c.limit; gathered = x.gathered; begins = x.begins; met = x.met; state = s }

-- ---- what each case says

abbrev pub told_scanned : Scanned → Going
told_scanned (scanned.Waits at met) = waits at met
told_scanned (scanned.Decides at met through) = decides at met through

abbrev pub told_how : How → pieces.How
told_how how.Waiting = pieces.waiting
told_how how.NoRoom = pieces.no_room
told_how how.Followed = pieces.followed
told_how how.Decided = pieces.decided

abbrev pub told_came : Came → pieces.Came
told_came x = record { gathered = x.gathered; begins = x.begins; met = x.met; how = told_how x.how }

-- the limit is reached; a byte more has no room; the line closed
unfoldable pub how_of : Bool → Bool → Bool → pieces.How
how_of reached more closed = cond reached pieces.decided (cond more pieces.no_room (cond closed pieces.decided pieces.waiting))

unfoldable pub smaller_of : ℕ → ℕ → ℕ
smaller_of a b = cond (ltb b a) b a

-- how many bytes of p the record lacks that begins at a place of those held
unfoldable pub lacks : List ℕ → ℕ → ℕ → List ℕ → ℕ
lacks b held begins p = cond (ltb (held + length p) (begins + 4)) (length p + 1) ((begins + (4 + size (drop begins (take held b ++ p)))) - held)

-- ---- what was gathered before, and a part that fits behind it

-- its last record is not whole
pub record Fits (x : Front) (b : List ℕ) : Type 0 where
  pub held : x.held ≤ length b
  pub begins : x.begins ≤ x.held
  pub partial : whole (drop x.begins (take x.held b)) ≡ false

-- the records of p from a place of it on
abbrev pub JudgesRest : Rules → Front → How → List ℕ → ℕ → Came → Type 0
JudgesRest rules x w p from r = told_came r ≡ came_to (told_how w) (x.held + length p) (going (reader_of rules) x.met (x.held + from) 0 (drop from p))

-- those of the bytes held and of p; nothing is stored but bytes of p that the answer counts
pub record JudgesPart (rules : Rules) (x : Front) (w : How) (p b : List ℕ) (r : Came) (b' : List ℕ) : Type 0 where
  pub says : told_came r ≡ came_to (told_how w) (x.held + length p) (going (reader_of rules) x.met x.begins 0 (drop x.begins (take x.held b ++ p)))
  pub more : x.held ≤ r.gathered
  pub within : r.gathered ≤ x.held + length p
  pub stored : ℕ
  pub counted : stored ≤ r.gathered
  pub left : b' ≡ over (take stored (take x.held b ++ p)) b

-- how many bytes of a piece fit
abbrev pub fits : Front → ℕ → List ℕ → List ℕ → ℕ
fits x n p b = smaller_of (length p) (smaller_of n (length b) - x.held)

pub record TakesPiece (rules : Rules) (x : Front) (n : ℕ) (closed : Bool) (p b : List ℕ) (r : Came) (b' : List ℕ) : Type 0 where
  pub says : told_came r
      ≡ came_to (how_of (eqb (x.held + fits x n p b) n) (ltb (fits x n p b) (length p)) closed) (x.held + fits x n p b) (going (reader_of rules) x.met x.begins 0 (drop x.begins (take x.held b ++ take (fits x n p b) p)))
  pub left : b' ≡ over (take r.gathered (take x.held b ++ p)) b

-- ---- a whole call, where there is no answer yet

-- by the records alone
pub record Gathers (rules : Rules) (c : Connection) (p : List ℕ) (closed : Bool) (b : List ℕ) (r : Came) (b' : List ℕ) : Type 0 where
  pub says : told_came r ≡ gathers (reader_of rules) (told_connection c) b (record { piece = p; closed = closed })
  pub left : b' ≡ over (take r.gathered (joined (told_connection c) b (record { piece = p; closed = closed }))) b

-- .. and after the end record
pub record Comes (rules : Rules) (c : Connection) (p : List ℕ) (closed : Bool) (b : List ℕ) (r : Came) (b' : List ℕ) : Type 0 where
  pub says : told_came r ≡ comes (reader_of rules) (told_connection c) b (record { piece = p; closed = closed })
  pub left : b' ≡ over (take r.gathered (joined (told_connection c) b (record { piece = p; closed = closed }))) b

-- the entries of a reader in the connection's profile
abbrev pub rules_of : Connection → List ℕ → Rules
rules_of c entries = record { profile = c.profile; entries = entries }
