-- From what the code gathers, and what the whole-message reader answers over it, to what a call is to give: for every sort of read.
-- Assumes nothing.
use Prim.Native.Nat.{ℕ, ◌-◌, ◌≤◌}
use mathlib.Core.Path.{◌≡◌, refl, sym, ap, ◌∙◌}
use mathlib.Core.List.{List}
use mathlib.Core.Bool.{Bool, true, false, cond}
use native.Mathlib.Nat.{sub-zero}
use native.Mathlib.Omega.{arith}
use lib.ListN.{length, take, drop, length-drop, length-append}
use lib.Seq.{length-take-le}
use Rattle.wire.specs.Over.{over}
use Rattle.nts.specs.Refusal.{Refused, told_refusal}
use Rattle.nts.specs.declared.NtsError.TheVariants.{InvalidValue, BufferFull, NotAllowed}
use Rattle.nts.specs.declared.Refusal.{Refusal}
use Rattle.walk.specs.Walk.{Reader}
use Rattle.walk.specs.Judge as judge
use Rattle.walk.specs.Judge.{Terms, room_for, read_by}
use Rattle.layout.specs.declared.Profile.{Profile}
use Rattle.walk.specs.Rules.{reader_of}
use Rattle.pieces.specs.Pieces.{Standing, accepted, refused, Line, broken, Brought, joined, fitting, comes, Read, Fed, none, answers, refused_at, answer_after, first_answer, again, by_standing, answer_of, is_pending, standing_by, line_after, buffer_after, filled_by, table_after, Says, nothing_yet, says, says_of, held, Hands, told_state, told_connection}
use Rattle.pieces.specs.Pieces as pieces
use Rattle.pieces.specs.Code.{IsPending, carried_by, told_how, told_came, Comes, rules_of}
use Rattle.pieces.specs.declared.Connection.{Connection}
use Rattle.pieces.specs.declared.State.{State}
use Rattle.pieces.specs.declared.State.TheVariants as state
use Rattle.pieces.specs.declared.How.TheVariants as how
use Rattle.pieces.specs.declared.Came.{Came}
use Rattle.pieces.proofs.Inside.{came_inside, fitting_inside, front_over}

-- ---- nothing changes: a connection that counts too much, or one with an answer

module _ (X : Read) (c : Line) (b : List ℕ) (h : Brought) (x : Terms) (t : List ℕ) where
  pub hands_broken : broken c b ≡ true → (v : Refusal) → v ≡ record { error = InvalidValue; place = 0 } → Hands X c b h x t (says (X.tells (held c b) (judge.refused (told_refusal v)))) c b t
  unfolding answer_of is_pending line_after buffer_after table_after
  hands_broken e v q = record { answer = rw (e, q) refl; line = rw e refl; buffer = rw e refl; table = rw e refl }

  pub hands_refused : broken c b ≡ false → (v : Refused) → c.standing ≡ refused v → Hands X c b h x t (says (X.tells (held c b) (judge.refused v))) c b t
  unfolding answer_of is_pending line_after buffer_after table_after
  hands_refused e v q = record { answer = rw (e, q) refl; line = rw (e, q) refl; buffer = rw (e, q) refl; table = rw (e, q) refl }

  pub hands_accepted : broken c b ≡ false → c.standing ≡ accepted → (r : Says X.Told) → r ≡ says_of X (held c b) (again X c b) → Hands X c b h x t r c b t
  unfolding again answer_of is_pending line_after buffer_after table_after
  hands_accepted e q r a = record { answer = rw (e, q) a; line = rw (e, q) refl; buffer = rw (e, q) refl; table = rw (e, q) refl }

-- a part from the front
front_part : (n : ℕ) (s : List ℕ) → take (n - 0) (drop 0 s) ≡ take n s
front_part n s = ap (λ (k : ℕ). take k s) (sub-zero n)

-- an answer a over the bytes gathered, with room for as many records, where every number was offered
pub again_says : (X : Read) (c : Connection) (b : List ℕ) (a : X.Told)
    → a ≡ X.tells (take (c.gathered - 0) (drop 0 b)) (read_by X.reader X.judging (take (c.gathered - 0) (drop 0 b)) (record { profile = c.profile; limit = c.limit; terms = room_for c.gathered }))
    → says a ≡ says_of X (held (told_connection c) b) (again X (told_connection c) b)
unfolding again
again_says X c b a q =
    ap says (q ∙ ap (λ (s : List ℕ). X.tells s (read_by X.reader X.judging s (record { profile = c.profile; limit = c.limit; terms = room_for c.gathered }))) (front_part c.gathered b))

-- ---- a piece handed to a read without an answer

-- what the calls ask of a sort of read: what is told of an answer tells how the connection stands after it, and a refusal changes no cell of the table
pub record Telling (X : Read) : Type 1 where
  pub stands : X.Told → Standing
  pub told : (m : List ℕ) (a : judge.Answer X.judging.Q) → stands (X.tells m a) ≡ standing_by {Q = X.judging.Q} (answers a)
  pub kept : (r : Refused) (t : List ℕ) → X.fills (judge.refused r) t ≡ t

module _ (X : Read) (T : Telling X) (entries : List ℕ) (same : (P : Profile) → reader_of (record { profile = P; entries = entries }) ≡ X.reader P) (c : Connection) (p : List ℕ) (closed : Bool) (b : List ℕ) (u : IsPending c b) (x : Came) (b' : List ℕ) (g : Comes (rules_of c entries) c p closed b x b') where
  abbrev l : Line
  l = told_connection c

  abbrev h : Brought
  h = record { piece = p; closed = closed }

  -- the bytes gathered, in the buffer after the call
  abbrev m : List ℕ
  m = take x.gathered b'

  -- by the reader's own table
  came : told_came x ≡ comes (X.reader c.profile) l b h
  came = g.says ∙ ap (λ (R : Reader). comes R l b h) (same c.profile)

  fits : x.gathered ≤ length (fitting l b h)
  fits = rw (ap (λ (y : pieces.Came). y.gathered) came) (came_inside (X.reader c.profile) l b h u.0)

  -- they are read where the buffer is
  pub gathered_inside : x.gathered ≤ length b'
  unfolding over
  gathered_inside =
      let i = fitting_inside l b h in
      let e = length-take-le x.gathered (joined l b h) (omega (arith, fits, i.1)) in
      rw g.left (simp (length-append, length-drop, e) (omega (arith, fits, i.0)))

  -- they are those of the pieces joined
  stored : m ≡ take x.gathered (joined l b h)
  stored = ap (take x.gathered) g.left ∙ front_over x.gathered (joined l b h) b (omega (arith, fits, (fitting_inside l b h).1))

  -- the buffer holds as many
  long : length m ≡ x.gathered
  long = length-take-le x.gathered b' gathered_inside

  module _ (under : Terms) (t : List ℕ) where
    -- the answer by what was gathered, and that it is the definition's
    after : Fed X.judging.Q
    after = answer_after X c.profile c.limit (told_how x.how) m under

    first : first_answer X l b h under ≡ after
    unfolding first_answer after
    first = rw (← came, stored) refl

    -- there was none before
    waiting_still : is_pending l b ≡ true
    unfolding is_pending
    waiting_still = rw (u.0, u.1) refl

    answered : answer_of X l b h under ≡ after
    unfolding answer_of
    answered =
        ap (λ (w : Bool). cond w (refused_at 9 0) (by_standing (told_state c.state) (first_answer X l b h under) (again X l b) (λ r. answers (judge.refused r)))) u.0
        ∙ ap (λ (w : State). by_standing (told_state w) (first_answer X l b h under) (again X l b) (λ r. answers (judge.refused r))) u.1
        ∙ first

    -- whatever the answer is
    hands_on : (f : Fed X.judging.Q) → after ≡ f → (s : State) → told_state s ≡ standing_by f → (v : Connection) → v ≡ carried_by c x s
        → (r : Says X.Told) → r ≡ says_of X m f → (t' : List ℕ) → t' ≡ filled_by X f t → Hands X l b h under t r (told_connection v) b' t'
    unfolding line_after buffer_after table_after
    hands_on f a s e v q r y t' z =
        let w = first ∙ a in
        rw q (record {
          answer = y ∙ ap (says_of X m) (sym (answered ∙ a));
          line = rw waiting_still (λ i. record {
            profile = c.profile;
            limit = c.limit;
            gathered = (came i).gathered;
            begins = (came i).begins;
            met = (came i).met;
            standing = (e ∙ ap standing_by (sym w)) i;
          });
          buffer = rw waiting_still (g.left ∙ ap (λ (k : pieces.Came). over (take k.gathered (joined l b h)) b) came);
          table = rw waiting_still (z ∙ ap (λ (i : Fed X.judging.Q). filled_by X i t) (sym w));
        })

    pub hands_waiting : x.how ≡ how.Waiting → (v : Connection) → v ≡ carried_by c x state.Pending → Hands X l b h under t nothing_yet (told_connection v) b' t
    unfolding after
    hands_waiting e v q = hands_on none (rw e refl) state.Pending refl v q nothing_yet refl t refl

    -- y is kept, and z answered
    pub hands_full : x.how ≡ how.NoRoom → (y z : Refusal) → y ≡ record { error = BufferFull; place = x.gathered } → z ≡ record { error = BufferFull; place = x.gathered }
        → (v : Connection) → v ≡ carried_by c x (state.Refused y) → Hands X l b h under t (says (X.tells m (judge.refused (told_refusal z)))) (told_connection v) b' t
    unfolding after
    hands_full e y z yq zq v q =
        hands_on (refused_at 16 x.gathered) (rw (e, long) refl) (state.Refused y) (rw yq refl) v q _ (rw zq refl) t (sym (T.kept _ t))

    -- the same of a byte that follows the end record
    pub hands_followed : x.how ≡ how.Followed → (y z : Refusal) → y ≡ record { error = NotAllowed; place = x.gathered } → z ≡ record { error = NotAllowed; place = x.gathered }
        → (v : Connection) → v ≡ carried_by c x (state.Refused y) → Hands X l b h under t (says (X.tells m (judge.refused (told_refusal z)))) (told_connection v) b' t
    unfolding after
    hands_followed e y z yq zq v q =
        hands_on (refused_at 18 x.gathered) (rw (e, long) refl) (state.Refused y) (rw yq refl) v q _ (rw zq refl) t (sym (T.kept _ t))

    -- what the whole-message reader answers over s
    read : List ℕ → judge.Answer X.judging.Q
    read s = read_by X.reader X.judging s (record { profile = c.profile; limit = c.limit; terms = under })

    -- its answer a over the bytes gathered, and the table that it leaves
    pub hands_decided : x.how ≡ how.Decided → (a : X.Told) (t' : List ℕ)
        → a ≡ X.tells (take (x.gathered - 0) (drop 0 b')) (read_by X.reader X.judging (take (x.gathered - 0) (drop 0 b')) (record { profile = c.profile; limit = c.limit; terms = under }))
        → t' ≡ X.fills (read_by X.reader X.judging (take (x.gathered - 0) (drop 0 b')) (record { profile = c.profile; limit = c.limit; terms = under })) t
        → (w : State) → told_state w ≡ T.stands a → (v : Connection) → v ≡ carried_by c x w → Hands X l b h under t (says a) (told_connection v) b' t'
    unfolding after read
    hands_decided e a t' y z w k v q =
        let d : take (x.gathered - 0) (drop 0 b') ≡ m = front_part x.gathered b' in
        let told : a ≡ X.tells m (read m) = y ∙ ap (λ (i : List ℕ). X.tells i (read i)) d in
        hands_on (answers (read m)) (rw e refl) w (k ∙ ap T.stands told ∙ T.told m (read m)) v q (says a) (ap says told) t' (z ∙ ap (λ (i : List ℕ). X.fills (read i) t) d)

-- ---- what a call gives is one

pub hands_same : {X : Read} {c : Line} {b : List ℕ} {h : Brought} {x : Terms} {t : List ℕ} {r r' : Says X.Told} {c' c'' : Line} {b' b'' t' t'' : List ℕ}
    → Hands X c b h x t r c' b' t' → Hands X c b h x t r' c'' b'' t'' → (r ≡ r') × (c' ≡ c'') × (b' ≡ b'') × (t' ≡ t'')
hands_same {X} {c} {b} {h} {x} p q =
    let l = p.line ∙ sym q.line in
    let w = p.buffer ∙ sym q.buffer in
    (p.answer ∙ (λ i. says_of X (held (l i) (w i)) (answer_of X c b h x)) ∙ sym q.answer, l, w, p.table ∙ sym q.table)
