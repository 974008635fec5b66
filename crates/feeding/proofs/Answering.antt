-- What the word of a host's call that feeds a read tells, for every sort of read: the read waits, or it is refused, or it is accepted; and only what is accepted
-- changes the table or the answer's cells.
-- Assumes nothing.
use mathlib.Core.Path.{◌≡◌, refl, sym, ap, subst, ◌∙◌}
use mathlib.Core.Bool.{Bool, true, false, cond, not, ◌&&◌}
use mathlib.Core.List.{List}
use Prim.Native.Nat.{ℕ, ◌≤◌, ◌%◌}
use native.Mathlib.Omega.{arith}
use lib.ListN.{length}
use Rattle.utf8.proofs.Tests.{never, on}
use Rattle.wire.proofs.Over.{over_none}
use Rattle.nts.specs.Refusal.{nothing, Refused}
use Rattle.layout.specs.declared.Profile.{Profile}
use Rattle.layout.specs.declared.Profile.TheVariants.{Usual, Strict}
use Rattle.walk.specs.Judge as judge
use Rattle.walk.specs.Judge.{Terms, read_by}
use Rattle.walk.proofs.Numbered.{Barred}
use Rattle.request.specs.Request as requests
use Rattle.request.proofs.Order.{room_alone}
use Rattle.request.proofs.Numbered.{request_numbered}
use Rattle.reply.specs.Reply as replies
use Rattle.reply.proofs.Numbered.{reply_numbered}
use Rattle.pieces.specs.Pieces.{Standing, pending, accepted, refused, Line, Brought, broken, Read, Fed, none, answers, refused_at, first_answer, again, by_standing, answer_of, is_pending, filled_by, table_after, line_after, buffer_after, held, nothing_yet, says, says_of}
use Rattle.pieces.specs.Reads.{request_read, reply_read}
use Rattle.reading.specs.Read.{request_given, reply_given}
use Rattle.cells.specs.Cells as given
use Rattle.cells.specs.Cells.{word, unplaced, Given, cells, refuses, returned, cell}
use Rattle.cells.proofs.Lent.{word_some, number_in_lem}
use Rattle.feeding.specs.Fed.{line_cells, is_connection, number_in, profile_in, line_in, fed_word, fed_cells, says_in, Feeds}
use Rattle.feeding.proofs.Holding.{mark_numbered, standing_sound, standing_held, standing_numbered, line_sound, line_back, Refusing}
use Rattle.feeding.proofs.Refusing.{Cause, broke, filled, late, kept, read, refused_by}

-- ---- what is asked of a sort of read

-- f gives a refusal as it is, and cells for what is accepted; and a refusal leaves the table
pub record Host (X : Read) (f : X.Told → Given) : Type 0 where
  pub refuse : (m : List ℕ) (y : Refused) → f (X.tells m (judge.refused y)) ≡ refuses y
  pub accept : (m : List ℕ) (q : _) → (k : List ℕ) × (f (X.tells m (judge.accepted q)) ≡ cells k)
  pub keep : (y : Refused) (t : List ℕ) → X.fills (judge.refused y) t ≡ t

-- H holds of the number of every refusal of the whole-message reader in a profile
abbrev pub Numbers : Read → Profile → (ℕ → Type 0) → Type 0
Numbers X P H = (s : List ℕ) (n : ℕ) (x : Terms) (y : Refused) → read_by X.reader X.judging s (record { profile = P; limit = n; terms = x }) ≡ judge.refused y → H y.number

-- .. and of 18, where it lets nothing follow an end record
abbrev pub Ends : Read → Profile → (ℕ → Type 0) → Type 0
Ends X P H = (X.reader P).final ≡ true → H 18

pub host_request : Host request_read request_given
unfolding requests.table_after
host_request = record { refuse = λ m y. refl; accept = λ m q. go m q; keep = λ y t. over_none t }
  where
    go : (m : List ℕ) (q : requests.Form _) → (k : List ℕ) × (request_given (requests.told_by m (judge.accepted q)) ≡ cells k)
    go m (requests.key_exchange p a d) = (_, refl)
    go m (requests.fixed_key u x a p k) = (_, refl)
    go m (requests.support u p a k) = (_, refl)

pub host_reply : Host reply_read reply_given
unfolding replies.table_after
host_reply = record { refuse = λ m y. refl; accept = λ m q. go m q; keep = λ y t. over_none t }
  where
    go : (m : List ℕ) (q : replies.Form _) → (k : List ℕ) × (reply_given (replies.told_by m (judge.accepted q)) ≡ cells k)
    go m (replies.reply p a s t k c) = (_, refl)

-- ---- the table

pub pending_answer : (X : Read) (c : Line) (b : List ℕ) (h : Brought) (x : Terms) → is_pending c b ≡ true → answer_of X c b h x ≡ first_answer X c b h x
unfolding answer_of is_pending
pending_answer X c b h x e = go (broken c b) c.standing (refused_at 9 0) (again X c b) (λ r. answers (judge.refused r)) e
  where
    go : (t : Bool) (s : Standing) (y z : Fed X.judging.Q) (f : Refused → Fed X.judging.Q) → (not t && by_standing s true false (λ r. false)) ≡ true
        → cond t y (by_standing s (first_answer X c b h x) z f) ≡ first_answer X c b h x
    go true s y z f q = never q
    go false pending y z f q = refl
    go false accepted y z f q = never q
    go false (refused r) y z f q = never q

-- it is as it was, where the answer fills nothing
pub table_kept : (X : Read) (c : Line) (b : List ℕ) (h : Brought) (x : Terms) (t : List ℕ) (a : Fed X.judging.Q) → answer_of X c b h x ≡ a → filled_by X a t ≡ t → table_after X c b h x t ≡ t
unfolding table_after
table_kept X c b h x t a e k =
    on (is_pending c b)
    (λ p. rw p (ap (λ w. filled_by X w t) (sym (pending_answer X c b h x p) ∙ e) ∙ k))
    (λ p. rw p)

-- ---- the call

-- why a word refuses: the cells hold no connection, or by the connection that they hold
pub data Why (X : Read) (c : List ℕ) (y : Refused) : Type 0 where
  unheld : unplaced 9 nothing ≡ y → Why X c y
  by : is_connection c ≡ true → Cause X (line_in c) y → Why X c y

pub data Outcome (X : Read) (f : X.Told → Given) (c b : List ℕ) (h : Brought) (x : Terms) (t lent : List ℕ) (r : ℕ) (t' after : List ℕ) : Type 0 where
  waits : is_connection c ≡ true → says_in X (line_in c) b h x ≡ nothing_yet → r ≡ 65535 → t' ≡ t → after ≡ lent → Outcome X f c b h x t lent r t' after
  refusing : (y : Refused) → Why X c y → r ≡ word y → t' ≡ t → after ≡ lent → Outcome X f c b h x t lent r t' after
  accepting : (a : X.Told) → is_connection c ≡ true → says_in X (line_in c) b h x ≡ says a → f a ≡ cells after → r ≡ 0 → Outcome X f c b h x t lent r t' after

pub outcome : {X : Read} {f : X.Told → Given} → Host X f → {c b : List ℕ} {h : Brought} {x : Terms} {t lent : List ℕ} {r : ℕ} {c' b' t' after : List ℕ}
    → Feeds X f c b h x t lent r c' b' t' after → Outcome X f c b h x t lent r t' after
outcome {X} {f} host {c} {b} {h} {x} {t} {lent} {r} {c'} {b'} {t'} {after} p = on (is_connection c) held_one none_held
  where
    none_held : is_connection c ≡ false → Outcome X f c b h x t lent r t' after
    none_held e = refusing (unplaced 9 nothing) (unheld refl) (rw e at p.word) (rw e at p.table) (rw e at p.answer)

    m : List ℕ
    m = held (line_after X (line_in c) b h x) (buffer_after X (line_in c) b h)

    by_answer : is_connection c ≡ true → r ≡ fed_word f (says_in X (line_in c) b h x) → t' ≡ table_after X (line_in c) b h x t → after ≡ fed_cells f (says_in X (line_in c) b h x) lent
        → (a : Fed X.judging.Q) → answer_of X (line_in c) b h x ≡ a → Outcome X f c b h x t lent r t' after
    by_answer e w u v none q =
        let s : says_in X (line_in c) b h x ≡ nothing_yet = ap (says_of X m) q in
        waits e s (w ∙ ap (fed_word f) s) (u ∙ table_kept X (line_in c) b h x t none q refl) (v ∙ ap (λ a. fed_cells f a lent) s)
    by_answer e w u v (answers (judge.refused y)) q =
        let s : says_in X (line_in c) b h x ≡ says (X.tells m (judge.refused y)) = ap (says_of X m) q in
        refusing y (by e (refused_by X (line_in c) b h x y q)) (w ∙ ap (fed_word f) s ∙ ap returned (host.refuse m y))
        (u ∙ table_kept X (line_in c) b h x t (answers (judge.refused y)) q (host.keep y t))
        (v ∙ ap (λ a. fed_cells f a lent) s ∙ ap (λ g. given.held g lent) (host.refuse m y))
    by_answer e w u v (answers (judge.accepted z)) q =
        let s : says_in X (line_in c) b h x ≡ says (X.tells m (judge.accepted z)) = ap (says_of X m) q in
        let k = host.accept m z in
        let l : after ≡ k.0 = v ∙ ap (λ a. fed_cells f a lent) s ∙ ap (λ g. given.held g lent) k.1 in
        accepting (X.tells m (judge.accepted z)) e s (k.1 ∙ ap cells (sym l)) (w ∙ ap (fed_word f) s ∙ ap returned k.1)

    held_one : is_connection c ≡ true → Outcome X f c b h x t lent r t' after
    held_one e = by_answer e (rw e at p.word) (rw e at p.table) (rw e at p.answer) (answer_of X (line_in c) b h x) refl

-- ---- its number

-- H holds of 9 and 16, of 18 where nothing may follow an end record, of the whole-message reader's numbers, and of the number that the cells hold, where they hold a refusal
pub why_number : (H : ℕ → Type 0) {X : Read} {c : List ℕ} {y : Refused} → H 9 → H 16 → Ends X (profile_in (cell c 8)) H → Numbers X (profile_in (cell c 8)) H
    → (Refusing (cell c 4) (cell c 5) → H (number_in (cell c 5))) → Why X c y → H y.number
why_number H nine sixteen eighteen reads keeps (unheld e) = subst (λ (x : Refused). H x.number) e nine
why_number H nine sixteen eighteen reads keeps (by i (broke e)) = subst (λ (x : Refused). H x.number) e nine
why_number H nine sixteen eighteen reads keeps (by i (filled n l e)) = subst (λ (x : Refused). H x.number) e sixteen
why_number H nine sixteen eighteen reads keeps (by i (late f n l e)) = subst (λ (x : Refused). H x.number) e (eighteen f)
why_number H {X} {c} {y} nine sixteen eighteen reads keeps (by i (kept e)) =
    let s = standing_sound (cell c 4) (cell c 5) (cell c 6) (cell c 7) (line_sound c i).standing in
    subst (λ (x : Refused). H x.number) (standing_held (cell c 4) (cell c 5) (cell c 6) (cell c 7) y e) (keeps (standing_numbered (cell c 4) (cell c 5) (cell c 6) (cell c 7) y s e))
why_number H nine sixteen eighteen reads keeps (by i (read s x e)) = reads s _ x _ e

-- from 1 to 18: so a refusal's word is neither 0 nor 65,535
abbrev pub Eighteenth : ℕ → Type 0
Eighteenth n = (1 ≤ n) × (n ≤ 18)

pub barred_eighteenth : (P : Profile) → Barred Eighteenth P
barred_eighteenth Usual = tt
barred_eighteenth Strict = omega arith

pub request_eighteenth : (P : Profile) → Numbers request_read P Eighteenth
request_eighteenth P s n x y e =
    (request_numbered Eighteenth (omega arith) P (barred_eighteenth P) s n x.room y (sym (room_alone s (record { profile = P; limit = n; terms = x })) ∙ e)).one

pub reply_eighteenth : (P : Profile) → Numbers reply_read P Eighteenth
unfolding replies.reply_of
reply_eighteenth P s n x y e = (reply_numbered Eighteenth (omega arith) P (barred_eighteenth P) s n x y e).one

pub why_eighteenth : {X : Read} {c : List ℕ} {y : Refused} → ((P : Profile) → Numbers X P Eighteenth) → Why X c y → Eighteenth y.number
why_eighteenth {c = c} reads w = why_number Eighteenth (omega arith) (omega arith) (λ f. omega arith) (reads (profile_in (cell c 8))) (λ k. mark_numbered _ k.mark) w

pub word_waits : (y : Refused) → y.number ≤ 18 → word y ≡ 65535 → ⊥
word_waits y l e = omega (arith, number_in_lem y (omega arith))

-- ---- by the word

-- of every call with these numbers
module _ {X : Read} {f : X.Told → Given} (host : Host X f) (small : (P : Profile) → Numbers X P Eighteenth) {c b : List ℕ} {h : Brought} {x : Terms} {t lent : List ℕ} {r : ℕ} {c' b' t' after : List ℕ} (p : Feeds X f c b h x t lent r c' b' t' after) where
  -- not 0: table and cells are as they were; and if it is not 65,535 either, H holds of its number
  pub fed_refuses : (H : ℕ → Type 0) → H 9 → H 16 → Ends X (profile_in (cell c 8)) H → Numbers X (profile_in (cell c 8)) H → (Refusing (cell c 4) (cell c 5) → H (number_in (cell c 5))) → (r ≡ 0 → ⊥)
      → (t' ≡ t) × (after ≡ lent) × ((r ≡ 65535 → ⊥) → H (r % 256))
  fed_refuses H nine sixteen eighteen reads keeps some = go (outcome host p)
    where
      go : Outcome X f c b h x t lent r t' after → (t' ≡ t) × (after ≡ lent) × ((r ≡ 65535 → ⊥) → H (r % 256))
      go (waits i s e u v) = (u, v, λ n. absurd (n e))
      go (refusing y w e u v) = (u, v, λ n. rw (e, number_in_lem y (omega (arith, (why_eighteenth small w).1))) (why_number H nine sixteen eighteen reads keeps w))
      go (accepting a i s k e) = absurd (some e)

  -- 65,535: the cells hold a connection, and its read waits
  pub fed_waits : r ≡ 65535 → (is_connection c ≡ true) × (says_in X (line_in c) b h x ≡ nothing_yet)
  fed_waits z = go (outcome host p)
    where
      go : Outcome X f c b h x t lent r t' after → (is_connection c ≡ true) × (says_in X (line_in c) b h x ≡ nothing_yet)
      go (waits i s e u v) = (i, s)
      go (refusing y w e u v) = absurd (word_waits y (why_eighteenth small w).1 (sym e ∙ z))
      go (accepting a i s k e) = let x : ◌≡◌ {A = ℕ} 0 65535 = sym e ∙ z in absurd (omega arith)

  -- 0: its read is accepted, and the cells are what is given for it
  pub fed_granted : r ≡ 0 → (is_connection c ≡ true) × (a : X.Told) × (says_in X (line_in c) b h x ≡ says a) × (f a ≡ cells after)
  fed_granted z = go (outcome host p)
    where
      go : Outcome X f c b h x t lent r t' after → (is_connection c ≡ true) × (a : X.Told) × (says_in X (line_in c) b h x ≡ says a) × (f a ≡ cells after)
      go (waits i s e u v) = let x : ◌≡◌ {A = ℕ} 65535 0 = sym e ∙ z in absurd (omega arith)
      go (refusing y w e u v) = absurd (word_some y (why_eighteenth small w).0 (sym e ∙ z))
      go (accepting a i s k e) = (i, a, s, k)

-- ---- once there is an answer

pub line_unmoved : (X : Read) (c : Line) (b : List ℕ) (h : Brought) (x : Terms) → is_pending c b ≡ false → line_after X c b h x ≡ c
unfolding line_after
line_unmoved X c b h x e = rw e

pub buffer_unmoved : (X : Read) (c : Line) (b : List ℕ) (h : Brought) → is_pending c b ≡ false → buffer_after X c b h ≡ b
unfolding buffer_after
buffer_unmoved X c b h e = rw e

pub table_unmoved : (X : Read) (c : Line) (b : List ℕ) (h : Brought) (x : Terms) (t : List ℕ) → is_pending c b ≡ false → table_after X c b h x t ≡ t
unfolding table_after
table_unmoved X c b h x t e = rw e

-- a connection that has one, or that counts too many bytes, stays as it is, cell by cell, and so do buffer and table; and so do cells that hold none
pub fed_again : {X : Read} {f : X.Told → Given} {c b : List ℕ} {h : Brought} {x : Terms} {t lent : List ℕ} {r : ℕ} {c' b' t' after : List ℕ} → Feeds X f c b h x t lent r c' b' t' after
    → length c ≡ 9 → is_pending (line_in c) b ≡ false → (c' ≡ c) × (b' ≡ b) × (t' ≡ t)
fed_again {X} {f} {c} {b} {h} {x} {t} p l e =
    on (is_connection c)
    (λ i. (
      (rw i at p.connection) ∙ ap line_cells (line_unmoved X (line_in c) b h x e) ∙ line_back c l i,
      (rw i at p.buffer) ∙ buffer_unmoved X (line_in c) b h e,
      (rw i at p.table) ∙ table_unmoved X (line_in c) b h x t e,
    ))
    (λ i. (rw i at p.connection, rw i at p.buffer, rw i at p.table))
