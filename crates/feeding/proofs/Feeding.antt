-- A host's call that feeds a read, from what the call by value gave: the connection that the cells hold is handed on, and put again as cells.
-- Assumes nothing.
use mathlib.Core.Path.{◌≡◌, sym, ap, subst, ◌∙◌}
use mathlib.Core.Bool.{true}
use mathlib.Core.List.{List}
use Prim.Native.Nat.{ℕ, ◌<◌, ◌^◌}
use Rattle.nts.specs.Refusal.{nothing, Refused}
use Rattle.walk.specs.Judge.{Terms}
use Rattle.pieces.specs.Pieces.{Line, Brought, Read, Says, says, says_of, held, answer_of, Hands}
use Rattle.cells.specs.Cells as given
use Rattle.cells.specs.Cells.{Given, cells, returned, word, unplaced}
use Rattle.feeding.specs.Fed.{is_connection, line_in, line_cells, fed_word, fed_cells, says_in, Feeds}
use Rattle.feeding.specs.Code.{no_line, line, kept_in}
use Rattle.feeding.proofs.Holding.{kept_line, kept_none}
use Rattle.feeding.proofs.Refusing.{Cause, Tells, told_by, place_within}

-- cells that hold no connection
pub unheld : (X : Read) (f : X.Told → Given) (c b : List ℕ) (h : Brought) (terms : Terms) (t lent : List ℕ) {r : ℕ} → no_line ≡ kept_in c → r ≡ word (unplaced 9 nothing)
    → Feeds X f c b h terms t lent r c b t lent
unheld X f c b h terms t lent e p =
    let n = kept_none c e in
    record { word = rw n p; connection = rw n; buffer = rw n; table = rw n; answer = rw n }

-- what was answered is what the definition says of the call
pub answered : (X : Read) {c : Line} {b : List ℕ} {h : Brought} {terms : Terms} {t : List ℕ} {r : Says X.Told} {c' : Line} {b' t' : List ℕ} → Hands X c b h terms t r c' b' t' → r ≡ says_in X c b h terms
answered X {c} {b} {h} {terms} p = p.answer ∙ (λ j. says_of X (held (p.line j) (p.buffer j)) (answer_of X c b h terms))

-- cells that hold one: a is what was answered
pub fed : (X : Read) (f : X.Told → Given) (c b : List ℕ) (h : Brought) (terms : Terms) (t lent : List ℕ) {x x' : Line} {u a : Says X.Told} {r : ℕ} {c' b' t' after : List ℕ}
    → line x ≡ kept_in c → Hands X x b h terms t u x' b' t' → u ≡ a → r ≡ fed_word f a → c' ≡ line_cells x' → after ≡ fed_cells f a lent
    → Feeds X f c b h terms t lent r c' b' t' after
fed X f c b h terms t lent {x} {x'} {u} {a} {r} {c'} {b'} {t'} {after} e p s q l o = let k = kept_line c x e in by k.0 k.1
  where
    by : is_connection c ≡ true → x ≡ line_in c → Feeds X f c b h terms t lent r c' b' t' after
    by y z = record {
      word = rw (y, ← z) (q ∙ ap (λ w. fed_word f w) (sym s ∙ answered X p));
      connection = rw (y, ← z) (l ∙ ap line_cells p.line);
      buffer = rw (y, ← z) p.buffer;
      table = rw (y, ← z) p.table;
      answer = rw (y, ← z) (o ∙ ap (λ w. fed_cells f w lent) (sym s ∙ answered X p));
    }

-- what was accepted, with its cells
pub fed_accepted : (X : Read) (f : X.Told → Given) (c b : List ℕ) (h : Brought) (terms : Terms) (t lent : List ℕ) {x x' : Line} {u : Says X.Told} {a : X.Told} {c' b' t' after : List ℕ}
    → line x ≡ kept_in c → Hands X x b h terms t u x' b' t' → u ≡ says a → cells after ≡ f a → c' ≡ line_cells x' → Feeds X f c b h terms t lent 0 c' b' t' after
fed_accepted X f c b h terms t lent e p s q l = fed X f c b h terms t lent e p s (ap (λ g. returned g) q) l (ap (λ g. given.held g lent) q)

-- what was refused has a place of thirty-two bits
pub fed_place : (X : Read) (refuse : Refused → X.Told) → Tells X refuse → (c : List ℕ) {b t : List ℕ} {h : Brought} {x x' : Line} {u : Says X.Told} {terms : Terms} {b' t' : List ℕ} (r : Refused)
    → line x ≡ kept_in c → Hands X x b h terms t u x' b' t' → u ≡ says (refuse r) → r.place < 2 ^ 32
fed_place X refuse tells c {b} {t} {h} {x} {x'} {u} {terms} {b'} {t'} r e p s =
    let k = kept_line c x e in
    let q = told_by X refuse tells x b h terms (held x' b') r (sym s ∙ p.answer) in
    place_within X c r k.0 (subst (λ y. Cause X y r) k.1 q)

-- what a contract says in this way, it says of one word and of one list of each sort
pub feeds_same : {X : Read} {f : X.Told → Given} {c b : List ℕ} {h : Brought} {terms : Terms} {t lent : List ℕ} {r r' : ℕ} {c' c'' b' b'' t' t'' after after' : List ℕ} → Feeds X f c b h terms t lent r c' b' t' after
    → Feeds X f c b h terms t lent r' c'' b'' t'' after' → (r ≡ r') × (c' ≡ c'') × (b' ≡ b'') × (t' ≡ t'') × (after ≡ after')
feeds_same p q = (p.word ∙ sym q.word, p.connection ∙ sym q.connection, p.buffer ∙ sym q.buffer, p.table ∙ sym q.table, p.answer ∙ sym q.answer)
