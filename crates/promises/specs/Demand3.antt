-- Demand 3, of any reader of messages, with its sentences. It is one statement, `Demand3`; proofs/Demand3.antt proves it of the definitions of a request
-- and of a reply, of the readers by their own contracts, and of the calls that a host links, in every profile (02, order 5: "demand 3 holds in each, 'unknown' being the profile's own word"); proofs/Pieces.antt and PiecesFace.antt of the bytes that a line
-- delivered, joined; proofs/Findings.antt and FindingsFace.antt of a walk and a decision from its finding.
use Rattle.std.specs.Prelude.{ℕ, ◌+◌, ◌≤◌, ◌≡◌, true, false, length}
use mathlib.Core.List.{List, ◌∷◌, ◌++◌, Permᴰ}
use Rattle.nts.specs.Refusal.{Refused, nothing}
use Rattle.record.specs.Record.{kind, critical}
use Rattle.walk.specs.Walk.{Sighting}
use Rattle.walk.specs.Judge.{Under, Answer, refused, accepted}
use Rattle.layout.specs.Profile.{knows}
use Rattle.walk.specs.Message.{Whole, Record, End, bodies, flat, message, Parts, SameTail}

-- ---- a reader, as its caller sees it

-- over the calls that were made: the message that a call was asked with, and under what, a profile, a limit, a table room and, of a reply, what was offered; what it is that it has room for so many bytes of the
-- message and would wait for no more behind them, which a reader of whole messages always has; what it is that it accepted and that s is in hand; and what it is that it refused, and left what was lent as it was
pub record Reader (S : Type 0) : Type 2 where
  pub Call : Type 1
  pub asked : Call → List ℕ
  pub under : Call → Under
  pub Holds : Call → ℕ → Type 0
  pub Accepts : Call → S → Type 0
  pub Refuses : Call → Refused → Type 0

-- the call d was asked with the records cs, the end record e and a tail t, under the same profile, limit and table room as the call c and "with the same offered lists" (02, order 3),
-- and has room through the end record. Its tail may be any; or it is that of c's message, t₀, where the profile lets nothing follow the end record
pub record Likewise {S : Type 0} (R : Reader S) (c d : R.Call) (cs : List (List ℕ)) (e t₀ t : List ℕ) : Type 0 where
  pub asked : R.asked d ≡ message cs e t
  pub tail : SameTail (R.under c) t₀ t
  pub under : R.under d ≡ R.under c
  pub holds : R.Holds d (length (flat cs) + length e)

-- ---- the sentences

-- of a call c that accepted, with s in hand, and of its message as records, an end record and a tail
pub record Steady {S : Type 0} (R : Reader S) (c : R.Call) (s : S) (p : Parts Record End (R.asked c) (R.under c).limit) : Type 1 where
  -- "Reorder the records before its end record, denied names keeping their order and cookies theirs: the answer's kind, numbers, names, keys and cookies are the
  -- same."
  pub reordered : (cs : List (List ℕ)) (t : List ℕ) (d : R.Call) → Likewise R c d cs p.last p.tail t → Permᴰ p.front cs
      → bodies 13 p.front ≡ bodies 13 cs → bodies 5 p.front ≡ bodies 5 cs
      → R.Accepts d s
  -- "Insert a whole record of unknown kind, critical bit clear, just before any record up to the end: the same again, if the message through its end record still
  -- fits the limit."
  pub inserted : (xs ys : List (List ℕ)) (u t : List ℕ) (d : R.Call) → Likewise R c d (xs ++ (u ∷ ys)) p.last p.tail t → p.front ≡ xs ++ ys
      → Whole u → knows (R.under c).profile (kind u) ≡ false → length (flat (xs ++ (u ∷ ys))) + length p.last ≤ (R.under c).limit
      → critical u ≡ false → R.Accepts d s
  -- "With the bit set, under that condition: refusal 3, at that record."
  pub inserted_critical : (xs ys : List (List ℕ)) (u t : List ℕ) (d : R.Call) → Likewise R c d (xs ++ (u ∷ ys)) p.last p.tail t → p.front ≡ xs ++ ys
      → Whole u → knows (R.under c).profile (kind u) ≡ false → length (flat (xs ++ (u ∷ ys))) + length p.last ≤ (R.under c).limit
      → critical u ≡ true → R.Refuses d (record { number = 3; beside = nothing; place = length (flat xs) })

-- "Take any request or reply that is accepted under a limit and a table room.": it is whole records, none of them an end record, then an end record through which it
-- fits the limit, then a tail of any bytes; and for every such reading of it the three sentences hold
pub record Demand3 {S : Type 0} (R : Reader S) : Type 1 where
  pub is : (c : R.Call) (s : S) → R.Accepts c s → Parts Record End (R.asked c) (R.under c).limit
  pub steady : (c : R.Call) (s : S) → R.Accepts c s → (p : Parts Record End (R.asked c) (R.under c).limit) → Steady R c s p

-- ---- a definition as a reader

-- what it is asked
pub record Question : Type 1 where
  pub message : List ℕ
  pub under : Under

-- it accepts, and the bodies that it shows are in hand
abbrev pub defined : {Q : Type 0 → Type 0} → (List ℕ → Under → Answer Q) → (List ℕ → Q Sighting → Q (List ℕ)) → Reader (Q (List ℕ))
defined {Q} reading shows = record {
  Call = Question;
  asked = λ c. c.message;
  under = λ c. c.under;
  Holds = λ c n. Unit {0};
  Accepts = λ c x. (q : Q Sighting) × (reading c.message c.under ≡ accepted q) × (shows c.message q ≡ x);
  Refuses = λ c y. reading c.message c.under ≡ refused y;
}
