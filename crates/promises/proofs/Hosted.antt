-- From a reader's definition to a host's call of it, once for every reader of whole messages: one word, a lent table and lent cells.
-- Assumes nothing.
use mathlib.Core.Path.{◌≡◌, refl, sym, ◌∙◌}
use mathlib.Core.List.{List}
use Prim.Native.Nat.{ℕ, ◌/◌, ◌%◌, ◌<◌}
use native.Mathlib.Omega.{arith}
use Rattle.wire.proofs.Bytes.{Small}
use Rattle.nts.specs.Refusal.{Beside, nothing, code, protocol, algorithm, beside_number, Refused}
use Rattle.walk.specs.Walk.{Sighting}
use Rattle.walk.specs.Judge.{Answer, refused, accepted}
use Rattle.walk.proofs.Numbered.{Sixteen, Numbered}
use Rattle.places.specs.Places.{room_of}
use Rattle.cells.specs.Cells.{sort_of, word}
use Rattle.cells.proofs.Lent.{word_some, apart}
use Rattle.promises.specs.Numbers.{Table}

-- a reader: the form Q of what its definition accepts, and what is shown of it; what a host gets in hand, of the sort S; and what else it lends, of the sort E
pub record Hosted (Q : Type 0 → Type 0) (S E : Type 0) : Type 1 where
  -- the definition: a message, a limit, what else is lent and a table's room; and what its acceptance shows
  pub reading : List ℕ → ℕ → E → ℕ → Answer Q
  pub shows : List ℕ → Q Sighting → Q (List ℕ)
  -- the contract: a message, a limit, what else is lent, the table and the cells lent, the word returned, and the table and the cells afterwards
  pub Reads : List ℕ → ℕ → E → List ℕ → List ℕ → ℕ → List ℕ → List ℕ → Type 0
  -- in hand: of the message, the table and the cells afterwards; and that it is the bodies shown that decide it
  pub hand : List ℕ → List ℕ → List ℕ → S
  pub in_hand : Q (List ℕ) → S
  pub grants : {m : List ℕ} {n : ℕ} {e : E} {t l : List ℕ} {r : ℕ} {t' a : List ℕ} → Reads m n e t l r t' a → (q : Q Sighting) → reading m n e (room_of t) ≡ accepted q
      → (r ≡ 0) × (hand m t' a ≡ in_hand (shows m q))
  pub refuses : {m : List ℕ} {n : ℕ} {e : E} {t l : List ℕ} {r : ℕ} {t' a : List ℕ} → Reads m n e t l r t' a → (y : Refused) → reading m n e (room_of t) ≡ refused y
      → (r ≡ word y) × (t' ≡ t) × (a ≡ l)
  -- a refusal's number is one of the table's
  pub numbered : (m : List ℕ) (n : ℕ) (e : E) (room : ℕ) (y : Refused) → reading m n e room ≡ refused y → Numbered Table m y.number y.beside

-- one call, by its word
module _ {Q : Type 0 → Type 0} {S E : Type 0} (F : Hosted Q S E) {m : List ℕ} {n : ℕ} {e : E} {t l : List ℕ} {r : ℕ} {u a : List ℕ} (c : F.Reads m n e t l r u a) where
  -- 0: nothing is refused
  pub granted : r ≡ 0 → (q : Q Sighting) × (F.reading m n e (room_of t) ≡ accepted q)
  granted z = go (F.reading m n e (room_of t)) refl
    where
      go : (o : Answer Q) → F.reading m n e (room_of t) ≡ o → (q : Q Sighting) × (F.reading m n e (room_of t) ≡ accepted q)
      go (refused y) w = absurd (word_some y (F.numbered m n e (room_of t) y w).one.0 (sym (F.refuses c y w).0 ∙ z))
      go (accepted q) w = (q, w)

  -- not 0: the definition refuses
  declined : (r ≡ 0 → ⊥) → (y : Refused) × (F.reading m n e (room_of t) ≡ refused y)
  declined h = go (F.reading m n e (room_of t)) refl
    where
      go : (o : Answer Q) → F.reading m n e (room_of t) ≡ o → (y : Refused) × (F.reading m n e (room_of t) ≡ refused y)
      go (refused y) w = (y, w)
      go (accepted q) w = absurd (h (F.grants c q w).0)

  -- .. and the word is that refusal's ..
  pub bears : (r ≡ 0 → ⊥) → (y : Refused) × (F.reading m n e (room_of t) ≡ refused y) × (r ≡ word y)
  bears h = let y = declined h in (y.0, y.1, (F.refuses c y.0 y.1).0)

  -- .. of which it tells all, where the message is bytes ..
  pub told_apart : (y : Refused) → F.reading m n e (room_of t) ≡ refused y → Small m
      → (r % 256 ≡ y.number) × (r / 256 % 256 ≡ sort_of y.beside) × (r / 65536 % 65536 ≡ beside_number y.beside) × (r / 4294967296 ≡ y.place)
  told_apart y w s =
      let k = F.numbered m n e (room_of t) y w in
      let x = apart y (omega (arith, k.one.1)) (beside_small y.beside (k.beside s)) in
      rw (F.refuses c y w).0 x
    where
      beside_small : (b : Beside) → Sixteen b → beside_number b < 65536
      beside_small nothing h = omega arith
      beside_small (code n) h = h
      beside_small (protocol n) h = h
      beside_small (algorithm n) h = h

  -- .. and table and cells stay as they were
  pub kept : (r ≡ 0 → ⊥) → (u ≡ t) × (a ≡ l)
  kept h = let y = declined h in let k = F.refuses c y.0 y.1 in (k.1, k.2)
