-- One record put, in each form; a list of cells; and what a writer of a message answers. Without room each leaves the output as it was.
-- Assumes nothing.
use mathlib.Core.Path.{◌≡◌, refl, sym, ap, subst, ◌∙◌}
use mathlib.Core.Bool.{Bool, true, false, cond}
use mathlib.Core.List.{List, [], ◌∷◌, ◌++◌, append-nil, append_assoc}
use Prim.Native.Nat.{ℕ, suc, ◌+◌, ◌-◌, ◌*◌, ◌<◌, ◌≤◌}
use native.Mathlib.Omega.{arith}
use borrow.Rule.Slice.PartMut.{mid_of, put_mid}
use lib.Dec.{ltb}
use borrow.Author.Tests.{lt-ltb, le-ltb, ltb-true, ltb-false}
use lib.ListN.{length, take, drop, get_or, length-drop}
use lib.Seq.{length-take-le, take-suc, take_all}
use Rattle.wire.specs.Over.{bytes_of, Put, Tried}
use Rattle.wire.proofs.Over.{length_over, over_none, put_as, put_then, tried_not, tried_put, try_then}
use Rattle.nts.specs.declared.NtsError.{NtsError}
use Rattle.layout.specs.Write.{header, Count, bytes, told_count, fitted, left_by, Wrote}
use Rattle.layout.specs.declared.ByteCount.{ByteCount}
use Rattle.layout.specs.declared.ByteCount.TheVariants as count
use Rattle.walk.specs.Message.{flat}
use Rattle.messages.specs.Messages.{record_of, short_record, cell_bytes, if_asked}
use Rattle.messages.proofs.Cleared.{length_cells}

-- nothing put
pub put_none : (o : List ℕ) → Put 0 [] o 0 o
put_none o = record { count = refl; size = refl; left = sym (over_none o) }

pub tried_none : (o : List ℕ) → Tried 0 [] o 0 o
tried_none o = tried_put (omega arith) (put_none o)

-- the same of another way to say the number or the bytes
pub tried_as : {n n' r : ℕ} {b b' o o' : List ℕ} → Tried n b o r o' → n ≡ n' → b ≡ b' → Tried n' b' o r o'
tried_as p e f = rw (← e, ← f) p

-- a put keeps the output's length
pub put_long : {n r : ℕ} {b o o' : List ℕ} → Put n b o r o' → n ≤ length o → length o' ≡ length o
put_long {n} {r} {b} {o} {o'} p h = ap length p.left ∙ length_over b o (omega (arith, p.size))

-- a place, and what was put from it on, within the output
pub within_rest : (o : List ℕ) (at r : ℕ) → at ≤ length o → r ≤ length (mid_of at (length o - at) o) → at + r ≤ length o
within_rest o at r h w =
    let e = length-take-le (length o - at) (drop at o) (omega (arith, length-drop at o)) in
    omega arith

-- ---- one record: a header, and a body of which the length is told

module _ (word : ℕ) where
  pub empty_record : {o o' : List ℕ} {r : ℕ} → Tried 4 (header word 0) o r o' → Tried 4 (record_of word []) o r o'
  unfolding record_of
  empty_record p = tried_as p refl (sym (append-nil (header word 0)))

  pub body_record : {o o₁ o₂ b : List ℕ} {at r n : ℕ} → Put 4 (header word n) o at o₁ → length b ≡ n → Tried (length b) b (mid_of at (length o₁ - at) o₁) r o₂ → 4 + n ≤ length o
      → Put (4 + n) (record_of word b) o (at + r) (put_mid at (length o₁ - at) o₁ o₂)
  unfolding record_of
  body_record {o} {o₁} {o₂} {b} {at} {r} {n} p e q room =
      put_as (try_then p q (omega arith)) (ap (λ (k : ℕ). 4 + k) e) (ap (λ (k : ℕ). header word k ++ b) (sym e))

  pub list_record : {o o₁ o₂ b : List ℕ} {at r n : ℕ} → Put 4 (header word n) o at o₁ → Put n b (mid_of at (length o₁ - at) o₁) r o₂ → 4 + n ≤ length o
      → Put (4 + n) (record_of word b) o (at + r) (put_mid at (length o₁ - at) o₁ o₂)
  unfolding record_of
  list_record {o} {o₁} {o₂} {b} {at} {r} {n} p q room = put_as (put_then p q room) refl (ap (λ (k : ℕ). header word k ++ b) (sym q.size))

  -- a body of n bytes, which may be too long
  module _ (b : List ℕ) (n : ℕ) (e : length b ≡ n) where
    length_record : length (record_of word b) ≡ 4 + n
    unfolding record_of header bytes_of
    length_record = omega (arith, e)

    pub long_record : (o : List ℕ) → 65535 < n → Tried (length (short_record word b)) (short_record word b) o 0 o
    unfolding short_record
    long_record o h = rw (lt-ltb 65535 (length b) (omega (arith, e))) (tried_none o)

    module _ (h : n ≤ 65535) where
      short_is : short_record word b ≡ record_of word b
      unfolding short_record
      short_is = rw (le-ltb 65535 (length b) (omega (arith, e)))

      -- what the caller of a total writer of such a body knows, and what the writer has to show
      pub short_tried : {r : ℕ} {o o' : List ℕ} → Tried (length (short_record word b)) (short_record word b) o r o' → Tried (4 + n) (record_of word b) o r o'
      short_tried p = tried_as p (ap length short_is ∙ length_record) short_is

      tried_short : {r : ℕ} {o o' : List ℕ} → Tried (4 + n) (record_of word b) o r o' → Tried (length (short_record word b)) (short_record word b) o r o'
      tried_short p = tried_as p (sym (ap length short_is ∙ length_record)) (sym short_is)

      pub short_not : (o : List ℕ) → length o < 4 + n → Tried (length (short_record word b)) (short_record word b) o 0 o
      short_not o g = tried_short (tried_not g)

      pub short_put : {r : ℕ} {o o' : List ℕ} → 4 + n ≤ length o → Put (4 + n) (record_of word b) o r o' → Tried (length (short_record word b)) (short_record word b) o r o'
      short_put g p = tried_short (tried_put g p)

-- ---- cells

-- two bytes a cell
pub half_tested : (n : ℕ) → ltb 32767 n ≡ ltb 65535 (2 * n)
half_tested n = go (ltb 32767 n) refl
  where
    go : (t : Bool) → ltb 32767 n ≡ t → t ≡ ltb 65535 (2 * n)
    go true e = sym (lt-ltb 65535 (2 * n) (omega (arith, ltb-true 32767 n e)))
    go false e = sym (le-ltb 65535 (2 * n) (omega (arith, ltb-false 32767 n e)))

cells_snoc : (l : List ℕ) (n : ℕ) → cell_bytes (l ++ (n ∷ [])) ≡ cell_bytes l ++ bytes_of n
cells_snoc [] n = append-nil (bytes_of n)
cells_snoc (x ∷ l) n = ap (λ (b : List ℕ). bytes_of x ++ b) (cells_snoc l n) ∙ sym (append_assoc (bytes_of x) (cell_bytes l) (bytes_of n))

-- the first i cells stand in the output
pub record Cells (cells o₀ o : List ℕ) (i at : ℕ) : Type 0 where
  pub inside : i ≤ length cells
  pub room : 2 * length cells ≤ length o₀
  pub put : Put (2 * i) (cell_bytes (take i cells)) o₀ at o

pub cells_start : (cells o : List ℕ) → 2 * length cells ≤ length o → Cells cells o o 0 0
cells_start cells o h = record { inside = omega arith; room = h; put = put_none o }

module _ (cells o₀ o : List ℕ) (i at : ℕ) (g : Cells cells o₀ o i at) where
  pub cells_end : length cells ≤ i → Put (2 * length cells) (cell_bytes cells) o₀ at o
  cells_end h =
      let e : i ≡ length cells = omega (arith, g.inside) in
      put_as g.put (ap (λ (k : ℕ). 2 * k) e) (ap cell_bytes (take_all i cells h))

  pub cells_long : length o ≡ length o₀
  cells_long = put_long g.put (omega (arith, g.room, g.inside))

  pub cells_place : at ≤ length o
  cells_place = omega (arith, cells_long, g.put.count, g.room, g.inside)

  pub cells_on : (r : ℕ) (o₂ : List ℕ) → i < length cells → Tried 2 (bytes_of (get_or cells i 0)) (mid_of at (length o - at) o) r o₂
      → Cells cells o₀ (put_mid at (length o - at) o o₂) (i + 1) (at + r)
  cells_on r o₂ h q = record {
    inside = omega arith;
    room = g.room;
    put = put_as (try_then g.put q (omega (arith, g.room))) (let e : 2 * i + 2 ≡ 2 * (i + 1) = omega arith in e)
        (sym (cells_snoc (take i cells) (get_or cells i 0)) ∙ ap cell_bytes (sym (take-suc cells i 0 h) ∙ ap (λ (k : ℕ). take k cells) (let e : suc i ≡ i + 1 = omega arith in e)));
  }

-- what the caller of the total writer of a list that is not too long knows
pub list_tried : {r : ℕ} {o o' : List ℕ} (word : ℕ) (cells : List ℕ) → 2 * length cells ≤ 65535
    → Tried (length (short_record word (cell_bytes cells))) (short_record word (cell_bytes cells)) o r o' → Tried (4 + 2 * length cells) (record_of word (cell_bytes cells)) o r o'
list_tried word cells h p = short_tried word (cell_bytes cells) (2 * length cells) (length_cells cells) h p

-- ---- one record more, or none

pub one_record : {n r : ℕ} {b o o' : List ℕ} → Tried n b o r o' → Tried n (flat (b ∷ [])) o r o'
one_record {n} {r} {b} p = tried_as p refl (sym (append-nil b))

pub asked_record : {n r : ℕ} {b o o' : List ℕ} (asked : Bool) → asked ≡ true → Tried n b o r o' → Tried (cond asked n 0) (flat (if_asked asked b)) o r o'
asked_record true e p = one_record p
asked_record false e p = let z : ◌≡◌ {A = ℕ} 0 1 = cc in absurd (omega arith)

pub not_asked : (n : ℕ) (b o : List ℕ) (asked : Bool) → asked ≡ false → Tried (cond asked n 0) (flat (if_asked asked b)) o 0 o
not_asked n b o true e = let z : ◌≡◌ {A = ℕ} 0 1 = cc in absurd (omega arith)
not_asked n b o false e = tried_none o

-- ---- a whole message

-- what a writer answers that found no room, and one that found it
pub no_room : (n : ℕ) (m o : List ℕ) → length o < n → Wrote (fitted (length o) (bytes n)) m o (count.Refused NtsError.OutputTooShort) o
unfolding fitted left_by
no_room n m o h = record { says = rw (lt-ltb (length o) n h); left = rw (lt-ltb (length o) n h) }

pub room : {n r : ℕ} {m o o' : List ℕ} → n ≤ length o → Put n m o r o' → Wrote (fitted (length o) (bytes n)) m o (count.Bytes r) o'
unfolding fitted left_by
room {n} {r} {m} {o} h p = record { says = rw (le-ltb (length o) n h, p.count); left = rw (le-ltb (length o) n h) p.left }

-- .. after what was judged
pub judged_no : (a : Count) (x : ByteCount) (m o : List ℕ) (e : NtsError) → told_count x ≡ a → x ≡ count.Refused e → Wrote (fitted (length o) a) m o x o
unfolding fitted left_by
judged_no a x m o e h i = rw (← h, i) (record { says = refl; left = refl })

pub judged_short : (a : Count) (x : ByteCount) (m o : List ℕ) (n : ℕ) → told_count x ≡ a → x ≡ count.Bytes n → length o < n → Wrote (fitted (length o) a) m o (count.Refused NtsError.OutputTooShort) o
judged_short a x m o n h i l = subst (λ (k : Count). Wrote (fitted (length o) k) m o (count.Refused NtsError.OutputTooShort) o) (sym (ap told_count i) ∙ h) (no_room n m o l)

pub judged_room : {r : ℕ} {m o o' : List ℕ} (a : Count) (x : ByteCount) (n : ℕ) → told_count x ≡ a → x ≡ count.Bytes n → n ≤ length o → Put n m o r o' → Wrote (fitted (length o) a) m o (count.Bytes r) o'
judged_room {r} {m} {o} {o'} a x n h i l p = subst (λ (k : Count). Wrote (fitted (length o) k) m o (count.Bytes r) o') (sym (ap told_count i) ∙ h) (room l p)
