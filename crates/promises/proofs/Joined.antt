-- Demand 3 for the bytes of a read fed in pieces, joined: where the buffer has room through the end record, a whole record decides before a byte lacks room, so the last
-- call answers as the whole-message reader does on the joined bytes; and the bytes that are gathered show what the joined ones do.
-- Assumes nothing.
use mathlib.Core.Path.{◌≡◌, refl, sym, ap, ◌∙◌, subst}
use mathlib.Core.List.{List, [], ◌∷◌, ◌++◌, append_assoc}
use mathlib.Core.Bool.{Bool, true, false, cond, not, ◌&&◌, ◌||◌, and-false}
use mathlib.Core.Logic.{◌⊎◌, inl, inr}
use Prim.Native.Nat.{ℕ, ◌+◌, ◌≤◌}
use native.Mathlib.Omega.{arith}
use lib.ListN.{length, take, drop, length-append, take-append-drop}
use lib.Seq.{drop_at, length-take-le}
use lib.Dec.{ltb}
use borrow.Author.Tests.{le-ltb}
use Rattle.nts.specs.Refusal.{Refused}
use Rattle.record.specs.Record.{kind, size}
use Rattle.layout.specs.declared.Profile.{Profile}
use Rattle.walk.specs.Walk.{Reader, Sighting}
use Rattle.walk.specs.Judge as judging
use Rattle.walk.specs.Judge.{Terms, Under, Judge, body_in, read_as, read_by}
use Rattle.walk.specs.Message.{Record, End, Each, flat, message, contents}
use Rattle.walk.specs.Met.{Passing, halts, on, passing}
use Rattle.walk.proofs.Passing.{take_over}
use Rattle.pieces.specs.Pieces.{Brought, whole, going, Read, Fed, none, answers, refused_at, filled_by, says, says_of, held}
use Rattle.pieces.proofs.Going.{long_whole, whole_more, size_more, going_halts, going_on}
use Rattle.promises.specs.Pieces.{decided, lacks_room, lasts, undecided, answer_on, held_on, Made, Feeder, made_by, joined_in, Told, Run, joined_reader}
use Rattle.promises.proofs.Steady.{Able, Answering}
use Rattle.promises.proofs.Coming.{fit_short, is_decides, came_short, decided_is, decided_more, held_is}
use Rattle.promises.proofs.Waiting as waiting
use Rattle.promises.proofs.Cutting.{Local, Meets, stops_in, read_held, however_cut}

-- ---- the end record decides

module _ (R : Reader) (zeros : (e : List ℕ) → kind e ≡ 0 → (met : ℕ) → passing R met e ≡ halts) where
  -- so records and an end record decide
  through_end : (cs : List (List ℕ)) (e : List ℕ) → Each Record cs → End e → (met at : ℕ) → is_decides (going R met at 0 (flat cs ++ e)) ≡ true
  through_end [] e i h met at = ap is_decides (going_halts R met at e (long_whole e (omega (arith, h.0))) (zeros e h.1 met))
  through_end (c ∷ cs) e i h met at = ap (λ (s : List ℕ). is_decides (going R met at 0 s)) (append_assoc c (flat cs) e) ∙ go (λ m at. through_end cs e i.1 h m at) (passing R met (c ++ rest)) refl
    where
      rest : List ℕ
      rest = flat cs ++ e

      one : whole c ≡ true
      one = long_whole c (omega (arith, i.0.0))

      stands : whole (c ++ rest) ≡ true
      stands = whole_more c rest one

      behind : drop (4 + size (c ++ rest)) (c ++ rest) ≡ rest
      behind = ap (λ (n : ℕ). drop (4 + n) (c ++ rest)) (size_more c rest one) ∙ drop_at c rest (4 + size c) i.0.0

      go : ((m at : ℕ) → is_decides (going R m at 0 rest) ≡ true) → (x : Passing) → passing R met (c ++ rest) ≡ x → is_decides (going R met at 0 (c ++ rest)) ≡ true
      go later halts q = ap is_decides (going_halts R met at (c ++ rest) stands q)
      go later (on m) q =
          ap is_decides (going_on R met at (c ++ rest) m stands q)
          ∙ ap (λ (s : List ℕ). is_decides (going R m (at + (4 + size (c ++ rest))) 0 s)) behind
          ∙ later m (at + (4 + size (c ++ rest)))

module _ (X : Read) (L : Local X) (P : Profile) where
  abbrev R : Reader
  R = X.reader P

  abbrev D : Judge
  D = X.judging

  abbrev under : ℕ → Terms → Under
  under n x = record { profile = P; limit = n; terms = x }

  -- ---- a message of records, an end record and a tail, and room through the end record

  module _ (cs : List (List ℕ)) (e t : List ℕ) (i : Each Record cs) (h : End e) where
    abbrev front : List ℕ
    front = flat cs ++ e

    apart : message cs e t ≡ front ++ t
    apart = sym (append_assoc (flat cs) e t)

    front_decides : decided R front ≡ true
    front_decides = decided_is R (stops_in X L P) front ∙ through_end R (L.ends P) cs e i h 0 0

    all_decide : decided R (message cs e t) ≡ true
    all_decide = ap (decided R) apart ∙ decided_more R (stops_in X L P) front t front_decides

    room_decides : (room : ℕ) → length (flat cs) + length e ≤ room → decided R (take room (message cs e t)) ≡ true
    room_decides room l =
        ap (λ (s : List ℕ). decided R (take room s)) apart
        ∙ ap (decided R) (take_over room front t (omega (arith, length-append (flat cs) e)))
        ∙ decided_more R (stops_in X L P) front _ front_decides

    -- no wait for more, unless it would wait behind the end record; and there, if the line closed or the limit is not past that
    waits_not : (n : ℕ) (closed : Bool) → (lasts R (message cs e t) ≡ true → (closed ≡ true) ⊎ (n ≤ length (flat cs) + length e)) → undecided R n (record { piece = message cs e t; closed = closed }) ≡ false
    unfolding undecided
    waits_not n closed f = go (lasts R (message cs e t)) refl
      where
        long : length (flat cs) + length e ≤ length (message cs e t)
        long = omega (arith, ap length apart, length-append front t, length-append (flat cs) e)

        by : (w : Bool) → (closed ≡ true) ⊎ (n ≤ length (flat cs) + length e) → (not closed && ltb (length (message cs e t)) n && w) ≡ false
        by w (inl c) = rw c
        by w (inr l) = rw (le-ltb (length (message cs e t)) n (omega (arith, l, long)), and-false)

        go : (b : Bool) → lasts R (message cs e t) ≡ b → (not closed && ltb (length (message cs e t)) n && (not (decided R (message cs e t)) || b)) ≡ false
        go false q = rw (all_decide, and-false)
        go true q = by _ (f q)

    answer_through : (n room : ℕ) (closed : Bool) (cells : Terms) → length (flat cs) + length e ≤ room → (lasts R (message cs e t) ≡ true → (closed ≡ true) ⊎ (n ≤ length (flat cs) + length e))
        → answer_on X P n room (record { piece = message cs e t; closed = closed }) cells ≡ answers (read_as R D (message cs e t) (under n cells))
    unfolding answer_on lacks_room
    answer_through n room closed cells l f = rw (room_decides room l, waits_not n closed f, and-false)

  -- ---- an answer that accepts is the whole-message reader's

  module _ (n room : ℕ) (j : List ℕ) (closed : Bool) (cells : Terms) where
    abbrev joined : Brought
    joined = record { piece = j; closed = closed }

    pub record Reads (a : judging.Answer D.Q) : Type 0 where
      pub room_for : lacks_room R n room j ≡ false
      pub sure : undecided R n joined ≡ false
      pub whole_is : read_as R D j (under n cells) ≡ a

    accepted_reads : (q : D.Q Sighting) → answer_on X P n room joined cells ≡ answers (judging.accepted q) → Reads (judging.accepted q)
    unfolding answer_on
    accepted_reads q = go (lacks_room R n room j) refl (undecided R n joined) refl
      where
        go : (s : Bool) → lacks_room R n room j ≡ s → (t : Bool) → undecided R n joined ≡ t
            → cond s (refused_at 16 room) (cond t none (answers (read_as R D j (under n cells)))) ≡ answers (judging.accepted q) → Reads (judging.accepted q)
        go true l t u e = let z : ◌≡◌ {A = ℕ} 0 1 = cc in absurd (omega arith)
        go false l true u e = let z : ◌≡◌ {A = ℕ} 0 1 = cc in absurd (omega arith)
        go false l false u e = record { room_for = l; sure = u; whole_is = cc }

    held_long : length (take (held_on R n room j) j) ≡ held_on R n room j
    held_long = length-take-le (held_on R n room j) j (omega (arith, held_is R (stops_in X L P) n room j closed, came_short R n room j closed, (fit_short n room j).0))

-- ---- the calls of a function

module _ (X : Read) (L : Local X) where
  abbrev D' : Judge
  D' = X.judging

  -- the bytes gathered after a call
  abbrev gathered : Made X → List ℕ
  gathered x = held x.after x.left

  -- what is asked of it: its calls meet the definition; one that says what is accepted of the bytes gathered accepted that; and one that says a refusal refused
  pub record Handing {S : Type 0} (F : Feeder X S) (in_hand : D'.Q (List ℕ) → S) : Type 1 where
    pub meets : (c : F.Call) → Meets X (F.made c)
    pub accepts : (c : F.Call) (u : Under) (q : D'.Q Sighting) → read_by X.reader D' (gathered (F.made c)) u ≡ judging.accepted q
        → (F.made c).said ≡ says (X.tells (gathered (F.made c)) (judging.accepted q)) → (F.made c).filled ≡ X.fills (judging.accepted q) (F.made c).table
        → F.Accepts c (in_hand (contents D' (gathered (F.made c)) q))
    pub accepted_by : (c : F.Call) (s : S) → F.Accepts c s
        → (y : X.Told) × ((F.made c).said ≡ says y) × ((m : List ℕ) (r : Refused) → y ≡ X.tells m (judging.refused r) → ⊥)
    pub one : (c : F.Call) (s s' : S) → F.Accepts c s → F.Accepts c s' → s ≡ s'
    pub refuses : (c : F.Call) (m : List ℕ) (y : Refused) → (F.made c).said ≡ says (X.tells m (judging.refused y))
        → (F.made c).filled ≡ X.fills (judging.refused y) (F.made c).table → F.Refuses c y

  module _ {S : Type 0} (F : Feeder X S) (in_hand : D'.Q (List ℕ) → S) (G : Handing F in_hand) where
    module _ (c : Run F) where
      abbrev x : Made X
      x = F.made c.last

      abbrev all : Brought
      all = joined_in (made_by F (c.last ∷ c.before))

      abbrev j : List ℕ
      j = all.piece

      abbrev asked : Under
      asked = record { profile = c.profile; limit = c.limit; terms = x.terms }

      abbrev i : ℕ
      i = held_on (X.reader c.profile) c.limit (length c.buffer) j

      abbrev answer : Fed D'.Q
      answer = answer_on X c.profile c.limit (length c.buffer) all x.terms

      told : Told X c.profile c.limit c.buffer all x
      told = (however_cut X L F G.meets).first c.profile c.limit c.buffer c.before c.last c.online c.waited

      gathered_is : gathered x ≡ take i j
      gathered_is =
          ap (λ (k : ℕ). take k x.left) told.gathered
          ∙ ap (take i) told.buffer
          ∙ waiting.take_over (take i j) c.buffer i (held_long X L c.profile c.limit (length c.buffer) j all.closed x.terms)

      both : gathered x ++ drop i j ≡ j
      both = ap (λ (s : List ℕ). s ++ drop i j) gathered_is ∙ take-append-drop i j

      -- what is accepted of the joined bytes is so of those gathered, which say and show the same
      module _ (q : D'.Q Sighting) (a : answer ≡ answers (judging.accepted q)) where
        by : Reads X L c.profile c.limit (length c.buffer) j all.closed x.terms (judging.accepted q)
        by = accepted_reads X L c.profile c.limit (length c.buffer) j all.closed x.terms q a

        read_gathered : read_by X.reader D' (gathered x) asked ≡ judging.accepted q
        read_gathered =
            ap (λ (s : List ℕ). read_by X.reader D' s asked) gathered_is
            ∙ read_held X L c.profile c.limit (length c.buffer) j all.closed x.terms q by.room_for by.sure by.whole_is

        said_gathered : x.said ≡ says (X.tells (gathered x) (judging.accepted q))
        said_gathered =
            told.answer
            ∙ ap (says_of X j) a
            ∙ ap (λ (s : List ℕ). says (X.tells s (judging.accepted q))) (sym both)
            ∙ ap (λ (o : judging.Answer D'.Q). says (X.tells (gathered x ++ drop i j) o)) (sym read_gathered)
            ∙ ap says (L.tells (gathered x) (drop i j) asked)
            ∙ ap (λ (o : judging.Answer D'.Q). says (X.tells (gathered x) o)) read_gathered

        filled_gathered : x.filled ≡ X.fills (judging.accepted q) x.table
        filled_gathered = told.table ∙ ap (λ (f : Fed D'.Q). filled_by X f x.table) a

        shown_gathered : contents D' (gathered x) q ≡ contents D' j q
        shown_gathered = sym (L.shows (gathered x) (drop i j) asked q read_gathered) ∙ ap (λ (s : List ℕ). contents D' s q) both

        accepts_joined : F.Accepts c.last (in_hand (contents D' j q))
        accepts_joined = subst (λ (y : D'.Q (List ℕ)). F.Accepts c.last (in_hand y)) shown_gathered (G.accepts c.last asked q read_gathered said_gathered filled_gathered)

      -- with room through the end record the answer is the whole-message reader's
      answer_able : Able (read_by X.reader D') (contents D') (joined_reader F) c → answer ≡ answers (read_by X.reader D' j asked)
      answer_able r =
          ap (λ (s : List ℕ). answer_on X c.profile c.limit (length c.buffer) (record { piece = s; closed = all.closed }) x.terms) r.asked
          ∙ answer_through X L c.profile r.front r.last r.tail r.each r.ends c.limit (length c.buffer) all.closed x.terms r.holds.0 (λ q. r.holds.1 (ap (lasts (X.reader c.profile)) r.asked ∙ q))
          ∙ ap (λ (s : List ℕ). answers (read_by X.reader D' s asked)) (sym r.asked)

      refuses_joined : (y : Refused) → answer ≡ answers (judging.refused y) → F.Refuses c.last y
      refuses_joined y a = G.refuses c.last j y (told.answer ∙ ap (says_of X j) a) (told.table ∙ ap (λ (f : Fed D'.Q). filled_by X f x.table) a)

      accepted_joined : (s : S) → F.Accepts c.last s
          → (q : D'.Q Sighting) × (read_by X.reader D' j asked ≡ judging.accepted q) × (in_hand (contents D' j q) ≡ s)
      accepted_joined s h = go answer refl
        where
          says_one : {T : Type 0} (y z : T) → says y ≡ says z → y ≡ z
          says_one y z e = cc

          said : (f : Fed D'.Q) → answer ≡ f → says (G.accepted_by c.last s h).0 ≡ says_of X j f
          said f a = sym (G.accepted_by c.last s h).1 ∙ told.answer ∙ ap (says_of X j) a

          go : (f : Fed D'.Q) → answer ≡ f → (q : D'.Q Sighting) × (read_by X.reader D' j asked ≡ judging.accepted q) × (in_hand (contents D' j q) ≡ s)
          go none a = let e = said none a in let z : ◌≡◌ {A = ℕ} 0 1 = cc in absurd (omega arith)
          go (answers (judging.refused r)) a = absurd ((G.accepted_by c.last s h).2 j r (says_one _ _ (said (answers (judging.refused r)) a)))
          go (answers (judging.accepted q)) a = (q, (by q a).whole_is, G.one c.last _ s (accepts_joined q a) h)

    pub joined_answering : Answering (read_by X.reader D') (contents D') (joined_reader F) in_hand
    joined_answering = record {
      accepted_by = accepted_joined;
      accepts = λ c r q w. accepts_joined c q (answer_able c r ∙ ap answers w);
      refuses = λ c r y w. refuses_joined c y (answer_able c r ∙ ap answers w);
    }
