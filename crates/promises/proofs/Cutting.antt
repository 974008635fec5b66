-- However the bytes of a read are cut into pieces, what a call answers and leaves is told of the bytes joined: a line that waits stands for them, and a call on it comes
-- to what they come to by themselves. For every sort of read whose table, decision and answer look at no byte behind the record that decides.
-- Assumes nothing.
use mathlib.Core.Path.{◌≡◌, refl, sym, ap, ◌∙◌, subst}
use mathlib.Core.List.{List, [], ◌∷◌, ◌++◌}
use mathlib.Core.Bool.{Bool, true, false, cond, not, ◌&&◌, ◌||◌, and-false, true≢false}
use Prim.Native.Nat.{ℕ, ◌≤◌, ◌<◌}
use native.Mathlib.Omega.{arith}
use lib.ListN.{length, take, drop, length-append, length-take, take-append-drop}
use lib.Seq.{take-append-le, length-take-le, take_all, take-take}
use mathlib.Core.Logic.{◌⊎◌, inl, inr}
use lib.Dec.{ltb}
use borrow.Author.Tests.{le-ltb, lt-ltb}
use Rattle.wire.specs.Over.{over}
use Rattle.wire.proofs.Over.{length_over}
use Rattle.nts.specs.Refusal.{nothing, Refused}
use Rattle.record.specs.Record.{kind}
use Rattle.layout.specs.declared.Profile.{Profile}
use Rattle.walk.specs.Walk.{Reader, Sighting, Outcome, stopped, ended, walk, behind, walked}
use Rattle.walk.specs.Met.{halts, passing}
use Rattle.walk.specs.Judge as judge
use Rattle.walk.specs.Judge.{Terms, room_for, Under, Judge, Verdict, no, yes, of_kind, body_in, placed, finish, read_as, read_by}
use Rattle.walk.specs.Rules.{reader_of}
use Rattle.walk.proofs.Noted.{Inside, walk_inside, walk_few, kind_inside}
use Rattle.walk.proofs.Meets.{place_between}
use Rattle.walk.proofs.Standing.{few_kind}
use Rattle.walk.proofs.Behind.{walked_ended, ended_followed}
use Rattle.walk.proofs.Passing.{reached}
use Rattle.pieces.specs.Pieces as pieces
use Rattle.pieces.specs.Pieces.{Line, broken, Standing, pending, accepted, refused, Brought, joined, inside, Going, waits, decides, going, How, waiting, no_room, followed}
use Rattle.pieces.specs.Pieces.{Came, how_after, comes, Read, Fed, none, answers, refused_at, answer_after, first_answer, again, by_standing, answer_of, is_pending, standing_by, line_after}
use Rattle.pieces.specs.Pieces.{buffer_after, filled_by, table_after, says, says_of, held, Hands}
use Rattle.promises.specs.Pieces.{decided, lacks_room, undecided, answer_on, held_on, Made, line_in, buffer_in, OnLine, joined_in, Told, terms_in, Stands, Repeated, Feeder, made_by, HoweverCut}
use Rattle.pieces.proofs.Going.{Reaches, going_reaches, going_decides_more}
use Rattle.pieces.proofs.Storing.{over_again}
use Rattle.pieces.proofs.Stopping.{Stops, stops_first}
use Rattle.promises.proofs.Waiting.{waits_sound, waits_pending, joined_is, comes_is, came_long, front_long, take_over, waits_start, Waits, resumes_waits, resumes_decides}
use Rattle.promises.proofs.Coming as coming_proofs
use Rattle.promises.proofs.Coming.{fit, fit_short, fit_front, fit_part, fit_all, is_decides, reach, how_on, came_on, closes_at, Coming, deciding, following, closing, resting, lacking, cutting, lasting, coming}
use Rattle.promises.proofs.Coming.{decides_fits, front_decides, front_fit, came_decided, came_ended, after_follows, after_limited, after_rests, came_waits, how_lacks, how_limited, how_waits, came_short}
use Rattle.promises.proofs.Coming.{decided_is, held_is, lacks_decided, lacks_room_lem, lacks_byte, walk_limit, closes_is, ends_there, undecided_not, undecided_follows, undecided_rests, undecided_lasts, closes_more}

-- ---- what is asked of a sort of read

pub record Local (X : Read) : Type 1 where
  -- its reader is a table, in each profile
  pub rules : List ℕ
  pub table : (P : Profile) → reader_of (record { profile = P; entries = rules }) ≡ X.reader P
  -- the decision asks of the message the bodies found alone ..
  pub decides : (u : Under) (l : ℕ → List Sighting) (m t : List ℕ) → ((k : ℕ) → Inside (length m) (l k))
      → X.judging.decide u (body_in (m ++ t)) l ≡ X.judging.decide u (body_in m) l
  -- .. and so does what is told of an answer
  pub tells : (m t : List ℕ) (u : Under) → X.tells (m ++ t) (read_by X.reader X.judging m u) ≡ X.tells m (read_by X.reader X.judging m u)
  pub refuses : (m m' : List ℕ) (r : Refused) → X.tells m (judge.refused r) ≡ X.tells m' (judge.refused r)
  pub shows : (m t : List ℕ) (u : Under) (q : X.judging.Q Sighting) → read_by X.reader X.judging m u ≡ judge.accepted q
      → X.judging.map_q (body_in (m ++ t)) q ≡ X.judging.map_q (body_in m) q
  -- with a record of kind 0 the walk stops, whatever was met
  pub ends : (P : Profile) (e : List ℕ) → kind e ≡ 0 → (met : ℕ) → passing (X.reader P) met e ≡ halts
  -- what is accepted is so with room for all that was found, where every number is let in
  pub roomy : (P : Profile) (n : ℕ) (x : Terms) (room : ℕ) (l : ℕ → List Sighting) (val : Sighting → List ℕ) (q : X.judging.Q Sighting) → ((k : ℕ) → length (l k) ≤ room)
      → X.judging.decide (record { profile = P; limit = n; terms = x }) val l ≡ yes q → X.judging.decide (record { profile = P; limit = n; terms = room_for room }) val l ≡ yes q

-- ---- what is known of a call: that it meets the contract's definition

abbrev pub Meets : (X : Read) → Made X → Type 0
Meets X x = Hands X x.before x.lent x.brought x.terms x.table x.said x.after x.left x.filled

abbrev pub All : {X : Read} → List (Made X) → Type 0
All [] = Unit {0}
All {X} (x ∷ xs) = Meets X x × All xs

-- ---- the answer, over the bytes joined

module _ (X : Read) (L : Local X) (P : Profile) where
  abbrev R : Reader
  R = X.reader P

  abbrev D : Judge
  D = X.judging

  abbrev under : ℕ → Terms → Under
  under n x = record { profile = P; limit = n; terms = x }

  pub stops_in : (s : List ℕ) → Stops R [] 0 s (going R 0 0 0 s)
  stops_in s = subst (λ (r : Reader). Stops r [] 0 s (going r 0 0 0 s)) (L.table P) (stops_first (record { profile = P; entries = L.rules }) s)

  noted_inside : (m : List ℕ) (n at next : ℕ) (st : List Sighting) → walked R (take n m) ≡ ended at next st → (k : ℕ) → Inside (length m) (of_kind k st)
  noted_inside m n at next st e k =
      kind_inside (length m) k st (walk_inside R [] 0 0 (take n m) (length m) at next st (simp length-take (omega arith)) tt (walked_ended R (take n m) at next st e))

  -- a front of the message at which the walk stops as at the whole of it is read as the whole
  read_front : (i n : ℕ) (cells : Terms) (j : List ℕ) → walked R (take n (take i j)) ≡ walked R (take n j)
      → read_as R D (take i j) (under n cells) ≡ read_as R D j (under n cells)
  unfolding read_as finish
  read_front i n cells j e = go (walked R (take n (take i j))) refl ∙ ap (finish D (under n cells) j) e
    where
      go : (o : Outcome) → walked R (take n (take i j)) ≡ o → finish D (under n cells) (take i j) o ≡ finish D (under n cells) j o
      go (stopped r) w = refl
      go (ended at next st) w =
          ap (placed at)
          (sym (L.decides (under n cells) (λ k. of_kind k st) (take i j) (drop i j) (noted_inside (take i j) n at next st w))
          ∙ ap (λ (s : List ℕ). D.decide (under n cells) (body_in s) (λ k. of_kind k st)) (take-append-drop i j))

  -- how many bytes follow is asked of an end record alone, and where nothing may follow it
  same_behind : (s s' : List ℕ) (o : Outcome) → (R.final && reached o) ≡ false → behind R s o ≡ behind R s' o
  unfolding behind
  same_behind s s' (stopped r) h = refl
  same_behind s s' (ended at next st) h = go R.final h
    where
      go : (f : Bool) → (f && true) ≡ false
          → cond (f && ltb next (length s)) (stopped (record { number = 18; beside = nothing; place = next })) (ended at next st)
          ≡ cond (f && ltb next (length s')) (stopped (record { number = 18; beside = nothing; place = next })) (ended at next st)
      go true q = absurd (true≢false q)
      go false q = refl

  module _ (n room : ℕ) (j : List ℕ) (a m to : ℕ) (e : going R 0 0 0 (fit n room j) ≡ decides a m to) where
    abbrev front : List ℕ
    front = take to j

    long : length front ≡ to
    long = coming_proofs.front_long R n room j a m to e

    in_limit : take n front ≡ front
    in_limit = take_all n front (omega (arith, long, (decides_fits R n room j a m to e).0, (fit_short n room j).1))

    -- such a front reaches through the record that decides
    walk_front : walk R [] 0 0 (take n front) ≡ walk R [] 0 0 (take n j)
    walk_front =
        let h : Stops R [] 0 front (decides a m to) = subst (Stops R [] 0 front) (front_decides R n room j a m to e) (stops_in front) in
        ap (walk R [] 0 0) in_limit
        ∙ sym (h.same (drop to (fit n room j)))
        ∙ ap (walk R [] 0 0) (front_fit R n room j a m to e)
        ∙ sym (walk_limit R stops_in n room j a m to e)

    walked_front : closes_at R a (fit n room j) ≡ false → walked R (take n front) ≡ walked R (take n j)
    unfolding walked
    walked_front f =
        ap (behind R (take n front)) walk_front
        ∙ same_behind (take n front) (take n j) (walk R [] 0 0 (take n j))
        (ap (λ (o : Outcome). R.final && reached o) (walk_limit R stops_in n room j a m to e) ∙ closes_is R stops_in n room j a m to e ∙ f)

    -- .. or it is all that is inside the limit
    walked_limit : length (take n j) ≤ to → walked R (take n front) ≡ walked R (take n j)
    walked_limit l =
        ap (walked R) (in_limit ∙ sym (take-take to n j (omega (arith, (decides_fits R n room j a m to e).0, (fit_short n room j).1))) ∙ take_all to (take n j) l)

    -- .. or a byte follows the end record, where none may
    read_followed : (cells : Terms) → closes_at R a (fit n room j) ≡ true → to < length (take n j)
        → read_as R D j (under n cells) ≡ judge.refused (record { number = 18; beside = nothing; place = to })
    unfolding read_as finish
    read_followed cells f l =
        let y = ends_there R stops_in n room j a m to e f in
        ap (finish D (under n cells) j)
        (ended_followed R (take n j) y.1.0 to y.1.1 (walk_limit R stops_in n room j a m to e ∙ y.1.2) (rw (y.0, lt-ltb to (length (take n j)) l)))

  -- a front that reaches through all that is inside the limit
  walked_all : (n room : ℕ) (j : List ℕ) → length (take n j) ≤ room → walked R (take n (take (length (fit n room j)) j)) ≡ walked R (take n j)
  walked_all n room j l = ap (λ (s : List ℕ). walked R (take n s)) (fit_front n room j ∙ fit_all n room j l) ∙ ap (walked R) (take-take n n j (omega arith))

  -- what is answered from what the bytes come to
  abbrev given : ℕ → Terms → List ℕ → Came → Fed D.Q
  given n cells j x = answer_after X P n x.how (take x.gathered j) cells

  pub answer_is : (n room : ℕ) (j : List ℕ) (closed : Bool) (cells : Terms) → given n cells j (came_on R n room j closed) ≡ answer_on X P n room (record { piece = j; closed = closed }) cells
  unfolding answer_on
  answer_is n room j closed cells = go closed (coming R n room j closed)
    where
      go : (closed : Bool) → Coming R n room j closed → given n cells j (came_on R n room j closed)
          ≡ cond (lacks_room R n room j) (refused_at 16 room)
          (cond (undecided R n (record { piece = j; closed = closed })) none (answers (read_as R D j (under n cells))))
      go closed (deciding a m to e f) =
          let d : decided R (fit n room j) ≡ true = decided_is R stops_in (fit n room j) ∙ ap is_decides e in
          ap (given n cells j) (came_decided R n room j a m to e closed f)
          ∙ rw (lacks_decided R stops_in n room j d, undecided_not R stops_in n room j a m to e closed f) (ap answers (read_front to n cells j (walked_front n room j a m to e f)))
      go closed (following a m to e f l) =
          let d : decided R (fit n room j) ≡ true = decided_is R stops_in (fit n room j) ∙ ap is_decides e in
          ap (given n cells j) (came_ended R n room j a m to e closed followed f (after_follows R n room j a m to e closed l))
          ∙ ap (refused_at 18) (long n room j a m to e)
          ∙ rw (lacks_decided R stops_in n room j d, undecided_follows R stops_in n room j a m to e closed f l) (ap answers (sym (read_followed n room j a m to e cells f l)))
      go closed (closing a m to e f l u w k) =
          let d : decided R (fit n room j) ≡ true = decided_is R stops_in (fit n room j) ∙ ap is_decides e in
          ap (given n cells j) (came_ended R n room j a m to e closed pieces.decided f w)
          ∙ rw (lacks_decided R stops_in n room j d, u) (ap answers (read_front to n cells j (walked_limit n room j a m to e l)))
      go closed (resting a m to e f l h q) =
          let d : decided R (fit n room j) ≡ true = decided_is R stops_in (fit n room j) ∙ ap is_decides e in
          subst (λ (c : Bool). given n cells j (came_on R n room j c)
          ≡ cond (lacks_room R n room j) (refused_at 16 room) (cond (undecided R n (record { piece = j; closed = c })) none (answers (read_as R D j (under n cells))))) (sym q)
          (ap (given n cells j) (came_ended R n room j a m to e false waiting f (after_rests R n room j a m to e l h))
          ∙ rw (lacks_decided R stops_in n room j d, undecided_rests R stops_in n room j a m to e f l h))
      go closed (lacking a m e l) =
          let d : decided R (fit n room j) ≡ false = decided_is R stops_in (fit n room j) ∙ ap is_decides e in
          let long : length (take (length (fit n room j)) j) ≡ room = ap length (fit_front n room j) ∙ length-take-le room (take n j) (omega arith) in
          ap (given n cells j) (came_waits R n room j closed a m no_room e (how_lacks R n room j closed l))
          ∙ rw (lacks_byte R stops_in n room j d l) (ap (refused_at 16) long)
      go closed (cutting a m e l u w f) =
          ap (given n cells j) (came_waits R n room j closed a m pieces.decided e w)
          ∙ rw (lacks_room_lem R stops_in n room j l, u) (ap answers (read_front (length (fit n room j)) n cells j (walked_all n room j l)))
      go closed (lasting a m e l h q) =
          let d : decided R (fit n room j) ≡ false = decided_is R stops_in (fit n room j) ∙ ap is_decides e in
          subst (λ (c : Bool). given n cells j (came_on R n room j c)
          ≡ cond (lacks_room R n room j) (refused_at 16 room) (cond (undecided R n (record { piece = j; closed = c })) none (answers (read_as R D j (under n cells))))) (sym q)
          (ap (given n cells j) (came_waits R n room j false a m waiting e (how_waits R n room j l h))
          ∙ rw (lacks_room_lem R stops_in n room j l, undecided_lasts R stops_in n room j d l h))

  -- it is told of all bytes as of those gathered
  says_is : (n : ℕ) (cells : Terms) (i : ℕ) (j : List ℕ) (w : How) → says_of X (take i j) (answer_after X P n w (take i j) cells) ≡ says_of X j (answer_after X P n w (take i j) cells)
  says_is n cells i j waiting = refl
  says_is n cells i j no_room = ap says (L.refuses (take i j) j _)
  says_is n cells i j followed = ap says (L.refuses (take i j) j _)
  says_is n cells i j pieces.decided =
      ap says
      (sym (L.tells (take i j) (drop i j) (under n cells))
      ∙ ap (λ (s : List ℕ). X.tells s (read_as R D (take i j) (under n cells))) (take-append-drop i j))

  -- and what is accepted of all of them is so of the bytes gathered, where neither a byte has no room nor the read may go on
  pub read_held : (n room : ℕ) (j : List ℕ) (closed : Bool) (cells : Terms) (y : D.Q Sighting) → lacks_room R n room j ≡ false → undecided R n (record { piece = j; closed = closed }) ≡ false
      → read_as R D j (under n cells) ≡ judge.accepted y → read_as R D (take (held_on R n room j) j) (under n cells) ≡ judge.accepted y
  read_held n room j closed cells y l u v = go closed (coming R n room j closed) u
    where
      held : (closed : Bool) (i : ℕ) → (came_on R n room j closed).gathered ≡ i → walked R (take n (take i j)) ≡ walked R (take n j)
          → read_as R D (take (held_on R n room j) j) (under n cells) ≡ judge.accepted y
      held closed i e q =
          ap (λ (k : ℕ). read_as R D (take k j) (under n cells)) (sym (held_is R stops_in n room j closed) ∙ e) ∙ read_front i n cells j q ∙ v

      go : (closed : Bool) → Coming R n room j closed → undecided R n (record { piece = j; closed = closed }) ≡ false
          → read_as R D (take (held_on R n room j) j) (under n cells) ≡ judge.accepted y
      go closed (deciding a m to e f) u =
          held closed to (ap (λ (z : Came). z.gathered) (came_decided R n room j a m to e closed f)) (walked_front n room j a m to e f)
      go closed (following a m to e f h) u =
          let z : judge.refused (record { number = 18; beside = nothing; place = to }) ≡ judge.accepted y = sym (read_followed n room j a m to e cells f h) ∙ v in
          let o : ◌≡◌ {A = ℕ} 0 1 = cc in absurd (omega arith)
      go closed (closing a m to e f h u' w k) u =
          held closed to (ap (λ (z : Came). z.gathered) (came_ended R n room j a m to e closed pieces.decided f w)) (walked_limit n room j a m to e h)
      go closed (resting a m to e f h k q) u =
          absurd (true≢false (sym (undecided_rests R stops_in n room j a m to e f h k) ∙ ap (λ (c : Bool). undecided R n (record { piece = j; closed = c })) (sym q) ∙ u))
      go closed (lacking a m e h) u =
          let d : decided R (fit n room j) ≡ false = decided_is R stops_in (fit n room j) ∙ ap is_decides e in
          absurd (true≢false (sym (lacks_byte R stops_in n room j d h) ∙ l))
      go closed (cutting a m e h v w f) u =
          held closed (length (fit n room j)) (ap (λ (z : Came). z.gathered) (came_waits R n room j closed a m pieces.decided e w)) (walked_all n room j h)
      go closed (lasting a m e h f q) u =
          let d : decided R (fit n room j) ≡ false = decided_is R stops_in (fit n room j) ∙ ap is_decides e in
          absurd (true≢false (sym (undecided_lasts R stops_in n room j d h f) ∙ ap (λ (c : Bool). undecided R n (record { piece = j; closed = c })) (sym q) ∙ u))

  -- ---- one call

  -- an answer that waits leaves the line pending, and no other does
  only_waiting : (n : ℕ) (cells : Terms) (w : How) (s : List ℕ) → standing_by (answer_after X P n w s cells) ≡ pending → w ≡ waiting
  only_waiting n cells waiting s e = refl
  only_waiting n cells no_room s e = let z : ◌≡◌ {A = ℕ} 0 1 = cc in absurd (omega arith)
  only_waiting n cells followed s e = let z : ◌≡◌ {A = ℕ} 0 1 = cc in absurd (omega arith)
  only_waiting n cells pieces.decided s e = go (read_as R D s (under n cells)) e
    where
      go : (a : judge.Answer D.Q) → standing_by (answers a) ≡ pending → pieces.decided ≡ waiting
      go (judge.refused r) q = let z : ◌≡◌ {A = ℕ} 0 1 = cc in absurd (omega arith)
      go (judge.accepted x) q = let z : ◌≡◌ {A = ℕ} 0 1 = cc in absurd (omega arith)

  not_waiting : (w : How) → w ≡ waiting → w ≡ pieces.decided → ⊥
  not_waiting w e q = let z : ◌≡◌ {A = ℕ} 0 1 = cc in omega arith

  not_followed : (w : How) → w ≡ waiting → w ≡ followed → ⊥
  not_followed w e q = let z : ◌≡◌ {A = ℕ} 0 1 = cc in omega arith

  not_lacking : (w : How) → w ≡ waiting → w ≡ no_room → ⊥
  not_lacking w e q = let z : ◌≡◌ {A = ℕ} 0 1 = cc in omega arith

  -- what is accepted is so with as much room as the message has bytes
  room_enough : (m : List ℕ) (n : ℕ) (cells : Terms) (room : ℕ) (q : D.Q Sighting) → length m ≤ room → read_as R D m (under n cells) ≡ judge.accepted q
      → read_as R D m (under n (room_for room)) ≡ judge.accepted q
  unfolding read_as finish
  room_enough m n cells room q l = go (walked R (take n m)) refl
    where
      placed_yes : (at : ℕ) (v : Verdict D.Q Sighting) → placed at v ≡ judge.accepted q → v ≡ yes q
      placed_yes at (no k b) g = cc
      placed_yes at (yes q') g = cc

      few : (at next : ℕ) (st : List Sighting) → walked R (take n m) ≡ ended at next st → (k : ℕ) → length (of_kind k st) ≤ room
      few at next st v k =
          let w = walked_ended R (take n m) at next st v in
          let i : at ≤ length m = rw w at (place_between R [] 0 0 (take n m) (length m) (omega arith) (simp length-take (omega arith))).1 in
          omega (arith, few_kind k st, walk_few R [] 0 0 (take n m) at next st w)

      go : (o : Outcome) → walked R (take n m) ≡ o → finish D (under n cells) m o ≡ judge.accepted q → finish D (under n (room_for room)) m o ≡ judge.accepted q
      go (stopped r) w e = e
      go (ended at next st) w e = ap (placed at) (L.roomy P n cells room (λ k. of_kind k st) (body_in m) q (few at next st w) (placed_yes at _ e))

  module _ (n : ℕ) (b j : List ℕ) (x : Made X) (k : Meets X x) (w : Waits P R n b j x.before x.lent) where
    abbrev c : Line
    c = x.before

    abbrev h : Brought
    h = x.brought

    abbrev piece : List ℕ
    piece = j ++ h.piece

    abbrev to : Came
    to = came_on R n (length b) piece h.closed

    abbrev from : Came
    from = comes R c x.lent h

    comes_to : from ≡ to
    comes_to = comes_is P R n b j c x.lent w h

    is_pending_lem : is_pending c x.lent ≡ true
    is_pending_lem = waits_pending P R n b j c x.lent w

    joins : joined c x.lent h ≡ piece
    joins = joined_is P R n b j c x.lent w h

    first_is : first_answer X c x.lent h x.terms ≡ given n x.terms piece to
    unfolding first_answer
    first_is =
        ap (λ (Q : Profile). answer_after X Q c.limit (comes (X.reader Q) c x.lent h).how (take (comes (X.reader Q) c x.lent h).gathered (joined c x.lent h)) x.terms) w.profile
        ∙ ap (λ (k : ℕ). answer_after X P k from.how (take from.gathered (joined c x.lent h)) x.terms) w.limit
        ∙ ap (λ (s : List ℕ). given n x.terms s from) joins
        ∙ ap (given n x.terms piece) comes_to

    pub answer_of_lem : answer_of X c x.lent h x.terms ≡ given n x.terms piece to
    unfolding answer_of
    answer_of_lem =
        ap (λ (t : Bool). cond t (refused_at 9 0) (by c.standing)) (waits_sound P R n b j c x.lent w) ∙ ap by w.standing ∙ first_is
      where
        by : Standing → Fed D.Q
        by s = by_standing s (first_answer X c x.lent h x.terms) (again X c x.lent) (λ r. answers (judge.refused r))

    abbrev line_by : Profile → ℕ → Came → Fed D.Q → Line
    line_by Q k y f = record { profile = Q; limit = k; gathered = y.gathered; begins = y.begins; met = y.met; standing = standing_by f }

    after_is : x.after ≡ line_by P n to (given n x.terms piece to)
    unfolding line_after
    after_is =
        k.line
        ∙ ap (λ (t : Bool). cond t (line_by c.profile c.limit (comes (X.reader c.profile) c x.lent h) (first_answer X c x.lent h x.terms)) c) is_pending_lem
        ∙ ap (λ (Q : Profile). line_by Q c.limit (comes (X.reader Q) c x.lent h) (first_answer X c x.lent h x.terms)) w.profile
        ∙ ap (λ (k : ℕ). line_by P k from (first_answer X c x.lent h x.terms)) w.limit
        ∙ ap (λ (y : Came). line_by P n y (first_answer X c x.lent h x.terms)) comes_to
        ∙ ap (line_by P n to) first_is

    left_is : x.left ≡ over (take to.gathered piece) b
    unfolding buffer_after
    left_is =
        k.buffer
        ∙ ap (λ (t : Bool). cond t (over (take (comes (X.reader c.profile) c x.lent h).gathered (joined c x.lent h)) x.lent) x.lent) is_pending_lem
        ∙ ap (λ (Q : Profile). over (take (comes (X.reader Q) c x.lent h).gathered (joined c x.lent h)) x.lent) w.profile
        ∙ ap (λ (s : List ℕ). over (take from.gathered s) x.lent) joins
        ∙ ap (λ (y : Came). over (take y.gathered piece) x.lent) comes_to
        ∙ ap (over (take to.gathered piece)) w.left
        ∙ over_again j (take to.gathered piece) b (omega (arith, came_long P R n b j c x.lent w h, front_long P R n b j c x.lent w h))

    held_front : held x.after x.left ≡ take to.gathered piece
    held_front =
        ap (λ (l : Line). take l.gathered x.left) after_is
        ∙ ap (take to.gathered) left_is
        ∙ take_over (take to.gathered piece) b to.gathered (front_long P R n b j c x.lent w h)

    said_is : x.said ≡ says_of X piece (given n x.terms piece to)
    said_is =
        k.answer
        ∙ ap (says_of X (held x.after x.left)) answer_of_lem
        ∙ ap (λ (s : List ℕ). says_of X s (given n x.terms piece to)) held_front
        ∙ says_is n x.terms to.gathered piece to.how

    filled_is : x.filled ≡ filled_by X (given n x.terms piece to) x.table
    unfolding table_after
    filled_is =
        k.table
        ∙ ap (λ (t : Bool). cond t (filled_by X (first_answer X c x.lent h x.terms) x.table) x.table) is_pending_lem
        ∙ ap (λ (f : Fed D.Q). filled_by X f x.table) first_is

    -- it is told of the bytes joined
    call_told : Told X P n b (record { piece = piece; closed = h.closed }) x
    call_told =
        let a = answer_is n (length b) piece h.closed x.terms in
        let g = held_is R stops_in n (length b) piece h.closed in
        record {
          answer = said_is ∙ ap (says_of X piece) a;
          standing = ap (λ (l : Line). l.standing) after_is ∙ ap standing_by a;
          gathered = ap (λ (l : Line). l.gathered) after_is ∙ g;
          buffer = left_is ∙ ap (λ (i : ℕ). over (take i piece) b) g;
          table = filled_is ∙ ap (λ (f : Fed D.Q). filled_by X f x.table) a;
        }

    -- where there is no answer yet, the line waits, and stands for them
    call_waits : x.after.standing ≡ pending → Waits P R n b piece x.after x.left × (h.closed ≡ false)
    call_waits p = go (coming R n (length b) piece h.closed)
      where
        yet : to.how ≡ waiting
        yet = only_waiting n x.terms to.how (take to.gathered piece) (sym (ap (λ (z : Line). z.standing) after_is) ∙ p)

        -- a line that stands for them
        stays : (a m : ℕ) → to ≡ record { gathered = length piece; begins = a; met = m; how = waiting } → length piece ≤ n → length piece ≤ length b → a ≤ length piece
            → ((t : List ℕ) → going R m a 0 (drop a (piece ++ t)) ≡ going R 0 0 0 (piece ++ t)) → reach (length piece) (going R 0 0 0 piece) ≡ length piece
            → Waits P R n b piece x.after x.left
        stays a m y l s g r e =
            let i : to.gathered ≡ length piece = ap (λ (z : Came). z.gathered) y in
            let at : x.after.begins ≡ a = ap (λ (z : Line). z.begins) after_is ∙ ap (λ (z : Came). z.begins) y in
            record {
              profile = ap (λ (z : Line). z.profile) after_is;
              limit = ap (λ (z : Line). z.limit) after_is;
              gathered = ap (λ (z : Line). z.gathered) after_is ∙ i;
              begun = omega (arith, at, g);
              resumes = λ t.
                  ap (λ (z : Line). going R z.met z.begins 0 (drop z.begins (piece ++ t))) after_is
                  ∙ ap (λ (z : Came). going R z.met z.begins 0 (drop z.begins (piece ++ t))) y
                  ∙ r t;
              reaches = e;
              standing = p;
              within = l;
              fits = s;
              left = left_is ∙ ap (λ (k : ℕ). over (take k piece) b) i ∙ ap (λ (s : List ℕ). over s b) (take_all (length piece) piece (omega arith));
            }

        go : Coming R n (length b) piece h.closed → Waits P R n b piece x.after x.left × (h.closed ≡ false)
        go (deciding a m t e f) = absurd (not_waiting to.how yet (ap (λ (z : Came). z.how) (came_decided R n (length b) piece a m t e h.closed f)))
        go (following a m t e f l) =
            absurd (not_followed to.how yet (ap (λ (z : Came). z.how) (came_ended R n (length b) piece a m t e h.closed followed f (after_follows R n (length b) piece a m t e h.closed l))))
        go (closing a m t e f l u v g) =
            absurd (not_waiting to.how yet (ap (λ (z : Came). z.how) (came_ended R n (length b) piece a m t e h.closed pieces.decided f v)))
        go (resting a m t e f l s q) =
            let i = decides_fits R n (length b) piece a m t e in
            let all : take n piece ≡ piece = take_all n piece (omega arith) in
            let k : t ≡ length piece = omega (arith, l, ap length all, i.2) in
            let whole : fit n (length b) piece ≡ piece = ap (take (length b)) all ∙ take_all (length b) piece (omega (arith, i.0, k, (fit_short n (length b) piece).2)) in
            let d : going R 0 0 0 piece ≡ decides a m t = ap (going R 0 0 0) (sym whole) ∙ e in
            let y : to ≡ record { gathered = t; begins = a; met = m; how = waiting } =
            came_ended R n (length b) piece a m t e h.closed waiting f (ap (λ (c : Bool). how_after n (length (take n piece)) c t) q ∙ after_rests R n (length b) piece a m t e l s) in (
              stays a m (y ∙ ap (λ (z : ℕ). record { gathered = z; begins = a; met = m; how = waiting }) k) (omega arith)
                  (omega (arith, i.0, k, (fit_short n (length b) piece).2)) (omega (arith, i.1, k)) (resumes_decides R piece a m t d) (ap (reach (length piece)) d ∙ k),
              q,
            )
        go (lacking a m e l) =
            absurd (not_lacking to.how yet (ap (λ (z : Came). z.how) (came_waits R n (length b) piece h.closed a m no_room e (how_lacks R n (length b) piece h.closed l))))
        go (cutting a m e l u v f) =
            absurd (not_waiting to.how yet (ap (λ (z : Came). z.how) (came_waits R n (length b) piece h.closed a m pieces.decided e v)))
        go (lasting a m e l s q) =
            let whole : fit n (length b) piece ≡ piece = fit_all n (length b) piece l ∙ take_all n piece (omega arith) in
            let short : length piece ≤ length b = omega (arith, ap length whole, (fit_short n (length b) piece).2) in
            let y : to ≡ record { gathered = length (fit n (length b) piece); begins = a; met = m; how = waiting } =
            came_waits R n (length b) piece h.closed a m waiting e (ap (how_on n (length b) piece) q ∙ how_waits R n (length b) piece l s) in
            let d : going R 0 0 0 piece ≡ waits a m = ap (going R 0 0 0) (sym whole) ∙ e in (
              stays a m (y ∙ ap (λ (z : List ℕ). record { gathered = length z; begins = a; met = m; how = waiting }) whole) (omega arith) short
                  (omega (arith, (subst (Reaches 0 piece) d (going_reaches R 0 0 piece)).1)) (resumes_waits R piece a m d) (ap (reach (length piece)) d),
              q,
            )

    -- it counts no more bytes than the buffer or the limit
    call_sound : broken x.after x.left ≡ false
    unfolding broken
    call_sound =
        let g : x.after.gathered ≡ to.gathered = ap (λ (z : Line). z.gathered) after_is in
        let n' : x.after.limit ≡ n = ap (λ (z : Line). z.limit) after_is in
        let s = came_short R n (length b) piece h.closed in
        let f = fit_short n (length b) piece in
        let l : length x.left ≡ length b = ap length left_is ∙ length_over (take to.gathered piece) b (omega (arith, front_long P R n b j c x.lent w h, s, f.2)) in
        rw (le-ltb (length x.left) x.after.gathered (omega (arith, g, s, l, f.2)), le-ltb x.after.limit x.after.gathered (omega (arith, g, n', s, f.1)))

    -- .. and gives its answer again, whatever the next call brings
    call_again : (x.after.standing ≡ pending → ⊥) → (h' : Brought) (room : Terms) → answer_of X x.after x.left h' room ≡ given n x.terms piece to
    unfolding answer_of again
    call_again p h' room =
        ap (λ (t : Bool). cond t (refused_at 9 0) (by x.after.standing)) call_sound
        ∙ ap by (ap (λ (z : Line). z.standing) after_is)
        ∙ go (given n x.terms piece to) refl
      where
        by : Standing → Fed D.Q
        by s = by_standing s (first_answer X x.after x.left h' room) (again X x.after x.left) (λ r. answers (judge.refused r))

        part : List ℕ
        part = take to.gathered piece

        was : (w : How) (q : D.Q Sighting) → answer_after X P n w part x.terms ≡ answers (judge.accepted q) → read_as R D part (under n x.terms) ≡ judge.accepted q
        was waiting q e = let z : ◌≡◌ {A = ℕ} 0 1 = cc in absurd (omega arith)
        was no_room q e = let z : ◌≡◌ {A = ℕ} 0 1 = cc in absurd (omega arith)
        was followed q e = let z : ◌≡◌ {A = ℕ} 0 1 = cc in absurd (omega arith)
        was pieces.decided q e = cc

        reads : (q : D.Q Sighting) → given n x.terms piece to ≡ answers (judge.accepted q) → again X x.after x.left ≡ answers (judge.accepted q)
        reads q e =
            ap (λ (s : List ℕ). answers (read_by X.reader D s (record { profile = x.after.profile; limit = x.after.limit; terms = room_for x.after.gathered }))) held_front
            ∙ ap (λ (z : Line). answers (read_by X.reader D part (record { profile = z.profile; limit = z.limit; terms = room_for z.gathered }))) after_is
            ∙ ap answers (room_enough part n x.terms to.gathered q (omega (arith, front_long P R n b j c x.lent w h)) (was to.how q e))

        go : (f : Fed D.Q) → given n x.terms piece to ≡ f → by (standing_by f) ≡ f
        go none e = absurd (p (ap (λ (z : Line). z.standing) after_is ∙ ap standing_by e))
        go (answers (judge.refused r)) e = refl
        go (answers (judge.accepted q)) e = reads q e

  -- ---- a call on a line with an answer

  steady : (c : Line) (b : List ℕ) → (c.standing ≡ pending → ⊥) → (h h' : Brought) (room room' : Terms) → answer_of X c b h room ≡ answer_of X c b h' room'
  unfolding answer_of
  steady c b n h h' room room' = ap (cond (broken c b) (refused_at 9 0)) (go c.standing n)
    where
      go : (s : Standing) → (s ≡ pending → ⊥)
          → by_standing s (first_answer X c b h room) (again X c b) (λ r. answers (judge.refused r)) ≡ by_standing s (first_answer X c b h' room') (again X c b) (λ r. answers (judge.refused r))
      go pending n = absurd (n refl)
      go accepted n = refl
      go (refused r) n = refl

  module _ (x : Made X) (k : Meets X x) (p : x.before.standing ≡ pending → ⊥) where
    not_pending : is_pending x.before x.lent ≡ false
    unfolding is_pending
    not_pending = go x.before.standing p
      where
        go : (s : Standing) → (s ≡ pending → ⊥) → (not (broken x.before x.lent) && by_standing s true false (λ r. false)) ≡ false
        go pending n = absurd (n refl)
        go accepted n = and-false (not (broken x.before x.lent))
        go (refused r) n = and-false (not (broken x.before x.lent))

    quiet_line : x.after ≡ x.before
    unfolding line_after
    quiet_line = k.line ∙ rw not_pending

    quiet_buffer : x.left ≡ x.lent
    unfolding buffer_after
    quiet_buffer = k.buffer ∙ rw not_pending

    quiet_table : x.filled ≡ x.table
    unfolding table_after
    quiet_table = k.table ∙ rw not_pending

  -- ---- calls on one line

  standing_is : (s : Standing) → (s ≡ pending) ⊎ (s ≡ pending → ⊥)
  standing_is pending = inl refl
  standing_is accepted = inr (λ e. let z : ◌≡◌ {A = ℕ} 0 1 = cc in omega arith)
  standing_is (refused r) = inr (λ e. let z : ◌≡◌ {A = ℕ} 0 1 = cc in omega arith)

  module _ (n : ℕ) (b : List ℕ) where
    abbrev Stays : List (Made X) → Type 0
    Stays xs = Waits P R n b (joined_in xs).piece (line_in P n xs) (buffer_in b xs) × ((joined_in xs).closed ≡ false)

    -- the line that a call finds
    finds : (x : Made X) (xs : List (Made X)) → x.before ≡ line_in P n xs → x.lent ≡ buffer_in b xs → Waits P R n b (joined_in xs).piece (line_in P n xs) (buffer_in b xs)
        → Waits P R n b (joined_in xs).piece x.before x.lent
    finds x xs e q w =
        subst (λ (l : Line). Waits P R n b (joined_in xs).piece l x.lent) (sym e) (subst (λ (s : List ℕ). Waits P R n b (joined_in xs).piece (line_in P n xs) s) (sym q) w)

    line_waits : (xs : List (Made X)) → All xs → OnLine P n b xs → (line_in P n xs).standing ≡ pending → Stays xs
    line_waits [] m o p = (waits_start P R n b, refl)
    line_waits (x ∷ xs) m o p = go (standing_is x.before.standing) (line_waits xs m.1 o.2)
      where
        go : (x.before.standing ≡ pending) ⊎ (x.before.standing ≡ pending → ⊥) → ((line_in P n xs).standing ≡ pending → Stays xs) → Stays (x ∷ xs)
        go (inl e) ih =
            let i = ih (ap (λ (l : Line). l.standing) (sym o.0) ∙ e) in
            let y = call_waits n b (joined_in xs).piece x m.0 (finds x xs o.0 o.1 i.0) p in
            (y.0, ap (λ (t : Bool). t || x.brought.closed) i.1 ∙ y.1)
        go (inr q) ih = absurd (q (ap (λ (l : Line). l.standing) (sym (quiet_line x m.0 q)) ∙ p))

    line_first : (xs : List (Made X)) (x : Made X) → All (x ∷ xs) → OnLine P n b (x ∷ xs) → (line_in P n xs).standing ≡ pending → Told X P n b (joined_in (x ∷ xs)) x
    line_first xs x m o p =
        let i = line_waits xs m.1 o.2 p in
        subst (λ (t : Bool). Told X P n b (record { piece = (joined_in xs).piece ++ x.brought.piece; closed = t || x.brought.closed }) x) (sym i.1)
        (call_told n b (joined_in xs).piece x m.0 (finds x xs o.0 o.1 i.0))

    -- an answer is given again by the next call
    line_again : (xs : List (Made X)) (x : Made X) → All (x ∷ xs) → OnLine P n b (x ∷ xs) → (x.after.standing ≡ pending → ⊥) → (h : Brought) (room : Terms)
        → answer_of X x.after x.left h room ≡ answer_of X x.before x.lent x.brought x.terms
    line_again xs x m o p h room = go (standing_is x.before.standing)
      where
        go : (x.before.standing ≡ pending) ⊎ (x.before.standing ≡ pending → ⊥) → answer_of X x.after x.left h room ≡ answer_of X x.before x.lent x.brought x.terms
        go (inl e) =
            let w = finds x xs o.0 o.1 (line_waits xs m.1 o.2 (ap (λ (l : Line). l.standing) (sym o.0) ∙ e)).0 in
            call_again n b (joined_in xs).piece x m.0 w p h room ∙ sym (answer_of_lem n b (joined_in xs).piece x m.0 w)
        go (inr q) =
            ap (λ (l : Line). answer_of X l x.left h room) (quiet_line x m.0 q)
            ∙ ap (λ (s : List ℕ). answer_of X x.before s h room) (quiet_buffer x m.0 q)
            ∙ steady x.before x.lent q h x.brought room x.terms

    line_later : (xs : List (Made X)) (x y : Made X) → All (y ∷ x ∷ xs) → OnLine P n b (y ∷ x ∷ xs) → (x.after.standing ≡ pending → ⊥) → Repeated X x y
    line_later xs x y m o p =
        let q : y.before.standing ≡ pending → ⊥ = λ e. p (ap (λ (l : Line). l.standing) (sym o.0) ∙ e) in
        let line : y.after ≡ x.after = quiet_line y m.0 q ∙ o.0 in
        let buffer : y.left ≡ x.left = quiet_buffer y m.0 q ∙ o.1 in
        record {
          answer =
              m.0.answer
              ∙ ap (λ (l : Line). says_of X (held l y.left) (answer_of X y.before y.lent y.brought y.terms)) line
              ∙ ap (λ (s : List ℕ). says_of X (held x.after s) (answer_of X y.before y.lent y.brought y.terms)) buffer
              ∙ ap (λ (l : Line). says_of X (held x.after x.left) (answer_of X l y.lent y.brought y.terms)) o.0
              ∙ ap (λ (s : List ℕ). says_of X (held x.after x.left) (answer_of X x.after s y.brought y.terms)) o.1
              ∙ ap (says_of X (held x.after x.left)) (line_again xs x m.1 o.2 p y.brought y.terms)
              ∙ sym m.1.0.answer;
          line = line;
          buffer = buffer;
          table = quiet_table y m.0 q;
        }

  -- ---- bytes more after an answer

  module _ (n room : ℕ) (j t : List ℕ) where
    fit_more : fit n room (j ++ t) ≡ fit n room j ++ drop (length (fit n room j)) (fit n room (j ++ t))
    fit_more =
        let i = length (fit n room j) in
        let l : i ≤ length (fit n room (j ++ t)) =
        omega (arith, length-take room (take n j), length-take n j, length-take room (take n (j ++ t)), length-take n (j ++ t), length-append j t) in
        sym (take-append-drop i (fit n room (j ++ t)))
        ∙ ap (λ (s : List ℕ). s ++ drop i (fit n room (j ++ t)))
        (fit_part n room (j ++ t) i l ∙ take-append-le i j t (fit_short n room j).0 ∙ fit_front n room j)

    fit_same : length (fit n room (j ++ t)) ≤ length (fit n room j) → fit n room (j ++ t) ≡ fit n room j
    fit_same l =
        let i = length (fit n room j) in
        let k : i ≤ length (fit n room (j ++ t)) =
        omega (arith, length-take room (take n j), length-take n j, length-take room (take n (j ++ t)), length-take n (j ++ t), length-append j t) in
        sym (take_all i (fit n room (j ++ t)) l) ∙ fit_part n room (j ++ t) i k ∙ take-append-le i j t (fit_short n room j).0 ∙ fit_front n room j

    abbrev Settled : Bool → Terms → Type 0
    Settled closed cells =
        (answer_on X P n room (record { piece = j ++ t; closed = closed }) cells ≡ answer_on X P n room (record { piece = j; closed = false }) cells)
        × (held_on R n room (j ++ t) ≡ held_on R n room j)

    came_settled : (closed : Bool) (cells : Terms) → came_on R n room (j ++ t) closed ≡ came_on R n room j false → Settled closed cells
    came_settled closed cells e =
        let g = (came_on R n room j false).gathered in
        let l : g ≤ length j = omega (arith, came_short R n room j false, (fit_short n room j).0) in (
          sym (answer_is n room (j ++ t) closed cells)
              ∙ ap (given n cells (j ++ t)) e
              ∙ ap (λ (s : List ℕ). answer_after X P n (came_on R n room j false).how s cells) (take-append-le g j t l)
              ∙ answer_is n room j false cells,
          sym (held_is R stops_in n room (j ++ t) closed) ∙ ap (λ (z : Came). z.gathered) e ∙ held_is R stops_in n room j false,
        )

    settles : (closed : Bool) (cells : Terms) → (answer_on X P n room (record { piece = j; closed = false }) cells ≡ none → ⊥) → Settled closed cells
    settles closed cells p = go (coming R n room j false)
      where
        -- the bytes that fit are the same
        same : (a m : ℕ) (w : How) → going R 0 0 0 (fit n room j) ≡ waits a m → fit n room (j ++ t) ≡ fit n room j → how_on n room (j ++ t) closed ≡ w → how_on n room j false ≡ w → Settled closed cells
        same a m w e f v u =
            came_settled closed cells
            (came_waits R n room (j ++ t) closed a m w (ap (going R 0 0 0) f ∙ e) v
            ∙ ap (λ (s : List ℕ). record { gathered = length s; begins = a; met = m; how = w }) f
            ∙ sym (came_waits R n room j false a m w e u))

        -- a record that decides does so with more bytes behind it
        more : (a m to : ℕ) → going R 0 0 0 (fit n room j) ≡ decides a m to → going R 0 0 0 (fit n room (j ++ t)) ≡ decides a m to
        more a m to e = ap (going R 0 0 0) fit_more ∙ going_decides_more R (drop (length (fit n room j)) (fit n room (j ++ t))) 0 0 (fit n room j) a m to e

        closes : (a m to : ℕ) → going R 0 0 0 (fit n room j) ≡ decides a m to → closes_at R a (fit n room (j ++ t)) ≡ closes_at R a (fit n room j)
        closes a m to e = ap (closes_at R a) fit_more ∙ closes_more R (fit n room j) (drop (length (fit n room j)) (fit n room (j ++ t))) a m to e

        go : Coming R n room j false → Settled closed cells
        go (deciding a m to e f) =
            came_settled closed cells
            (came_decided R n room (j ++ t) a m to (more a m to e) closed (closes a m to e ∙ f) ∙ sym (came_decided R n room j a m to e false f))
        go (following a m to e f l) =
            came_settled closed cells
            (came_ended R n room (j ++ t) a m to (more a m to e) closed followed (closes a m to e ∙ f)
            (after_follows R n room (j ++ t) a m to (more a m to e) closed (omega (arith, l, length-take n j, length-take n (j ++ t), length-append j t)))
            ∙ sym (came_ended R n room j a m to e false followed f (after_follows R n room j a m to e false l)))
        go (closing a m to e f l u v k) =
            let h = k refl in
            let s : take n (j ++ t) ≡ take n j = take-append-le n j t h in
            came_settled closed cells
            (came_ended R n room (j ++ t) a m to (more a m to e) closed pieces.decided (closes a m to e ∙ f)
            (after_limited R n room (j ++ t) a m to (more a m to e) closed (omega (arith, l, ap length s)) (omega (arith, h, length-append j t)))
            ∙ sym (came_ended R n room j a m to e false pieces.decided f v))
        go (resting a m to e f l h q) =
            absurd (p (sym (answer_is n room j false cells) ∙ ap (given n cells j) (came_ended R n room j a m to e false waiting f (after_rests R n room j a m to e l h))))
        go (lacking a m e l) =
            same a m no_room e
            (fit_same (omega (arith, (fit_short n room (j ++ t)).2, length-take room (take n j))))
            (how_lacks R n room (j ++ t) closed (omega (arith, l, length-take n j, length-take n (j ++ t), length-append j t)))
            (how_lacks R n room j false l)
        go (cutting a m e l u v f) =
            let h = f refl in
            let k : take n (j ++ t) ≡ take n j = take-append-le n j t h in
            same a m pieces.decided e (ap (take room) k)
            (how_limited R n room (j ++ t) closed (omega (arith, l, ap length k)) (omega (arith, h, length-append j t))) v
        go (lasting a m e l h q) =
            absurd (p (sym (answer_is n room j false cells) ∙ ap (given n cells j) (came_waits R n room j false a m waiting e (how_waits R n room j l h))))

  -- ---- after any calls

  -- an answer is told of more bytes as of those that gave it
  answer_front : (n room : ℕ) (j t : List ℕ) (closed : Bool) (cells : Terms) → says_of X (j ++ t) (answer_on X P n room (record { piece = j; closed = closed }) cells)
      ≡ says_of X j (answer_on X P n room (record { piece = j; closed = closed }) cells)
  unfolding answer_on
  answer_front n room j t closed cells = go (lacks_room R n room j) (undecided R n (record { piece = j; closed = closed }))
    where
      go : (a b : Bool) → says_of X (j ++ t) (cond a (refused_at 16 room) (cond b none (answers (read_as R D j (under n cells)))))
          ≡ says_of X j (cond a (refused_at 16 room) (cond b none (answers (read_as R D j (under n cells)))))
      go true b = ap says (L.refuses (j ++ t) j _)
      go false true = refl
      go false false = ap says (L.tells j t (under n cells))

  held_short : (n room : ℕ) (j : List ℕ) → held_on R n room j ≤ length j
  held_short n room j = omega (arith, held_is R stops_in n room j false, came_short R n room j false, (fit_short n room j).0)

  module _ (n : ℕ) (b : List ℕ) where
    abbrev Ever : Made X → List (Made X) → Type 0
    Ever x xs = Stands X P n b (joined_in (x ∷ xs)) (terms_in x xs) x

    -- the first call, or one that finds no answer
    terms_first : (x : Made X) (xs : List (Made X)) → (line_in P n xs).standing ≡ pending → terms_in x xs ≡ x.terms
    terms_first x [] p = refl
    terms_first x (y ∷ ys) p = rw p

    ever_first : (xs : List (Made X)) (x : Made X) → (line_in P n xs).standing ≡ pending → Told X P n b (joined_in (x ∷ xs)) x → Ever x xs
    ever_first xs x p t = rw (terms_first x xs p) (record { answer = t.answer; standing = t.standing; gathered = t.gathered; buffer = t.buffer })

    -- one that finds an answer
    terms_later : (x y : Made X) (ys : List (Made X)) → (y.after.standing ≡ pending → ⊥) → terms_in x (y ∷ ys) ≡ terms_in y ys
    terms_later x y ys p = go y.after.standing p
      where
        go : (s : Standing) → (s ≡ pending → ⊥) → by_standing s x.terms (terms_in y ys) (λ r. terms_in y ys) ≡ terms_in y ys
        go pending q = absurd (q refl)
        go accepted q = refl
        go (refused r) q = refl

    module _ (ys : List (Made X)) (x y : Made X) (r : Repeated X y x) (p : y.after.standing ≡ pending → ⊥) (c : (joined_in (y ∷ ys)).closed ≡ false) (e : Ever y ys) where
      abbrev j : List ℕ
      j = (joined_in (y ∷ ys)).piece

      abbrev t : List ℕ
      t = x.brought.piece

      abbrev cells : Terms
      cells = terms_in y ys

      abbrev before : Fed D.Q
      before = answer_on X P n (length b) (joined_in (y ∷ ys)) cells

      abbrev after : Fed D.Q
      after = answer_on X P n (length b) (joined_in (x ∷ y ∷ ys)) cells

      unclosed : before ≡ answer_on X P n (length b) (record { piece = j; closed = false }) cells
      unclosed = ap (λ (d : Bool). answer_on X P n (length b) (record { piece = j; closed = d }) cells) c

      both : Settled n (length b) j t (joined_in (x ∷ y ∷ ys)).closed cells
      both = settles n (length b) j t (joined_in (x ∷ y ∷ ys)).closed cells (λ q. p (e.standing ∙ ap standing_by (unclosed ∙ q)))

      same : before ≡ after
      same = unclosed ∙ sym both.0

      ever_later : Ever x (y ∷ ys)
      ever_later =
          rw (terms_later x y ys p) (record {
            answer = r.answer ∙ e.answer ∙ sym (answer_front n (length b) j t (joined_in (y ∷ ys)).closed cells) ∙ ap (says_of X (j ++ t)) same;
            standing = ap (λ (l : Line). l.standing) r.line ∙ e.standing ∙ ap standing_by same;
            gathered = ap (λ (l : Line). l.gathered) r.line ∙ e.gathered ∙ sym both.1;
            buffer =
                r.buffer
                ∙ e.buffer
                ∙ ap (λ (s : List ℕ). over s b) (sym (take-append-le (held_on R n (length b) j) j t (held_short n (length b) j)))
                ∙ ap (λ (i : ℕ). over (take i (j ++ t)) b) (sym both.1);
          })

    line_ever : (xs : List (Made X)) (x : Made X) → All (x ∷ xs) → OnLine P n b (x ∷ xs) → (joined_in xs).closed ≡ false → Ever x xs
    line_ever [] x m o c = ever_first [] x refl (line_first n b [] x m o refl)
    line_ever (y ∷ ys) x m o c = go (standing_is y.after.standing) (line_ever ys y m.1 o.2)
      where
        first_false : (a d : Bool) → (a || d) ≡ false → a ≡ false
        first_false false d q = refl
        first_false true d q = q

        go : (y.after.standing ≡ pending) ⊎ (y.after.standing ≡ pending → ⊥) → ((joined_in ys).closed ≡ false → Ever y ys) → Ever x (y ∷ ys)
        go (inl p) ih = ever_first (y ∷ ys) x p (line_first n b (y ∷ ys) x m o p)
        go (inr p) ih = ever_later ys x y (line_later n b ys y x m o p) p c (ih (first_false (joined_in ys).closed y.brought.closed c))

-- ---- of every function whose calls meet the definition

module _ (X : Read) (L : Local X) {S : Type 0} (F : Feeder X S) (meets : (c : F.Call) → Meets X (F.made c)) where
  all_meet : (xs : List F.Call) → All (made_by F xs)
  all_meet [] = tt
  all_meet (x ∷ xs) = (meets x, all_meet xs)

  pub however_cut : HoweverCut F
  however_cut = record {
    first = λ P n b xs x o p. line_first X L P n b (made_by F xs) (F.made x) (all_meet (x ∷ xs)) o p;
    ever = λ P n b xs x o c. line_ever X L P n b (made_by F xs) (F.made x) (all_meet (x ∷ xs)) o c;
    later = λ P n b xs x y o p. line_later X L P n b (made_by F xs) (F.made x) (F.made y) (all_meet (y ∷ x ∷ xs)) o p;
    settled = λ P n b j t closed cells p. settles X L P n (length b) j t closed cells p;
  }
