-- What joined bytes come to, told of them alone, for a reader whose walk stops where `going` comes to: one of seven ways, each with what it leaves.
-- Assumes nothing.
use mathlib.Core.Path.{◌≡◌, refl, sym, ap, ◌∙◌, subst}
use mathlib.Core.List.{List, [], ◌∷◌, ◌++◌}
use mathlib.Core.Bool.{Bool, true, false, cond, not, ◌&&◌, ◌||◌, and-true, and-false, or-true, true≢false}
use Prim.Native.Nat.{ℕ, zero, suc, ◌+◌, ◌-◌, ◌≤◌, ◌<◌}
use native.Mathlib.Omega.{arith}
use lib.ListN.{length, take, drop, length-take, length-drop, take-append-drop}
use lib.Seq.{drop-append-le, length-take-le, take_all, take-take}
use lib.Dec.{leb, ltb, eqb}
use borrow.Author.Tests.{ltb-true, ltb-false, lt-ltb, le-ltb, leb-true, leb-false, eq-eqb, ne_eqb}
use Rattle.record.specs.Record.{size}
use Rattle.walk.specs.Walk.{Reader, Sighting, Outcome, stopped, ended, walk}
use Rattle.walk.specs.Met.{ends}
use Rattle.walk.specs.Found.{place_of}
use Rattle.walk.proofs.Passing.{reached}
use Rattle.walk.proofs.Chunks.{size_append}
use Rattle.pieces.specs.Pieces as pieces
use Rattle.pieces.specs.Pieces.{Going, waits, decides, whole, going, How, waiting, no_room, followed, Came, came_to, how_after, is_decided, after_end}
use Rattle.promises.specs.Pieces.{decided, through, lacks_room, ends_at, lasts, undecided, held_on}
use Rattle.pieces.proofs.Going.{long_whole, by_records, Reaches, going_reaches, going_waits, going_waits_more, going_decides_more, decides_again}
use Rattle.pieces.proofs.Stopping.{Stops, ends_more, partial_ends}
use Rattle.pieces.proofs.Inside.{after_gathered}
use Rattle.pieces.proofs.Ending.{after_other}

-- ---- fronts of a list

pub take_front : (i : ℕ) (l : List ℕ) → take (length (take i l)) l ≡ take i l
take_front zero l = refl
take_front (suc i) [] = refl
take_front (suc i) (x ∷ l) = ap (λ (t : List ℕ). x ∷ t) (take_front i l)

-- the bytes inside a limit for which there is room
abbrev pub fit : ℕ → ℕ → List ℕ → List ℕ
fit n room j = take room (take n j)

module _ (n room : ℕ) (j : List ℕ) where
  pub fit_short : (length (fit n room j) ≤ length j) × (length (fit n room j) ≤ n) × (length (fit n room j) ≤ room)
  fit_short =
      (omega (arith, length-take room (take n j), length-take n j), omega (arith, length-take room (take n j), length-take n j), omega (arith, length-take room (take n j)))

  pub fit_front : take (length (fit n room j)) j ≡ fit n room j
  fit_front = sym (take-take (length (fit n room j)) n j fit_short.1) ∙ take_front room (take n j)

  -- a front of them is a front of all
  pub fit_part : (i : ℕ) → i ≤ length (fit n room j) → take i (fit n room j) ≡ take i j
  fit_part i l = ap (take i) (sym fit_front) ∙ take-take i (length (fit n room j)) j l

  -- .. and there are no others where all inside the limit have room
  pub fit_all : length (take n j) ≤ room → fit n room j ≡ take n j
  fit_all l = take_all room (take n j) l

pub tests_same : (a b b' : ℕ) → (a < b → a < b') → (b ≤ a → b' ≤ a) → ltb a b ≡ ltb a b'
tests_same a b b' f g = go (ltb a b) refl
  where
    go : (t : Bool) → ltb a b ≡ t → t ≡ ltb a b'
    go true e = sym (lt-ltb a b' (f (ltb-true a b e)))
    go false e = sym (le-ltb a b' (g (ltb-false a b e)))

-- ---- how far it comes

abbrev pub is_decides : Going → Bool
is_decides (waits a m) = false
is_decides (decides a m to) = true

-- of so many bytes
abbrev pub reach : ℕ → Going → ℕ
reach n (waits a m) = n
reach n (decides a m to) = to

-- a record that decides reaches through the first one, at least
abbrev Far : ℕ → List ℕ → Going → Type 0
Far at s (waits a m) = Unit {0}
Far at s (decides a m to) = at + (4 + size s) ≤ to

going_far : (R : Reader) (met at : ℕ) (s : List ℕ) → Far at s (going R met at 0 s)
going_far R =
    by_records R (λ met at s g. Far at s g) (λ met at s w. tt) (λ met at s w p. omega arith)
    (λ met at m s g w p i. on at s g i)
  where
    on : (at : ℕ) (s : List ℕ) (g : Going) → Far (at + (4 + size s)) (drop (4 + size s) s) g → Far at s g
    on at s (waits a m) i = tt
    on at s (decides a m to) i = omega arith

-- where the bytes s do not decide, no record decides that ends with them
pub past : (R : Reader) (s t : List ℕ) (a m b k to : ℕ) → going R 0 0 0 s ≡ waits a m → going R 0 0 0 (s ++ t) ≡ decides b k to → length s < to
past R s t a m b k to e q = go (leb (a + 4) (length s)) refl
  where
    zero_off : a - 0 ≡ a
    zero_off = omega arith

    partial : whole (drop a s) ≡ false
    partial = rw zero_off at (subst (Reaches 0 s) e (going_reaches R 0 0 s)).2

    next : going R m a 0 (drop a (s ++ t)) ≡ decides b k to
    next = sym (rw zero_off at (going_waits_more R t 0 0 s a m e)) ∙ q

    far : a + (4 + size (drop a (s ++ t))) ≤ to
    far = subst (Far a (drop a (s ++ t))) next (going_far R m a (drop a (s ++ t)))

    short : (n : ℕ) → size (drop a s) ≡ n → a + 4 ≤ length s → length s < a + (4 + n)
    short n z l = by (leb (4 + size (drop a s)) (length (drop a s))) refl
      where
        by : (t : Bool) → leb (4 + size (drop a s)) (length (drop a s)) ≡ t → length s < a + (4 + n)
        by true h = absurd (true≢false (sym (long_whole (drop a s) (leb-true (4 + size (drop a s)) (length (drop a s)) h)) ∙ partial))
        by false h = omega (arith, leb-false (4 + size (drop a s)) (length (drop a s)) h, length-drop a s, z)

    go : (t : Bool) → leb (a + 4) (length s) ≡ t → length s < to
    go true h =
        let l = leb-true (a + 4) (length s) h in
        let z : size (drop a (s ++ t)) ≡ size (drop a s) = ap size (drop-append-le a s t (omega arith)) ∙ size_append (drop a s) t (omega (arith, length-drop a s)) in
        omega (arith, far, short (size (drop a (s ++ t))) (sym z) l)
    go false h = omega (arith, far, leb-false (a + 4) (length s) h)

-- a record that decides is whole
decides_whole : (R : Reader) (s : List ℕ) (a m to : ℕ) → going R 0 0 0 s ≡ decides a m to → whole (drop a s) ≡ true
decides_whole R s a m to e = go (whole (drop a s)) refl
  where
    go : (t : Bool) → whole (drop a s) ≡ t → whole (drop a s) ≡ true
    go true h = h
    go false h =
        let z : is_decides (decides a m to) ≡ false = ap is_decides (sym (decides_again R s a m to e) ∙ going_waits R m a (drop a s) h) in
        absurd (true≢false z)

-- ---- the ways

unfoldable pub how_on : ℕ → ℕ → List ℕ → Bool → How
how_on n room j closed = cond (ltb room (length (take n j))) no_room (cond (eqb (length (take n j)) n || closed) pieces.decided waiting)

-- what the bytes j come to under the limit n and with so much room, by their records alone ..
unfoldable pub gathered_on : Reader → ℕ → ℕ → List ℕ → Bool → Came
gathered_on R n room j closed = came_to (how_on n room j closed) (length (fit n room j)) (going R 0 0 0 (fit n room j))

-- .. and where nothing may follow the end record
unfoldable pub came_on : Reader → ℕ → ℕ → List ℕ → Bool → Came
came_on R n room j closed = after_end R n (length (take n j)) closed (take (gathered_on R n room j closed).gathered j) (gathered_on R n room j closed)

-- the record at a place ends the message, and nothing may follow
unfoldable pub closes_at : Reader → ℕ → List ℕ → Bool
closes_at R a s = R.final && ends R (drop a s)

-- .. with more bytes behind it as well
pub closes_more : (R : Reader) (s t : List ℕ) (a m to : ℕ) → going R 0 0 0 s ≡ decides a m to → closes_at R a (s ++ t) ≡ closes_at R a s
unfolding closes_at
closes_more R s t a m to e =
    let r = subst (Reaches 0 s) e (going_reaches R 0 0 s) in
    ap (λ (x : Bool). R.final && x)
    (ap (ends R) (drop-append-le a s t (omega (arith, r.1, r.2))) ∙ ends_more R (drop a s) t (decides_whole R s a m to e))

pub data Coming (R : Reader) (n room : ℕ) (j : List ℕ) (closed : Bool) : Type 0 where
  -- a whole record decides
  deciding : (a m to : ℕ) → going R 0 0 0 (fit n room j) ≡ decides a m to → closes_at R a (fit n room j) ≡ false → Coming R n room j closed
  -- it is an end record behind which nothing may follow, and a byte does
  following : (a m to : ℕ) → going R 0 0 0 (fit n room j) ≡ decides a m to → closes_at R a (fit n room j) ≡ true → to < length (take n j) → Coming R n room j closed
  -- none does, and the limit or the close has come
  closing : (a m to : ℕ) → going R 0 0 0 (fit n room j) ≡ decides a m to → closes_at R a (fit n room j) ≡ true → length (take n j) ≤ to
      → (undecided R n (record { piece = j; closed = closed }) ≡ false) → how_after n (length (take n j)) closed to ≡ pieces.decided → (closed ≡ false → n ≤ length j) → Coming R n room j closed
  -- none does, and one may
  resting : (a m to : ℕ) → going R 0 0 0 (fit n room j) ≡ decides a m to → closes_at R a (fit n room j) ≡ true → length (take n j) ≤ to → length j < n → closed ≡ false → Coming R n room j closed
  -- no record decides: a byte has no room
  lacking : (a m : ℕ) → going R 0 0 0 (fit n room j) ≡ waits a m → room < length (take n j) → Coming R n room j closed
  -- the limit or the close cuts the last
  cutting : (a m : ℕ) → going R 0 0 0 (fit n room j) ≡ waits a m → length (take n j) ≤ room → (undecided R n (record { piece = j; closed = closed }) ≡ false) → how_on n room j closed ≡ pieces.decided
      → (closed ≡ false → n ≤ length j) → Coming R n room j closed
  -- it may go on
  lasting : (a m : ℕ) → going R 0 0 0 (fit n room j) ≡ waits a m → length (take n j) ≤ room → length j < n → closed ≡ false → Coming R n room j closed

module _ (R : Reader) (n room : ℕ) (j : List ℕ) where
  -- the limit has come
  limit_decided : (closed : Bool) → n ≤ length j → undecided R n (record { piece = j; closed = closed }) ≡ false
  unfolding undecided
  limit_decided closed h = rw (le-ltb (length j) n h, and-false)

  cutting_limit : (closed : Bool) (a m : ℕ) → going R 0 0 0 (fit n room j) ≡ waits a m → length (take n j) ≤ room → n ≤ length j → Coming R n room j closed
  unfolding how_on
  cutting_limit closed a m e l h =
      cutting a m e l (limit_decided closed h) (rw (le-ltb room (length (take n j)) l, eq-eqb (length (take n j)) n (length-take-le n j h))) (λ q. h)

  cutting_close : (a m : ℕ) → going R 0 0 0 (fit n room j) ≡ waits a m → length (take n j) ≤ room → Coming R n room j true
  unfolding undecided how_on
  cutting_close a m e l =
      cutting a m e l refl (rw (le-ltb room (length (take n j)) l, or-true)) (λ q. absurd (true≢false q))

  -- a record that decides reaches no further than what fits, and that no further than the limit
  pub decides_fits : (a m to : ℕ) → going R 0 0 0 (fit n room j) ≡ decides a m to → (to ≤ length (fit n room j)) × (a ≤ to) × (to ≤ length (take n j))
  decides_fits a m to e =
      let r = subst (Reaches 0 (fit n room j)) e (going_reaches R 0 0 (fit n room j)) in
      (omega (arith, r.2), omega (arith, r.1), omega (arith, r.2, length-take room (take n j)))

  closing_limit : (closed : Bool) (a m to : ℕ) → going R 0 0 0 (fit n room j) ≡ decides a m to → closes_at R a (fit n room j) ≡ true → length (take n j) ≤ to → n ≤ length j → Coming R n room j closed
  unfolding how_after
  closing_limit closed a m to e f l h =
      let t : length (take n j) ≡ n = length-take-le n j h in
      let z : to ≡ n = omega (arith, l, t, (decides_fits a m to e).2) in
      closing a m to e f l (limit_decided closed h) (rw (le-ltb to (length (take n j)) l, eq-eqb to n z)) (λ q. h)

  closing_close : (a m to : ℕ) → going R 0 0 0 (fit n room j) ≡ decides a m to → closes_at R a (fit n room j) ≡ true → length (take n j) ≤ to → Coming R n room j true
  unfolding undecided how_after
  closing_close a m to e f l = closing a m to e f l refl (rw (le-ltb to (length (take n j)) l, or-true)) (λ q. absurd (true≢false q))

  pub coming : (closed : Bool) → Coming R n room j closed
  coming closed = go (going R 0 0 0 (fit n room j)) refl
    where
      by_close : (c : Bool) (a m : ℕ) → going R 0 0 0 (fit n room j) ≡ waits a m → length (take n j) ≤ room → length j < n → Coming R n room j c
      by_close true a m e l h = cutting_close a m e l
      by_close false a m e l h = lasting a m e l h refl

      by_limit : (t : Bool) → ltb (length j) n ≡ t → (a m : ℕ) → going R 0 0 0 (fit n room j) ≡ waits a m → length (take n j) ≤ room → Coming R n room j closed
      by_limit true h a m e l = by_close closed a m e l (ltb-true (length j) n h)
      by_limit false h a m e l = cutting_limit closed a m e l (ltb-false (length j) n h)

      by_room : (t : Bool) → ltb room (length (take n j)) ≡ t → (a m : ℕ) → going R 0 0 0 (fit n room j) ≡ waits a m → Coming R n room j closed
      by_room true h a m e = lacking a m e (ltb-true room (length (take n j)) h)
      by_room false h a m e = by_limit (ltb (length j) n) refl a m e (ltb-false room (length (take n j)) h)

      end_close : (c : Bool) (a m to : ℕ) → going R 0 0 0 (fit n room j) ≡ decides a m to → closes_at R a (fit n room j) ≡ true → length (take n j) ≤ to → length j < n → Coming R n room j c
      end_close true a m to e f l h = closing_close a m to e f l
      end_close false a m to e f l h = resting a m to e f l h refl

      end_limit : (t : Bool) → ltb (length j) n ≡ t → (a m to : ℕ) → going R 0 0 0 (fit n room j) ≡ decides a m to → closes_at R a (fit n room j) ≡ true → length (take n j) ≤ to → Coming R n room j closed
      end_limit true h a m to e f l = end_close closed a m to e f l (ltb-true (length j) n h)
      end_limit false h a m to e f l = closing_limit closed a m to e f l (ltb-false (length j) n h)

      by_byte : (t : Bool) (a m to : ℕ) → ltb to (length (take n j)) ≡ t → going R 0 0 0 (fit n room j) ≡ decides a m to → closes_at R a (fit n room j) ≡ true → Coming R n room j closed
      by_byte true a m to h e f = following a m to e f (ltb-true to (length (take n j)) h)
      by_byte false a m to h e f = end_limit (ltb (length j) n) refl a m to e f (ltb-false to (length (take n j)) h)

      by_end : (t : Bool) (a m to : ℕ) → closes_at R a (fit n room j) ≡ t → going R 0 0 0 (fit n room j) ≡ decides a m to → Coming R n room j closed
      by_end true a m to f e = by_byte (ltb to (length (take n j))) a m to refl e f
      by_end false a m to f e = deciding a m to e f

      go : (g : Going) → going R 0 0 0 (fit n room j) ≡ g → Coming R n room j closed
      go (waits a m) e = by_room (ltb room (length (take n j))) refl a m e
      go (decides a m to) e = by_end (closes_at R a (fit n room j)) a m to refl e

  -- ---- what each leaves

  module _ (a m to : ℕ) (e : going R 0 0 0 (fit n room j) ≡ decides a m to) where
    pub front_long : length (take to j) ≡ to
    front_long = length-take-le to j (omega (arith, (decides_fits a m to e).0, (fit_short n room j).0))

    pub front_fit : take to j ++ drop to (fit n room j) ≡ fit n room j
    front_fit = ap (λ (s : List ℕ). s ++ drop to (fit n room j)) (sym (fit_part n room j to (decides_fits a m to e).0)) ∙ take-append-drop to (fit n room j)

    -- the bytes through the record that decides decide the same
    pub front_decides : going R 0 0 0 (take to j) ≡ decides a m to
    front_decides = go (going R 0 0 0 (take to j)) refl
      where
        go : (g : Going) → going R 0 0 0 (take to j) ≡ g → going R 0 0 0 (take to j) ≡ decides a m to
        go (waits a' m') q = absurd (let z : ⊥ = omega (arith, front_long, past R (take to j) (drop to (fit n room j)) a' m' a m to q (ap (going R 0 0 0) front_fit ∙ e)) in z)
        go (decides a' m' to') q = q ∙ sym (going_decides_more R (drop to (fit n room j)) 0 0 (take to j) a' m' to' q) ∙ ap (going R 0 0 0) front_fit ∙ e

    front_ends : closes_at R a (take to j) ≡ closes_at R a (fit n room j)
    front_ends = sym (closes_more R (take to j) (drop to (fit n room j)) a m to front_decides) ∙ ap (closes_at R a) front_fit

    came_after : (closed : Bool) → came_on R n room j closed ≡ after_end R n (length (take n j)) closed (take to j) (record { gathered = to; begins = a; met = m; how = pieces.decided })
    unfolding came_on gathered_on
    came_after closed =
        ap (λ (x : Came). after_end R n (length (take n j)) closed (take x.gathered j) x) (ap (came_to (how_on n room j closed) (length (fit n room j))) e)

    after_by : (closed t : Bool) → closes_at R a (take to j) ≡ t → after_end R n (length (take n j)) closed (take to j) (record { gathered = to; begins = a; met = m; how = pieces.decided })
        ≡ cond t (record { gathered = to; begins = a; met = m; how = how_after n (length (take n j)) closed to }) (record { gathered = to; begins = a; met = m; how = pieces.decided })
    unfolding after_end closes_at
    after_by closed t q = go R.final (ends R (drop a (take to j))) q
      where
        to_end : Came
        to_end = record { gathered = to; begins = a; met = m; how = how_after n (length (take n j)) closed to }

        as_it_is : Came
        as_it_is = record { gathered = to; begins = a; met = m; how = pieces.decided }

        go : (f x : Bool) → (f && x) ≡ t → cond (f && true && x) to_end as_it_is ≡ cond t to_end as_it_is
        go true x h = ap (λ (y : Bool). cond y to_end as_it_is) h
        go false x h = ap (λ (y : Bool). cond y to_end as_it_is) h

    pub came_decided : (closed : Bool) → closes_at R a (fit n room j) ≡ false → came_on R n room j closed ≡ record { gathered = to; begins = a; met = m; how = pieces.decided }
    came_decided closed f = came_after closed ∙ after_by closed false (front_ends ∙ f)

    pub came_ended : (closed : Bool) (w : How) → closes_at R a (fit n room j) ≡ true → how_after n (length (take n j)) closed to ≡ w
        → came_on R n room j closed ≡ record { gathered = to; begins = a; met = m; how = w }
    came_ended closed w f h =
        came_after closed ∙ after_by closed true (front_ends ∙ f) ∙ ap (λ (x : How). record { gathered = to; begins = a; met = m; how = x }) h

    pub after_follows : (closed : Bool) → to < length (take n j) → how_after n (length (take n j)) closed to ≡ followed
    unfolding how_after
    after_follows closed l = rw (lt-ltb to (length (take n j)) l)

    pub after_limited : (closed : Bool) → length (take n j) ≤ to → n ≤ length j → how_after n (length (take n j)) closed to ≡ pieces.decided
    unfolding how_after
    after_limited closed l h =
        let z : to ≡ n = omega (arith, l, length-take-le n j h, (decides_fits a m to e).2) in
        rw (le-ltb to (length (take n j)) l, eq-eqb to n z)

    pub after_rests : length (take n j) ≤ to → length j < n → how_after n (length (take n j)) false to ≡ waiting
    unfolding how_after
    after_rests l h = rw (le-ltb to (length (take n j)) l, ne_eqb to n (λ q. omega (arith, length-take n j, (decides_fits a m to e).2)))

  pub came_waits : (closed : Bool) (a m : ℕ) (w : How) → going R 0 0 0 (fit n room j) ≡ waits a m → how_on n room j closed ≡ w
      → came_on R n room j closed ≡ record { gathered = length (fit n room j); begins = a; met = m; how = w }
  unfolding came_on gathered_on
  came_waits closed a m w e h =
      ap (λ (x : Came). after_end R n (length (take n j)) closed (take x.gathered j) x)
      (ap (came_to (how_on n room j closed) (length (fit n room j))) e ∙ ap (λ (x : How). came_to x (length (fit n room j)) (waits a m)) h)
      ∙ ap (λ (s : List ℕ). after_end R n (length (take n j)) closed s (record { gathered = length (fit n room j); begins = a; met = m; how = w })) (fit_front n room j)
      ∙ sym (after_other R n (length (take n j)) closed (fit n room j) (record { gathered = length (fit n room j); begins = a; met = m; how = w })
      (partial_ends R (drop a (fit n room j)) (let z : a - 0 ≡ a = omega arith in rw z at (subst (Reaches 0 (fit n room j)) e (going_reaches R 0 0 (fit n room j))).2)))

  pub how_lacks : (closed : Bool) → room < length (take n j) → how_on n room j closed ≡ no_room
  unfolding how_on
  how_lacks closed l = rw (lt-ltb room (length (take n j)) l)

  pub how_limited : (closed : Bool) → length (take n j) ≤ room → n ≤ length j → how_on n room j closed ≡ pieces.decided
  unfolding how_on
  how_limited closed l h = rw (le-ltb room (length (take n j)) l, eq-eqb (length (take n j)) n (length-take-le n j h))

  pub how_waits : length (take n j) ≤ room → length j < n → how_on n room j false ≡ waiting
  unfolding how_on
  how_waits l h = rw (le-ltb room (length (take n j)) l, ne_eqb (length (take n j)) n (λ q. omega (arith, length-take n j)))

  pub came_gathered : (closed : Bool) → (came_on R n room j closed).gathered ≡ reach (length (fit n room j)) (going R 0 0 0 (fit n room j))
  unfolding came_on gathered_on
  came_gathered closed =
      after_gathered R n (length (take n j)) closed (take (gathered_on R n room j closed).gathered j) (gathered_on R n room j closed) ∙ go (going R 0 0 0 (fit n room j))
    where
      go : (g : Going) → (came_to (how_on n room j closed) (length (fit n room j)) g).gathered ≡ reach (length (fit n room j)) g
      go (waits a m) = refl
      go (decides a m to) = refl

  -- no more is gathered than there is, and than fits
  pub came_short : (closed : Bool) → (came_on R n room j closed).gathered ≤ length (fit n room j)
  came_short closed = omega (arith, came_gathered closed, go (going R 0 0 0 (fit n room j)) (going_reaches R 0 0 (fit n room j)))
    where
      go : (g : Going) → Reaches 0 (fit n room j) g → reach (length (fit n room j)) g ≤ length (fit n room j)
      go (waits a m) r = omega arith
      go (decides a m to) r = omega (arith, r.2)

-- ---- in the words of the statement

module _ (R : Reader) (H : (s : List ℕ) → Stops R [] 0 s (going R 0 0 0 s)) where
  pub decided_is : (s : List ℕ) → decided R s ≡ is_decides (going R 0 0 0 s)
  unfolding decided
  decided_is s = go (going R 0 0 0 s) (H s) (going_reaches R 0 0 s)
    where
      go : (g : Going) → Stops R [] 0 s g → Reaches 0 s g → whole (drop (place_of (walk R [] 0 0 s)) s) ≡ is_decides g
      go (waits a m) p r = let z : a - 0 ≡ a = omega arith in rw p (rw z at r.2)
      go (decides a m to) h r = let z : a - 0 ≡ a = omega arith in rw h.place (rw z at h.stands)

  pub through_is : (s : List ℕ) → through R s ≡ reach (length s) (going R 0 0 0 s)
  unfolding through
  through_is s = go (going R 0 0 0 s) (H s) (decided_is s)
    where
      go : (g : Going) → Stops R [] 0 s g → decided R s ≡ is_decides g
          → cond (decided R s) (place_of (walk R [] 0 0 s) + (4 + size (drop (place_of (walk R [] 0 0 s)) s))) (length s) ≡ reach (length s) g
      go (waits a m) p d = rw d
      go (decides a m to) h d = let z : a - 0 ≡ a = omega arith in rw (d, h.place) (sym (rw z at h.reaches))

  pub decided_more : (s t : List ℕ) → decided R s ≡ true → decided R (s ++ t) ≡ true
  decided_more s t d = go (going R 0 0 0 s) refl
    where
      go : (g : Going) → going R 0 0 0 s ≡ g → decided R (s ++ t) ≡ true
      go (waits a m) e = absurd (true≢false (sym d ∙ decided_is s ∙ ap is_decides e))
      go (decides a m to) e = decided_is (s ++ t) ∙ ap is_decides (going_decides_more R t 0 0 s a m to e)

  module _ (n room : ℕ) (j : List ℕ) where
    -- how many bytes the buffer begins with
    pub held_is : (closed : Bool) → (came_on R n room j closed).gathered ≡ held_on R n room j
    unfolding held_on
    held_is closed = came_gathered R n room j closed ∙ sym (through_is (fit n room j))

    pub lacks_is : lacks_room R n room j ≡ (ltb room (length (take n j)) && not (decided R (fit n room j)))
    unfolding lacks_room
    lacks_is = go (ltb room n) refl
      where
        go : (t : Bool) → ltb room n ≡ t → (ltb room (length j) && t && not (decided R (take room j))) ≡ (ltb room (length (take n j)) && not (decided R (fit n room j)))
        go true e =
            let l = ltb-true room n e in
            let same : ltb room (length (take n j)) ≡ ltb room (length j) =
            tests_same room (length (take n j)) (length j) (λ h. omega (arith, length-take n j)) (λ h. omega (arith, length-take n j)) in
            rw (and-true, take-take room n j (omega arith), same)
        go false e =
            let l = ltb-false room n e in
            rw (and-false, le-ltb room (length (take n j)) (omega (arith, length-take n j)))

    -- a byte has no room, just where nothing decides before it
    pub lacks_decided : decided R (fit n room j) ≡ true → lacks_room R n room j ≡ false
    lacks_decided d = lacks_is ∙ rw (d, and-false)

    pub lacks_room_lem : length (take n j) ≤ room → lacks_room R n room j ≡ false
    lacks_room_lem l = lacks_is ∙ rw (le-ltb room (length (take n j)) l)

    pub lacks_byte : decided R (fit n room j) ≡ false → room < length (take n j) → lacks_room R n room j ≡ true
    lacks_byte d l = lacks_is ∙ rw (d, lt-ltb room (length (take n j)) l)

    -- those that fit, and those behind them
    pub fit_rest : fit n room j ++ drop (length (fit n room j)) j ≡ j
    fit_rest = ap (λ (s : List ℕ). s ++ drop (length (fit n room j)) j) (sym (fit_front n room j)) ∙ take-append-drop (length (fit n room j)) j

    decided_all : decided R (fit n room j) ≡ true → decided R j ≡ true
    decided_all d = ap (decided R) (sym fit_rest) ∙ decided_more (fit n room j) (drop (length (fit n room j)) j) d

    -- the walk comes to the same, over what fits, what is inside the limit, and all of it
    module _ (a m to : ℕ) (e : going R 0 0 0 (fit n room j) ≡ decides a m to) where
      halts_fit : Stops R [] 0 (fit n room j) (decides a m to)
      halts_fit = subst (Stops R [] 0 (fit n room j)) e (H (fit n room j))

      pub walk_whole : walk R [] 0 0 j ≡ walk R [] 0 0 (fit n room j)
      walk_whole = ap (walk R [] 0 0) (sym fit_rest) ∙ halts_fit.same (drop (length (fit n room j)) j)

      pub walk_limit : walk R [] 0 0 (take n j) ≡ walk R [] 0 0 (fit n room j)
      walk_limit = ap (walk R [] 0 0) (sym (take-append-drop room (take n j))) ∙ halts_fit.same (drop room (take n j))

      pub closes_is : (R.final && reached (walk R [] 0 0 (fit n room j))) ≡ closes_at R a (fit n room j)
      unfolding closes_at
      closes_is = let z : a - 0 ≡ a = omega arith in ap (λ (t : Bool). R.final && t) (rw z at halts_fit.ending)

      -- it ends with that record
      abbrev There : Type 0
      There = (p : ℕ) × (st : List Sighting) × (walk R [] 0 0 (fit n room j) ≡ ended p to st)

      pub ends_there : closes_at R a (fit n room j) ≡ true → (R.final ≡ true) × There
      ends_there f = by R.final refl (closes_is ∙ f)
        where
          go : (o : Outcome) → walk R [] 0 0 (fit n room j) ≡ o → reached o ≡ true → There
          go (stopped r) w q = absurd (true≢false (sym q))
          go (ended p next st) w q = (p, st, w ∙ ap (λ (k : ℕ). ended p k st) (halts_fit.next p next st w))

          by : (t : Bool) → R.final ≡ t → (t && reached (walk R [] 0 0 (fit n room j))) ≡ true
              → (R.final ≡ true) × There
          by true h q = (h, go (walk R [] 0 0 (fit n room j)) refl q)
          by false h q = absurd (true≢false (sym q))

      -- no wait behind a record that does not close the message
      lasts_not : closes_at R a (fit n room j) ≡ false → lasts R j ≡ false
      unfolding lasts
      lasts_not f = ap (λ (o : Outcome). R.final && ends_at o (length j)) walk_whole ∙ go R.final (walk R [] 0 0 (fit n room j)) (closes_is ∙ f)
        where
          go : (t : Bool) (o : Outcome) → (t && reached o) ≡ false → (t && ends_at o (length j)) ≡ false
          go false o q = refl
          go true (stopped r) q = refl
          go true (ended p next st) q = absurd (true≢false q)

      -- .. nor where a byte follows, and else there is
      lasts_by : closes_at R a (fit n room j) ≡ true → lasts R j ≡ eqb to (length j)
      unfolding lasts
      lasts_by f =
          let y = ends_there f in
          ap (λ (o : Outcome). R.final && ends_at o (length j)) (walk_whole ∙ y.1.2) ∙ ap (λ (t : Bool). t && eqb to (length j)) y.0

      d : decided R (fit n room j) ≡ true
      d = decided_is (fit n room j) ∙ ap is_decides e

      pub undecided_not : (closed : Bool) → closes_at R a (fit n room j) ≡ false → undecided R n (record { piece = j; closed = closed }) ≡ false
      unfolding undecided
      undecided_not closed f = rw (decided_all d, lasts_not f, and-false)

      pub undecided_follows : (closed : Bool) → closes_at R a (fit n room j) ≡ true → to < length (take n j) → undecided R n (record { piece = j; closed = closed }) ≡ false
      unfolding undecided
      undecided_follows closed f l = rw (decided_all d, lasts_by f, ne_eqb to (length j) (λ q. omega (arith, l, length-take n j)), and-false)

      pub undecided_rests : closes_at R a (fit n room j) ≡ true → length (take n j) ≤ to → length j < n → undecided R n (record { piece = j; closed = false }) ≡ true
      unfolding undecided
      undecided_rests f l h =
          let k : to ≡ length j = omega (arith, l, length-take n j, (decides_fits R n room j a m to e).2) in
          rw (lt-ltb (length j) n h, decided_all d, lasts_by f, eq-eqb to (length j) k)

    pub undecided_lasts : decided R (fit n room j) ≡ false → length (take n j) ≤ room → length j < n → undecided R n (record { piece = j; closed = false }) ≡ true
    unfolding undecided
    undecided_lasts d l h =
        let all : fit n room j ≡ j = fit_all n room j l ∙ take_all n j (omega arith) in
        rw (lt-ltb (length j) n h, sym (ap (decided R) all) ∙ d)
