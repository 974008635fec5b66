-- What of a piece fits, in the two counts of the code and in the cuts of the definition; what is stored of it; and a call from the record that the bytes
-- gathered before end with.
-- Assumes nothing.
use mathlib.Core.Path.{◌≡◌, refl, sym, ◌∙◌, ap}
use mathlib.Core.List.{List, ◌++◌}
use mathlib.Core.Bool.{Bool, true, false, cond, ◌||◌, true≢false}
use Prim.Native.Nat.{ℕ, ◌+◌, ◌-◌, ◌≤◌, ◌<◌, min}
use native.Mathlib.Omega.{arith}
use native.Mathlib.Nat.{sub-zero}
use borrow.Rule.Slice.PartMut.{mid_of, put_mid}
use lib.ListN.{length, take, drop, length-append, length-take, length-drop}
use lib.Seq.{length-take-le, take_all, take-take, take-add, take-append-le, drop_at, drop-drop, drop-append-le}
use lib.Dec.{ltb, leb, eqb}
use borrow.Author.Tests.{ltb-true, ltb-false, leb-true, leb-false, eqb-true, eqb-false}
use Rattle.wire.specs.Over.{over, Tried}
use Rattle.wire.proofs.Over.{length_over}
use Rattle.walk.specs.Walk.{Reader}
use Rattle.walk.specs.Rules.{Rules, reader_of}
use Rattle.walk.proofs.Passing.{take_over}
use Rattle.pieces.specs.Pieces as pieces
use Rattle.pieces.specs.Pieces.{waiting, no_room, decided, Line, Brought, broken, joined, inside, fitting, full, otherwise, whole, waits, decides, going, came_to, gathers, told_connection}
use Rattle.pieces.specs.Code.{told_how, how_of, smaller_of, Fits, JudgesPart, fits, TakesPiece, Gathers}
use Rattle.pieces.specs.declared.Connection.{Connection}
use Rattle.pieces.specs.declared.How.{How}
use Rattle.pieces.specs.declared.How.TheVariants as how
use Rattle.pieces.specs.declared.Came.{Came}
use Rattle.pieces.specs.declared.Front.{Front}
use Rattle.pieces.proofs.Going.{further, going_further, going_from, Reaches, waits_inside, decides_inside, going_waits_more, going_decides_more}
use Rattle.pieces.proofs.Storing.{over_own, stored_tried}

-- ---- counts

pub smaller_min : (a b : ℕ) → smaller_of a b ≡ min a b
unfolding smaller_of
smaller_min a b = go (ltb b a) refl
  where
    go : (t : Bool) → ltb b a ≡ t → cond t b a ≡ min a b
    go true e = let h = ltb-true b a e in omega arith
    go false e = let h = ltb-false b a e in omega arith

pub smaller_above : (a b r k : ℕ) → r ≡ smaller_of a b → k ≤ a → k ≤ b → k ≤ r
smaller_above a b r k e h g = omega (arith, e, smaller_min a b)

pub smaller_below : (a b r : ℕ) → r ≡ smaller_of a b → r ≤ b
smaller_below a b r e = omega (arith, e, smaller_min a b)

pub fits_min : (x : Front) (n : ℕ) (p b : List ℕ) → fits x n p b ≡ min (length p) (min n (length b) - x.held)
fits_min x n p b = smaller_min (length p) (smaller_of n (length b) - x.held) ∙ ap (λ (k : ℕ). min (length p) (k - x.held)) (smaller_min n (length b))

-- of a limit, a buffer, the bytes held, a piece's, those that fit, and those inside the limit
pub how_otherwise : (limit room held p n i : ℕ) (closed : Bool) → held ≤ limit → held ≤ room → n ≡ min p (min limit room - held) → i ≡ min limit (held + p)
    → how_of (eqb (held + n) limit) (ltb n p) closed ≡ cond (ltb room i) no_room (cond (eqb i limit || closed) decided waiting)
unfolding how_of
how_otherwise limit room held p n i closed h g e f = go (eqb (held + n) limit) refl (ltb n p) refl (ltb room i) refl (eqb i limit) refl
  where
    go : (a : Bool) → eqb (held + n) limit ≡ a → (c : Bool) → ltb n p ≡ c → (d : Bool) → ltb room i ≡ d → (k : Bool) → eqb i limit ≡ k
        → cond a decided (cond c no_room (cond closed decided waiting)) ≡ cond d no_room (cond (k || closed) decided waiting)
    go true ea c ec true ed k ek =
        let x : held + n ≡ limit = eqb-true (held + n) limit ea in
        let y : room < i = ltb-true room i ed in
        absurd (let z : ⊥ = omega arith in z)
    go true ea c ec false ed true ek = refl
    go true ea c ec false ed false ek =
        let x : held + n ≡ limit = eqb-true (held + n) limit ea in
        absurd (eqb-false i limit ek (let z : i ≡ limit = omega arith in z))
    go false ea true ec true ed k ek = refl
    go false ea true ec false ed k ek =
        let y : n < p = ltb-true n p ec in
        let z : i ≤ room = ltb-false room i ed in
        absurd (eqb-false (held + n) limit ea (let v : held + n ≡ limit = omega arith in v))
    go false ea false ec true ed k ek =
        let y : p ≤ n = ltb-false n p ec in
        let z : room < i = ltb-true room i ed in
        absurd (let v : ⊥ = omega arith in v)
    go false ea false ec false ed true ek =
        let y : p ≤ n = ltb-false n p ec in
        let z : i ≡ limit = eqb-true i limit ek in
        absurd (eqb-false (held + n) limit ea (let v : held + n ≡ limit = omega arith in v))
    go false ea false ec false ed false ek = refl

sub_min : (a b c : ℕ) → min a b - c ≡ min (b - c) (a - c)
sub_min a b c = omega arith

-- ---- lists

cut : (a k : ℕ) (l : List ℕ) → k ≡ min (length l) a → take a l ≡ take k l
cut a k l e = go (leb (length l) a) refl
  where
    go : (t : Bool) → leb (length l) a ≡ t → take a l ≡ take k l
    go true q =
        let h : length l ≤ a = leb-true (length l) a q in
        take_all a l h ∙ sym (take_all k l (omega arith))
    go false q =
        let h : a < length l = leb-false (length l) a q in
        ap (λ (n : ℕ). take n l) (let z : a ≡ k = omega arith in z)

take_both : (a c : ℕ) (l : List ℕ) → take a (take c l) ≡ take (min a c) l
take_both a c l = go (leb a c) refl
  where
    go : (t : Bool) → leb a c ≡ t → take a (take c l) ≡ take (min a c) l
    go true q =
        let h : a ≤ c = leb-true a c q in
        take-take a c l h ∙ ap (λ (n : ℕ). take n l) (let z : a ≡ min a c = omega arith in z)
    go false q =
        let h : c < a = leb-false a c q in
        take_all a (take c l) (omega (arith, length-take c l)) ∙ ap (λ (n : ℕ). take n l) (let z : c ≡ min a c = omega arith in z)

pub part_long : (n : ℕ) (l : List ℕ) → n ≤ length l → length (take (n - 0) l) ≡ n
part_long n l h = ap (λ (k : ℕ). length (take k l)) (sub-zero n) ∙ length-take-le n l h

-- a part in the middle
pub drop_take : (a n : ℕ) (l : List ℕ) → a ≤ n → n ≤ length l → drop a (take n l) ≡ take (n - a) (drop a l)
drop_take a n l h g =
    let e : a + (n - a) ≡ n = omega arith in
    ap (λ (k : ℕ). drop a (take k l)) (sym e)
    ∙ ap (drop a) (take-add a (n - a) l)
    ∙ drop_at (take a l) (take (n - a) (drop a l)) a (length-take-le a l (omega arith))

-- ---- a piece behind what was gathered before

module _ (x : Front) (limit : ℕ) (p b : List ℕ) (f : Fits x b) (h : x.held ≤ limit) where
  -- by the two counts of the code, what fits is inside
  module _ (m n : ℕ) (d : m ≡ smaller_of limit (length b)) (g : n ≡ smaller_of (length p) (m - x.held)) where
    pub fits_is : n ≡ fits x limit p b
    fits_is = g ∙ ap (λ (k : ℕ). smaller_of (length p) (k - x.held)) d

    pub fits_least : x.held ≤ m
    fits_least = omega (arith, d, smaller_min limit (length b), f.held)

    pub fits_part : n ≤ length p
    fits_part = omega (arith, g, smaller_min (length p) (m - x.held))

    pub fits_limit : x.held + n ≤ limit
    fits_limit = omega (arith, g, smaller_min (length p) (m - x.held), d, smaller_min limit (length b), fits_least)

    pub fits_room : x.held + n ≤ length b
    fits_room = omega (arith, g, smaller_min (length p) (m - x.held), d, smaller_min limit (length b), fits_least)

module _ (rules : Rules) (x : Front) (limit : ℕ) (closed : Bool) (p b : List ℕ) (f : Fits x b) (h : x.held ≤ limit) where
  -- what fits is inside
  fits_inside : (n : ℕ) → n ≡ fits x limit p b → (n ≤ length p) × (x.held + n ≤ limit) × (x.held + n ≤ length b)
  fits_inside n e =
      let m = smaller_of limit (length b) in
      (fits_part x limit p b f h m n refl e, fits_limit x limit p b f h m n refl e, fits_room x limit p b f h m n refl e)

  module _ (n : ℕ) (e : n ≡ fits x limit p b) (w : How) (hw : told_how w ≡ how_of (eqb (x.held + n) limit) (ltb n (length p)) closed)
      (r : Came) (b₁ : List ℕ) (j : JudgesPart rules x w (take (n - 0) p) b r b₁) where
    part : take (n - 0) p ≡ take n p
    part = ap (λ (k : ℕ). take k p) (sub-zero n)

    long : length (take (n - 0) p) ≡ n
    long = ap length part ∙ length-take-le n p (fits_inside n e).0

    abbrev comes_to : ℕ → List ℕ → pieces.Came
    comes_to k q =
        came_to (how_of (eqb (x.held + k) limit) (ltb k (length p)) closed) (x.held + k)
        (going (reader_of rules) x.met x.begins 0 (drop x.begins (take x.held b ++ q)))

    length_left : length b₁ ≡ length b
    length_left =
        let g = fits_inside n e in
        ap length j.left
        ∙ length_over (take j.stored (take x.held b ++ take (n - 0) p)) b
        (omega (arith, length-take j.stored (take x.held b ++ take (n - 0) p), length-append (take x.held b) (take (n - 0) p), long, length-take-le x.held b f.held, g.2))

    pub taken : (o : List ℕ) (q : ℕ)
        → Tried (length (take (r.gathered - x.held - 0) (take (n - 0) p))) (take (r.gathered - x.held - 0) (take (n - 0) p)) (mid_of x.held (length b₁ - x.held) b₁) q o
        → TakesPiece rules x limit closed p b r (put_mid x.held (length b₁ - x.held) b₁ o)
    taken o q y =
        let g = fits_inside n e in
        let m : x.held + (r.gathered - x.held) ≡ r.gathered = omega (arith, j.more) in
        let i : r.gathered - x.held ≤ n = omega (arith, j.within, long) in
        let l : length (take x.held b) ≡ x.held = length-take-le x.held b f.held in
        let all : take r.gathered (take x.held b ++ take n p) ≡ take r.gathered (take x.held b ++ p) =
        take_over r.gathered (take x.held b) (take n p) (omega (arith, l, j.more))
        ∙ ap (λ (y : List ℕ). take x.held b ++ y) (take-take (r.gathered - length (take x.held b)) n p (omega (arith, l, i)))
        ∙ sym (take_over r.gathered (take x.held b) p (omega (arith, l, j.more))) in
        record {
          says =
              j.says
              ∙ (λ i. came_to (hw i) (x.held + long i) (going (reader_of rules) x.met x.begins 0 (drop x.begins (take x.held b ++ part i))))
              ∙ ap (λ (k : ℕ). comes_to k (take k p)) e;
          left =
              stored_tried x.held (take (n - 0) p) b b₁ f.held j.stored j.left (r.gathered - x.held) q o (omega (arith, m, j.counted)) (omega (arith, i, long)) (omega (arith, i, g.2)) length_left y
              ∙ ap (λ (k : ℕ). over (take k (take x.held b ++ take (n - 0) p)) b) m
              ∙ ap (λ (z : List ℕ). over (take r.gathered (take x.held b ++ z)) b) part
              ∙ ap (λ (z : List ℕ). over z b) all;
        }

-- ---- a call

pub unbroken : (c : Line) (b : List ℕ) → broken c b ≡ false → (c.gathered ≤ length b) × (c.gathered ≤ c.limit)
unfolding broken
unbroken c b h = go (ltb (length b) c.gathered) refl (ltb c.limit c.gathered) refl h
  where
    go : (x : Bool) → ltb (length b) c.gathered ≡ x → (y : Bool) → ltb c.limit c.gathered ≡ y → (x || y) ≡ false → (c.gathered ≤ length b) × (c.gathered ≤ c.limit)
    go true e y f z = absurd (true≢false z)
    go false e true f z = absurd (true≢false z)
    go false e false f z = (ltb-false (length b) c.gathered e, ltb-false c.limit c.gathered f)

-- the definition's cuts, in counts
module _ (c : Line) (b : List ℕ) (h : Brought) (u : broken c b ≡ false) where
  held_long : length (take c.gathered b) ≡ c.gathered
  held_long = length-take-le c.gathered b (unbroken c b u).0

  pub inside_is : inside c b h ≡ take c.gathered b ++ take (c.limit - c.gathered) h.piece
  unfolding inside joined
  inside_is =
      take_over c.limit (take c.gathered b) h.piece (omega (arith, held_long, (unbroken c b u).1))
      ∙ ap (λ (k : ℕ). take c.gathered b ++ take (c.limit - k) h.piece) held_long

  pub inside_long : length (inside c b h) ≡ min c.limit (c.gathered + length h.piece)
  unfolding inside joined
  inside_long = omega (arith, length-take c.limit (take c.gathered b ++ h.piece), length-append (take c.gathered b) h.piece, held_long)

  -- n bytes of the piece fit
  module _ (n : ℕ) (e : n ≡ min (length h.piece) (min c.limit (length b) - c.gathered)) where
    pub fitting_is : fitting c b h ≡ take c.gathered b ++ take n h.piece
    unfolding fitting
    fitting_is =
        ap (take (length b)) inside_is
        ∙ take_over (length b) (take c.gathered b) (take (c.limit - c.gathered) h.piece) (omega (arith, held_long, (unbroken c b u).0))
        ∙ ap (λ (k : ℕ). take c.gathered b ++ take (length b - k) (take (c.limit - c.gathered) h.piece)) held_long
        ∙ ap (λ (l : List ℕ). take c.gathered b ++ l)
        (take_both (length b - c.gathered) (c.limit - c.gathered) h.piece
        ∙ cut (min (length b - c.gathered) (c.limit - c.gathered)) n h.piece (e ∙ ap (min (length h.piece)) (sub_min c.limit (length b) c.gathered)))

    pub fitting_long : length (fitting c b h) ≡ c.gathered + n
    fitting_long = ap length fitting_is ∙ omega (arith, length-append (take c.gathered b) (take n h.piece), held_long, length-take n h.piece)

    pub otherwise_is : how_of (eqb (c.gathered + n) c.limit) (ltb n (length h.piece)) h.closed ≡ otherwise c b h
    unfolding otherwise full
    otherwise_is =
        how_otherwise c.limit (length b) c.gathered (length h.piece) n (length (inside c b h)) h.closed (unbroken c b u).1 (unbroken c b u).0 e inside_long

module _ (rules : Rules) (c : Connection) (p : List ℕ) (closed : Bool) (b : List ℕ) (u : broken (told_connection c) b ≡ false)
    (start : ℕ) (es : start ≡ smaller_of c.begins c.gathered) where
  abbrev R : Reader
  R = reader_of rules

  abbrev held : ℕ
  held = c.gathered

  abbrev brought : Brought
  brought = record { piece = p; closed = closed }

  pub held_room : held ≤ length b
  held_room = (unbroken (told_connection c) b u).0

  pub held_limit : held ≤ c.limit
  held_limit = (unbroken (told_connection c) b u).1

  pub start_held : start ≤ held
  start_held = omega (arith, es, smaller_min c.begins held)

  front_long : length (take held b) ≡ held
  front_long = length-take-le held b held_room

  -- the bytes of the record that was being gathered, as the code lends them
  abbrev begun : List ℕ
  begun = take (held - start) (drop start b)

  begun_is : drop start (take held b) ≡ begun
  begun_is = drop_take start held b start_held held_room

  pub begun_long : length begun ≡ held - start
  begun_long = ap length (sym begun_is) ∙ length-drop start (take held b) ∙ ap (λ (k : ℕ). k - start) front_long

  -- the records from it on
  from_start : (t : List ℕ) → going R c.met start 0 (drop start (take held b ++ t)) ≡ further start (going R c.met 0 0 (begun ++ t))
  from_start t =
      ap (going R c.met start 0) (drop-append-le start (take held b) t (omega (arith, front_long, start_held)) ∙ ap (λ (l : List ℕ). l ++ t) begun_is)
      ∙ going_from R start c.met (begun ++ t)

  abbrev from : ℕ → pieces.Came
  from k =
      came_to (otherwise (told_connection c) b brought) (length (fitting (told_connection c) b brought))
      (going R c.met k 0 (drop k (fitting (told_connection c) b brought)))

  -- where it comes to, in the place of the code
  comes_from : from start ≡ gathers R (told_connection c) b brought
  unfolding gathers smaller_of
  comes_from = ap from es

  abbrev fit : ℕ
  fit = min (length p) (min c.limit (length b) - held)

  -- a record made by hand, whose bytes gathered decide already
  pub gathered_decides : (at m through : ℕ) → decides at m through ≡ going R c.met 0 0 begun
      → Gathers rules c p closed b (record { gathered = start + through; begins = start + at; met = m; how = how.Decided }) b
  unfolding joined
  gathered_decides at m through e =
      let g : going R c.met start 0 (drop start (fitting (told_connection c) b brought)) ≡ decides (start + at) m (start + through) =
      ap (λ (l : List ℕ). going R c.met start 0 (drop start l)) (fitting_is (told_connection c) b brought u fit refl)
      ∙ from_start (take fit p)
      ∙ ap (further start) (going_decides_more R (take fit p) c.met 0 begun at m through (sym e)) in
      let i = decides_inside R c.met 0 at m through begun e in
      let k : start + through ≤ held = omega (arith, i.2, begun_long, start_held) in
      record {
        says = sym (ap (came_to (otherwise (told_connection c) b brought) (length (fitting (told_connection c) b brought))) g) ∙ comes_from;
        left =
            sym (ap (λ (l : List ℕ). over l b) (take-append-le (start + through) (take held b) p (omega (arith, front_long, k)) ∙ take-take (start + through) held b k)
            ∙ over_own (start + through) b (omega (arith, k, held_room)));
      }

  module _ (at m : ℕ) (e : waits at m ≡ going R c.met 0 0 begun) where
    abbrev front : Front
    front = record { held = held; begins = start + at; met = m }

    reached : Reaches 0 begun (waits at m)
    reached = waits_inside R c.met 0 at m begun e

    pub gathered_fits : Fits front b × (held ≤ c.limit)
    gathered_fits =
        let z : whole (drop at begun) ≡ false = ap (λ (k : ℕ). whole (drop k begun)) (sym (sub-zero at)) ∙ reached.2 in
        let d : drop at begun ≡ drop (start + at) (take held b) = ap (drop at) (sym begun_is) ∙ drop-drop at start (take held b) in
        (record { held = held_room; begins = omega (arith, reached.1, begun_long, start_held); partial = ap whole (sym d) ∙ z }, held_limit)

    pub gathered_waits : (r : Came) (b' : List ℕ) → TakesPiece rules front c.limit closed p b r b' → Gathers rules c p closed b r b'
    unfolding joined
    gathered_waits r b' y =
        let n : ℕ = fits front c.limit p b in
        let q : n ≡ fit = fits_min front c.limit p b in
        let s : List ℕ = take held b ++ take n p in
        let g : going R c.met start 0 (drop start s) ≡ going R m (start + at) 0 (drop (start + at) s) =
        from_start (take n p)
        ∙ ap (further start) (going_waits_more R (take n p) c.met 0 begun at m (sym e))
        ∙ ap (λ (k : ℕ). further start (going R m at 0 (drop k (begun ++ take n p)))) (sub-zero at)
        ∙ sym (going_further R start m at (drop at (begun ++ take n p)))
        ∙ ap (going R m (start + at) 0)
        (ap (λ (l : List ℕ). drop at (l ++ take n p)) (sym begun_is)
        ∙ ap (drop at) (sym (drop-append-le start (take held b) (take n p) (omega (arith, front_long, start_held))))
        ∙ drop-drop at start s) in
        record {
          says =
              y.says
              ∙ (λ j. came_to (otherwise_is (told_connection c) b brought u n q j) (sym (fitting_long (told_connection c) b brought u n q) j) (sym g j))
              ∙ ap (λ (l : List ℕ). came_to (otherwise (told_connection c) b brought) (length (fitting (told_connection c) b brought)) (going R c.met start 0 (drop start l))) (sym (fitting_is (told_connection c) b brought u n q))
              ∙ comes_from;
          left = y.left;
        }

  -- the places that are told are inside
  pub decides_places : (at m through : ℕ) → decides at m through ≡ going R c.met 0 0 begun → (start + at ≤ length b) × (start + through ≤ length b)
  decides_places at m through e =
      let i = decides_inside R c.met 0 at m through begun e in
      (omega (arith, i.1, i.2, begun_long, start_held, held_room), omega (arith, i.2, begun_long, start_held, held_room))

  pub waits_place : (at m : ℕ) → waits at m ≡ going R c.met 0 0 begun → start + at ≤ length b
  waits_place at m e = let i = waits_inside R c.met 0 at m begun e in omega (arith, i.1, begun_long, start_held, held_room)
