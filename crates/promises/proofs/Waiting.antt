-- A line that waits stands for the bytes handed over so far, joined: a call on it comes to what they and its piece come to by themselves, since what waits goes on from
-- its place, and gathers those bytes and more.
-- Assumes nothing.
use mathlib.Core.Path.{◌≡◌, refl, sym, ap, ◌∙◌}
use mathlib.Core.List.{List, [], ◌++◌}
use mathlib.Core.Bool.{true, false, cond, ◌||◌}
use Prim.Native.Nat.{ℕ, ◌-◌, ◌≤◌}
use native.Mathlib.Omega.{arith}
use lib.ListN.{length, take, drop, length-append, length-take, take-append-drop}
use lib.Seq.{length-take-le, take_at}
use lib.Dec.{ltb, eqb}
use borrow.Author.Tests.{le-ltb}
use Rattle.wire.specs.Over.{over}
use Rattle.wire.proofs.Over.{length_over, over_none}
use Rattle.layout.specs.declared.Profile.{Profile}
use Rattle.walk.specs.Walk.{Reader}
use Rattle.pieces.specs.Pieces as pieces
use Rattle.pieces.specs.Pieces.{Line, started, broken, pending, Brought, joined, inside, fitting, full, Going, waits, decides, going, How, waiting, no_room, otherwise}
use Rattle.pieces.specs.Pieces.{Came, came_to, begins_at, gathers, after_end, comes, is_pending}
use Rattle.pieces.proofs.Going.{going_waits_more, going_decides_more, decides_again}
use Rattle.promises.proofs.Coming.{fit, fit_short, fit_part, reach, past, how_on, gathered_on, came_on}
use Rattle.promises.proofs.Coming.{came_gathered, came_short}

-- ---- lists

pub take_over : (x b : List ℕ) (i : ℕ) → length x ≡ i → take i (over x b) ≡ x
unfolding over
take_over x b i e = take_at x (drop (length x) b) i e

-- ---- a line that waits, and stands for the bytes j

pub record Waits (P : Profile) (R : Reader) (n : ℕ) (b j : List ℕ) (c : Line) (b' : List ℕ) : Type 0 where
  pub profile : c.profile ≡ P
  pub limit : c.limit ≡ n
  pub gathered : c.gathered ≡ length j
  -- the records go on from where the last of them begins, as from the front
  pub begun : c.begins ≤ length j
  pub resumes : (t : List ℕ) → going R c.met c.begins 0 (drop c.begins (j ++ t)) ≡ going R 0 0 0 (j ++ t)
  -- and they reach through all the bytes, and no further
  pub reaches : reach (length j) (going R 0 0 0 j) ≡ length j
  pub standing : c.standing ≡ pending
  pub within : length j ≤ n
  pub fits : length j ≤ length b
  pub left : b' ≡ over j b

-- after a record that is not whole, and after one that decides
pub resumes_waits : (R : Reader) (j : List ℕ) (a m : ℕ) → going R 0 0 0 j ≡ waits a m → (t : List ℕ) → going R m a 0 (drop a (j ++ t)) ≡ going R 0 0 0 (j ++ t)
resumes_waits R j a m e t = let z : a - 0 ≡ a = omega arith in sym (rw z at (going_waits_more R t 0 0 j a m e))

pub resumes_decides : (R : Reader) (j : List ℕ) (a m to : ℕ) → going R 0 0 0 j ≡ decides a m to → (t : List ℕ) → going R m a 0 (drop a (j ++ t)) ≡ going R 0 0 0 (j ++ t)
resumes_decides R j a m to e t =
    let q : going R 0 0 0 (j ++ t) ≡ decides a m to = going_decides_more R t 0 0 j a m to e in
    decides_again R (j ++ t) a m to q ∙ sym q

pub waits_start : (P : Profile) (R : Reader) (n : ℕ) (b : List ℕ) → Waits P R n b [] (started P n) b
unfolding going
waits_start P R n b = record {
  profile = refl;
  limit = refl;
  gathered = refl;
  begun = omega arith;
  resumes = λ t. refl;
  reaches = refl;
  standing = refl;
  within = omega arith;
  fits = omega arith;
  left = sym (over_none b);
}

module _ (P : Profile) (R : Reader) (n : ℕ) (b j : List ℕ) (c : Line) (b' : List ℕ) (w : Waits P R n b j c b') where
  left_long : length b' ≡ length b
  left_long = ap length w.left ∙ length_over j b w.fits

  pub waits_sound : broken c b' ≡ false
  unfolding broken
  waits_sound =
      rw (le-ltb (length b') c.gathered (omega (arith, w.gathered, w.fits, left_long)), le-ltb c.limit c.gathered (omega (arith, w.limit, w.gathered, w.within)))

  pub waits_pending : is_pending c b' ≡ true
  unfolding is_pending
  waits_pending = rw (waits_sound, w.standing)

  module _ (h : Brought) where
    abbrev all : List ℕ
    all = j ++ h.piece

    abbrev came : Came
    came = came_on R n (length b) all h.closed

    pub joined_is : joined c b' h ≡ all
    unfolding joined
    joined_is = ap (λ (s : List ℕ). s ++ h.piece) (ap (λ (i : ℕ). take i b') w.gathered ∙ ap (take (length j)) w.left ∙ take_over j b (length j) refl)

    inside_is : inside c b' h ≡ take n all
    unfolding inside
    inside_is = ap (λ (k : ℕ). take k (joined c b' h)) w.limit ∙ ap (take n) joined_is

    fitting_is : fitting c b' h ≡ fit n (length b) all
    unfolding fitting
    fitting_is = ap (λ (k : ℕ). take k (inside c b' h)) left_long ∙ ap (take (length b)) inside_is

    otherwise_is : otherwise c b' h ≡ how_on n (length b) all h.closed
    unfolding otherwise full how_on
    otherwise_is =
        ap (λ (s : List ℕ). how_by (length b') s c.limit) inside_is ∙ ap (λ (k : ℕ). how_by k (take n all) c.limit) left_long ∙ ap (how_by (length b) (take n all)) w.limit
      where
        how_by : ℕ → List ℕ → ℕ → How
        how_by room s k = cond (ltb room (length s)) no_room (cond (eqb (length s) k || h.closed) pieces.decided waiting)

    begins_is : begins_at c ≡ c.begins
    begins_is = rw (le-ltb c.gathered c.begins (omega (arith, w.gathered, w.begun)))

    -- they are the front of those that fit
    abbrev behind : List ℕ
    behind = drop (length j) (fit n (length b) all)

    fit_long : length j ≤ length (fit n (length b) all)
    fit_long = omega (arith, w.within, w.fits, length-take (length b) (take n all), length-take n all, length-append j h.piece)

    fit_behind : fit n (length b) all ≡ j ++ behind
    fit_behind =
        sym (take-append-drop (length j) (fit n (length b) all))
        ∙ ap (λ (s : List ℕ). s ++ behind) (fit_part n (length b) all (length j) fit_long ∙ take_at j h.piece (length j) refl)

    going_is : going R c.met c.begins 0 (drop c.begins (fit n (length b) all)) ≡ going R 0 0 0 (fit n (length b) all)
    going_is =
        ap (λ (s : List ℕ). going R c.met c.begins 0 (drop c.begins s)) fit_behind ∙ w.resumes behind ∙ ap (going R 0 0 0) (sym fit_behind)

    gathers_is : gathers R c b' h ≡ gathered_on R n (length b) all h.closed
    unfolding gathers gathered_on
    gathers_is =
        ap (λ (x : How). came_to x (length (fitting c b' h)) (going R c.met (begins_at c) 0 (drop (begins_at c) (fitting c b' h)))) otherwise_is
        ∙ ap (λ (s : List ℕ). came_to (how_on n (length b) all h.closed) (length s) (going R c.met (begins_at c) 0 (drop (begins_at c) s))) fitting_is
        ∙ ap (λ (i : ℕ). came_to (how_on n (length b) all h.closed) (length (fit n (length b) all)) (going R c.met i 0 (drop i (fit n (length b) all)))) begins_is
        ∙ ap (came_to (how_on n (length b) all h.closed) (length (fit n (length b) all))) going_is

    -- a call comes to what they come to, all joined
    pub comes_is : comes R c b' h ≡ came
    unfolding comes came_on
    comes_is =
        ap (λ (k : ℕ). after_end R k (length (inside c b' h)) h.closed (take (gathers R c b' h).gathered (joined c b' h)) (gathers R c b' h)) w.limit
        ∙ ap (λ (s : List ℕ). after_end R n (length s) h.closed (take (gathers R c b' h).gathered (joined c b' h)) (gathers R c b' h)) inside_is
        ∙ ap (λ (s : List ℕ). after_end R n (length (take n all)) h.closed (take (gathers R c b' h).gathered s) (gathers R c b' h)) joined_is
        ∙ ap (λ (x : Came). after_end R n (length (take n all)) h.closed (take x.gathered all) x) gathers_is

    -- it gathers those that were there, and more
    pub came_long : length j ≤ came.gathered
    came_long = omega (arith, came_gathered R n (length b) all h.closed, go (going R 0 0 0 (fit n (length b) all)) refl)
      where
        by : (g : Going) → going R 0 0 0 j ≡ g → (a m to : ℕ) → going R 0 0 0 (j ++ behind) ≡ decides a m to → reach (length j) g ≡ length j → length j ≤ to
        by (waits a' m') q a m to e r = omega (arith, past R j behind a' m' a m to q e)
        by (decides a' m' to') q a m to e r =
            let z : reach (length j) (decides a' m' to') ≡ reach (length j) (decides a m to) = ap (reach (length j)) (sym (going_decides_more R behind 0 0 j a' m' to' q) ∙ e) in
            omega (arith, z, r)

        go : (g : Going) → going R 0 0 0 (fit n (length b) all) ≡ g → length j ≤ reach (length (fit n (length b) all)) g
        go (waits a m) e = fit_long
        go (decides a m to) e = by (going R 0 0 0 j) refl a m to (ap (going R 0 0 0) (sym fit_behind) ∙ e) w.reaches

    came_within : came.gathered ≤ length all
    came_within = omega (arith, came_short R n (length b) all h.closed, (fit_short n (length b) all).0)

    pub front_long : length (take came.gathered all) ≡ came.gathered
    front_long = length-take-le came.gathered all came_within
