-- A call that closes the line does not wait: a whole record decides, or a byte has no room, or follows the end record, or the close cuts the last record; for every sort of read.
-- Assumes nothing.
use mathlib.Core.Path.{◌≡◌, refl, sym, ap, ◌∙◌}
use mathlib.Core.List.{List}
use mathlib.Core.Bool.{Bool, true, false, cond, ◌&&◌, ◌||◌, or-true}
use Prim.Native.Nat.{ℕ}
use native.Mathlib.Omega.{arith}
use lib.ListN.{length, take, drop}
use lib.Dec.{ltb, eqb}
use Rattle.walk.specs.Judge as judge
use Rattle.walk.specs.Judge.{Terms}
use Rattle.walk.specs.Walk.{Reader}
use Rattle.walk.specs.Met.{ends}
use Rattle.pieces.specs.Pieces.{Line, Standing, pending, accepted, refused, Brought, broken, inside, full, joined, fitting, Going, waits, decides, going, How, waiting, no_room, followed, decided, otherwise, Came, came_to, is_decided, how_after, gathers, after_end, comes, begins_at, Read, answers, refused_at, answer_after, first_answer, again, by_standing, answer_of, nothing_yet, says_of}

no_wait : (w : How) → w ≡ no_room → w ≡ waiting → ⊥
no_wait w p q = let z : ◌≡◌ {A = ℕ} 0 1 = cc in omega arith

decided_waits : (w : How) → w ≡ decided → w ≡ waiting → ⊥
decided_waits w p q = let z : ◌≡◌ {A = ℕ} 0 1 = cc in omega arith

module _ (X : Read) (c : Line) (b : List ℕ) (h : Brought) (closed : h.closed ≡ true) where
  otherwise_closed : otherwise c b h ≡ waiting → ⊥
  unfolding otherwise full inside joined
  otherwise_closed = rw (closed, or-true) (go (full c b h))
    where
      go : (t : Bool) → cond t no_room (cond true decided waiting) ≡ waiting → ⊥
      go true e = no_wait no_room refl e
      go false e = decided_waits decided refl e

  abbrev R : Reader
  R = X.reader c.profile

  gathers_closed : (gathers R c b h).how ≡ waiting → ⊥
  unfolding gathers
  gathers_closed = go (going R c.met (begins_at c) 0 (drop (begins_at c) (fitting c b h)))
    where
      go : (g : Going) → (came_to (otherwise c b h) (length (fitting c b h)) g).how ≡ waiting → ⊥
      go (waits at met) e = otherwise_closed e
      go (decides at met through) e = decided_waits decided refl e

  -- nor does one behind the end record
  after_closed : (n long to : ℕ) → how_after n long true to ≡ waiting → ⊥
  unfolding how_after
  after_closed n long to = go (ltb to long) (eqb to n)
    where
      go : (a b : Bool) → cond a followed (cond (b || true) decided waiting) ≡ waiting → ⊥
      go true b e = let z : ◌≡◌ {A = ℕ} 0 1 = cc in omega arith
      go false true e = decided_waits decided refl e
      go false false e = decided_waits decided refl e

  comes_closed : (comes R c b h).how ≡ waiting → ⊥
  unfolding comes after_end
  comes_closed = go (R.final && is_decided (gathers R c b h).how && ends R (drop (gathers R c b h).begins (take (gathers R c b h).gathered (joined c b h))))
    where
      to : Came
      to = gathers R c b h

      go : (t : Bool) → (cond t (record { gathered = to.gathered; begins = to.begins; met = to.met; how = how_after c.limit (length (inside c b h)) h.closed to.gathered }) to).how ≡ waiting → ⊥
      go true e = after_closed c.limit (length (inside c b h)) to.gathered (ap (λ (d : Bool). how_after c.limit (length (inside c b h)) d to.gathered) (sym closed) ∙ e)
      go false e = gathers_closed e

  pub closed_says : (m : List ℕ) (room : Terms) → says_of X m (answer_of X c b h room) ≡ nothing_yet → ⊥
  unfolding answer_of first_answer again
  closed_says m room = go (broken c b) c.standing
    where
      some : (a : judge.Answer X.judging.Q) → says_of X m (answers a) ≡ nothing_yet → ⊥
      some a e = let z : ◌≡◌ {A = ℕ} 0 1 = cc in omega arith

      by_how : (w : How) (s : List ℕ) → (comes R c b h).how ≡ w → says_of X m (answer_after X c.profile c.limit w s room) ≡ nothing_yet → ⊥
      by_how waiting s p e = comes_closed p
      by_how no_room s p e = some _ e
      by_how followed s p e = some _ e
      by_how decided s p e = some _ e

      go : (t : Bool) (s : Standing) → says_of X m (cond t (refused_at 9 0) (by_standing s (first_answer X c b h room) (again X c b) (λ r. answers (judge.refused r)))) ≡ nothing_yet → ⊥
      go true s e = some _ e
      go false pending e = by_how (comes R c b h).how _ refl e
      go false accepted e = some _ e
      go false (refused r) e = some _ e
