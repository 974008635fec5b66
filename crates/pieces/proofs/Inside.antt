-- No more is gathered than there is: inside the bytes joined, and inside the buffer.
-- Assumes nothing.
use Prim.Native.Nat.{ℕ, zero, suc, ◌+◌, ◌≤◌}
use mathlib.Core.Path.{◌≡◌, refl}
use mathlib.Core.List.{List, [], ◌∷◌}
use mathlib.Core.Bool.{Bool, true, false, cond, ◌&&◌, ◌||◌}
use native.Mathlib.Omega.{arith}
use borrow.Author.Tests.{ltb-false, leb-true}
use lib.ListN.{length, take, drop, length-take, length-drop, length-append}
use lib.Seq.{length-take-le, take_at}
use lib.Dec.{ltb, leb}
use Rattle.wire.specs.Over.{over}
use Rattle.record.specs.Record.{size}
use Rattle.walk.specs.Walk.{Reader}
use Rattle.walk.specs.Met.{Passing, halts, on, passing, ends}
use Rattle.pieces.specs.Pieces.{Line, broken, Brought, joined, inside, fitting, whole, Going, waits, decides, going, otherwise, Came, came_to, begins_at, gathers, how_after, is_decided, after_end, comes, told_connection}
use Rattle.pieces.specs.declared.Connection.{Connection}

both : (a b : Bool) → (a && b) ≡ true → (a ≡ true) × (b ≡ true)
both true b e = (refl, e)
both false b e = let z : ◌≡◌ {A = ℕ} 0 1 = cc in absurd (omega arith)

neither : (a b : Bool) → (a || b) ≡ false → (a ≡ false) × (b ≡ false)
neither true b e = let z : ◌≡◌ {A = ℕ} 0 1 = cc in absurd (omega arith)
neither false b e = (refl, e)

-- a record that decides ends inside the bytes: after k more of the one begun, by what is known of those behind the next
through_inside : (R : Reader) (met at y : ℕ) (s : List ℕ) {a m n : ℕ} (w : Bool) (f : Passing) → whole (y ∷ s) ≡ w
    → ((met' : ℕ) → going R met' (at + (4 + size (y ∷ s))) (3 + size (y ∷ s)) s ≡ decides a m n → n + (3 + size (y ∷ s)) ≤ at + (4 + size (y ∷ s)) + length s)
    → cond w (elim f [ halts ↦ decides at met (at + (4 + size (y ∷ s))) | on met' ↦ going R met' (at + (4 + size (y ∷ s))) (3 + size (y ∷ s)) s ]) (waits at met) ≡ decides a m n
    → n + 0 ≤ at + length (y ∷ s)
unfolding whole
through_inside R met at y s false f e on_wards q = let z : ◌≡◌ {A = ℕ} 0 1 = cc in absurd (omega arith)
through_inside R met at y s {n = n} true halts e on_wards q =
    let b : 4 + size (y ∷ s) ≤ suc (length s) = leb-true _ _ (both (leb 4 (length (y ∷ s))) _ e).1 in
    let z : at + (4 + size (y ∷ s)) ≡ n = cc in
    omega arith
through_inside R met at y s true (on met') e on_wards q = let i = on_wards met' q in omega arith

decides_inside : (R : Reader) (met at k : ℕ) (s : List ℕ) {a m n : ℕ} → going R met at k s ≡ decides a m n → n + k ≤ at + length s
unfolding going
decides_inside R met at k [] e = let z : ◌≡◌ {A = ℕ} 0 1 = cc in absurd (omega arith)
decides_inside R met at (suc k) (y ∷ s) e = let i = decides_inside R met at k s e in omega arith
decides_inside R met at zero (y ∷ s) e =
    through_inside R met at y s (whole (y ∷ s)) (passing R met (y ∷ s)) refl (λ met' q. decides_inside R met' (at + (4 + size (y ∷ s))) (3 + size (y ∷ s)) s q) e

-- the bytes gathered before are inside buffer and limit
counted : (c : Line) (b : List ℕ) → broken c b ≡ false → (c.gathered ≤ length b) × (c.gathered ≤ c.limit)
unfolding broken
counted c b e = let n = neither (ltb (length b) c.gathered) _ e in (ltb-false _ _ n.0, ltb-false _ _ n.1)

pub counted_inside : (c : Connection) (b : List ℕ) → broken (told_connection c) b ≡ false → c.gathered ≤ length b
counted_inside c b e = (counted (told_connection c) b e).0

-- a connection's last record begins inside the bytes for which there is room
begins_inside : (c : Line) (b : List ℕ) (h : Brought) → broken c b ≡ false → begins_at c ≤ length (fitting c b h)
unfolding fitting inside joined
begins_inside c b h e =
    let x : c.gathered ≤ length b = (counted c b e).0 in
    let y : c.gathered ≤ c.limit = (counted c b e).1 in
    let at : begins_at c ≤ c.gathered = by_start (ltb c.gathered c.begins) refl in
    simp (length-take, length-append) (omega arith)
  where
    by_start : (w : Bool) → ltb c.gathered c.begins ≡ w → cond w c.gathered c.begins ≤ c.gathered
    by_start true q = omega arith
    by_start false q = ltb-false _ _ q

-- no more than those are gathered
pub gathers_inside : (R : Reader) (c : Line) (b : List ℕ) (h : Brought) → broken c b ≡ false → (gathers R c b h).gathered ≤ length (fitting c b h)
unfolding gathers
gathers_inside R c b h e = by_going (going R c.met (begins_at c) 0 (drop (begins_at c) (fitting c b h))) refl
  where
    by_going : (g : Going) → going R c.met (begins_at c) 0 (drop (begins_at c) (fitting c b h)) ≡ g → (came_to (otherwise c b h) (length (fitting c b h)) g).gathered ≤ length (fitting c b h)
    by_going (waits at met) q = omega arith
    by_going (decides at met through) q =
        let i = decides_inside R c.met (begins_at c) 0 (drop (begins_at c) (fitting c b h)) q in
        let j = begins_inside c b h e in
        let k = length-drop (begins_at c) (fitting c b h) in
        omega arith

-- after an end record as many are
pub after_gathered : (R : Reader) (n long : ℕ) (closed : Bool) (s : List ℕ) (x : Came) → (after_end R n long closed s x).gathered ≡ x.gathered
unfolding after_end
after_gathered R n long closed s x = go (R.final && is_decided x.how && ends R (drop x.begins s))
  where
    go : (t : Bool) → (cond t (record { gathered = x.gathered; begins = x.begins; met = x.met; how = how_after n long closed x.gathered }) x).gathered ≡ x.gathered
    go true = refl
    go false = refl

pub comes_gathered : (R : Reader) (c : Line) (b : List ℕ) (h : Brought) → (comes R c b h).gathered ≡ (gathers R c b h).gathered
unfolding comes
comes_gathered R c b h = after_gathered R c.limit (length (inside c b h)) h.closed (take (gathers R c b h).gathered (joined c b h)) (gathers R c b h)

pub came_inside : (R : Reader) (c : Line) (b : List ℕ) (h : Brought) → broken c b ≡ false → (comes R c b h).gathered ≤ length (fitting c b h)
came_inside R c b h e = omega (arith, comes_gathered R c b h, gathers_inside R c b h e)

-- they fit into the buffer, and are among the bytes joined
pub fitting_inside : (c : Line) (b : List ℕ) (h : Brought) → (length (fitting c b h) ≤ length b) × (length (fitting c b h) ≤ length (joined c b h))
unfolding fitting inside
fitting_inside c b h = (simp length-take (omega arith), simp length-take (omega arith))

-- the front of what was stored is what was stored
pub front_over : (n : ℕ) (s b : List ℕ) → n ≤ length s → take n (over (take n s) b) ≡ take n s
unfolding over
front_over n s b h = take_at (take n s) _ n (length-take-le n s h)
