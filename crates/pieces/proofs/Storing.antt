-- What is stored of a piece behind the bytes held, and that a store leaves the bytes that it does not reach.
-- Assumes nothing.
use mathlib.Core.Path.{◌≡◌, refl, sym, ◌∙◌, ap}
use mathlib.Core.List.{List, ◌++◌, append_assoc}
use mathlib.Core.Bool.{Bool, true, false}
use Prim.Native.Nat.{ℕ, ◌+◌, ◌-◌, ◌≤◌, ◌<◌}
use native.Mathlib.Omega.{arith}
use native.Mathlib.Nat.{sub-zero}
use borrow.Rule.Slice.PartMut.{mid_of, put_mid, mid_len}
use lib.ListN.{length, take, drop, length-take, take-append-drop}
use lib.Seq.{length-take-le, take_at, take-take, take-append-le, take-append-add, drop-drop, drop-append-add}
use lib.Dec.{leb}
use borrow.Author.Tests.{leb-true, leb-false}
use Rattle.wire.specs.Over.{over, Tried}
use Rattle.wire.proofs.Over.{over_none, over_then}
use Rattle.walk.proofs.Passing.{take_over}

-- bytes of a list written over it leave it as it was
pub over_own : (k : ℕ) (o : List ℕ) → k ≤ length o → over (take k o) o ≡ o
unfolding over
over_own k o h = ap (λ (n : ℕ). take k o ++ drop n o) (length-take-le k o h) ∙ take-append-drop k o

-- what is written over again is not seen
pub over_again : (x y o : List ℕ) → length x ≤ length y → over y (over x o) ≡ over y o
unfolding over
over_again x y o h =
    let e : length x + (length y - length x) ≡ length y = omega arith in
    ap (λ (l : List ℕ). y ++ l)
    (ap (λ (n : ℕ). drop n (x ++ drop (length x) o)) (sym e)
    ∙ drop-append-add x (drop (length x) o) (length y - length x)
    ∙ drop-drop (length y - length x) (length x) o
    ∙ ap (λ (n : ℕ). drop n o) e)

-- the bytes held stand in front of whatever was stored behind them
over_front : (k held : ℕ) (p b : List ℕ) → held ≤ length b → take held (over (take k (take held b ++ p)) b) ≡ take held b
unfolding over
over_front k held p b h = go (leb k held) refl
  where
    f : length (take held b) ≡ held
    f = length-take-le held b h

    go : (t : Bool) → leb k held ≡ t → take held (over (take k (take held b ++ p)) b) ≡ take held b
    go true q =
        let i : k ≤ held = leb-true k held q in
        let e : take k (take held b ++ p) ≡ take k b = take-append-le k (take held b) p (omega (arith, f)) ∙ take-take k held b i in
        ap (λ (l : List ℕ). take held (over l b)) e ∙ ap (take held) (over_own k b (omega arith))
    go false q =
        let i : held < k = leb-false k held q in
        let e : take k (take held b ++ p) ≡ take held b ++ take (k - held) p =
        take_over k (take held b) p (omega (arith, f)) ∙ ap (λ (n : ℕ). take held b ++ take (k - n) p) f in
        ap (λ (l : List ℕ). take held (over l b)) e
        ∙ ap (take held) (append_assoc (take held b) (take (k - held) p) _)
        ∙ take_at (take held b) _ held f

-- ---- what is stored of a piece

module _ (held : ℕ) (p b b₁ : List ℕ) (room : held ≤ length b) (k : ℕ) (e : b₁ ≡ over (take k (take held b ++ p)) b) where
  stored_behind : (m : ℕ) (o : List ℕ) → k ≤ held + m → m ≤ length p → held + m ≤ length b → length b₁ ≡ length b
      → o ≡ over (take m p) (mid_of held (length b₁ - held) b₁) → put_mid held (length b₁ - held) b₁ o ≡ over (take (held + m) (take held b ++ p)) b
  stored_behind m o h i g l q =
      over_then (take held b) (take m p) b₁ b₁ o held f (omega (arith, length-take-le m p i, l)) same q
      ∙ ap (λ (x : List ℕ). over x b₁) (sym front)
      ∙ ap (over (take (held + m) (take held b ++ p))) e
      ∙ over_again (take k (take held b ++ p)) (take (held + m) (take held b ++ p)) b (omega (arith, length-take k (take held b ++ p), length-take (held + m) (take held b ++ p)))
    where
      f : length (take held b) ≡ held
      f = length-take-le held b room

      front : take (held + m) (take held b ++ p) ≡ take held b ++ take m p
      front = ap (λ (n : ℕ). take (n + m) (take held b ++ p)) (sym f) ∙ take-append-add (take held b) p m

      same : b₁ ≡ over (take held b) b₁
      same = sym (ap (λ (x : List ℕ). over x b₁) (sym (ap (take held) e ∙ over_front k held p b room)) ∙ over_own held b₁ (omega (arith, l)))

  -- m bytes of it written behind the bytes held
  pub stored_tried : (m r : ℕ) (o : List ℕ) → k ≤ held + m → m ≤ length p → held + m ≤ length b → length b₁ ≡ length b
      → Tried (length (take (m - 0) p)) (take (m - 0) p) (mid_of held (length b₁ - held) b₁) r o
      → put_mid held (length b₁ - held) b₁ o ≡ over (take (held + m) (take held b ++ p)) b
  stored_tried m r o h i g l q =
      let n : length (take (m - 0) p) ≡ m = ap (λ (x : ℕ). length (take x p)) (sub-zero m) ∙ length-take-le m p i in
      let w : length (mid_of held (length b₁ - held) b₁) ≡ length b₁ - held = mid_len held (length b₁) b₁ (omega arith) in
      stored_behind m o h i g l ((q.room (omega (arith, n, w))).left ∙ ap (λ (x : ℕ). over (take x p) (mid_of held (length b₁ - held) b₁)) (sub-zero m))

-- the same in a buffer that is as it was
pub stored_first : (held : ℕ) (p b : List ℕ) → held ≤ length b → (m r : ℕ) (o : List ℕ) → m ≤ length p → held + length p ≤ length b
    → Tried (length (take (m - 0) p)) (take (m - 0) p) (mid_of held (length b - held) b) r o → put_mid held (length b - held) b o ≡ over (take (held + m) (take held b ++ p)) b
stored_first held p b room m r o h g q = stored_tried held p b b room 0 (sym (over_none b)) m r o (omega arith) h (omega arith) refl q
