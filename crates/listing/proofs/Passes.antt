-- The two passes over the records: what the lines passed so far leave of the room, and what they are in the output.
-- Assumes nothing.
use mathlib.Core.Path.{◌≡◌, refl, sym, ap, ◌∙◌, subst}
use mathlib.Core.Bool.{true, false}
use mathlib.Core.List.{List, [], ◌++◌, append_assoc, append-nil}
use Prim.Native.Nat.{ℕ, ◌+◌, ◌-◌, ◌<◌, ◌≤◌}
use native.Mathlib.Omega.{arith}
use borrow.Author.Tests.{leb-true, leb-false, le-leb, lt-leb}
use borrow.Rule.Slice.PartMut.{mid_of, put_mid}
use lib.Dec.{leb}
use lib.ListN.{length, length-append}
use Rattle.wire.specs.Over.{Put, Tried}
use Rattle.wire.proofs.Over.{length_over, over_none, put_as, try_then}
use Rattle.record.specs.declared.Glance.{Glance}
use Rattle.walk.specs.Walk.{Sighting}
use Rattle.listing.specs.Code.{row_line, stop_from, lines_from, LinesBy, LineAt}
use Rattle.listing.specs.declared.Line.{Line}
use Rattle.listing.specs.declared.Line.TheVariants as line
use Rattle.listing.proofs.Digits.{on}

-- what a line found says of the lines from there on, where the walk goes by there to its place
here : {s : List ℕ} {place at : ℕ} {r : Line} (st : List Sighting) (r' : Line) → LineAt s place at r → place ≡ stop_from s st at → r ≡ r' → LinesBy s st at r'
here {s} {place} {at} st r' a p e = subst (LinesBy s st at) e (a.same st p)

-- ---- the first pass: s is the message, `at` the place, and `left` what is left of the room

pub record Fitting (s : List ℕ) (place room at left : ℕ) : Type 0 where
  pub state : List Sighting
  pub stop : place ≡ stop_from s state at
  pub same : length (lines_from s [] 0) + left ≡ length (lines_from s state at) + room

pub fitting_start : (s : List ℕ) (place room : ℕ) → place ≡ stop_from s [] 0 → Fitting s place room 0 room
fitting_start s place room p = record { state = []; stop = p; same = refl }

module _ {s : List ℕ} {place room at left : ℕ} {r : Line} (g : Fitting s place room at left) (a : LineAt s place at r) where
  pub fits_none : r ≡ line.None → true ≡ leb (length (lines_from s [] 0)) room
  fits_none e = let h = ap length (here g.state line.None a g.stop e) in sym (le-leb (length (lines_from s [] 0)) room (omega (arith, g.same)))

  pub fits_last : (x : Glance) (n : ℕ) → r ≡ line.Last x → n ≡ length (row_line at x) → leb n left ≡ leb (length (lines_from s [] 0)) room
  fits_last x n e q =
      let h = ap length (here g.state (line.Last x) a g.stop e) in
      on (leb n left)
      (λ t. t ∙ sym (le-leb (length (lines_from s [] 0)) room (omega (arith, g.same, leb-true n left t))))
      (λ t. t ∙ sym (lt-leb (length (lines_from s [] 0)) room (omega (arith, g.same, leb-false n left t))))

  module _ (x : Glance) (next n : ℕ) (e : r ≡ line.More x next) (q : n ≡ length (row_line at x)) where
    onward : LinesBy s g.state at (line.More x next)
    onward = here g.state (line.More x next) a g.stop e

    more : length (lines_from s g.state at) ≡ n + length (lines_from s onward.0 next)
    more = ap length onward.1 ∙ length-append (row_line at x) (lines_from s onward.0 next) ∙ ap (λ (k : ℕ). k + length (lines_from s onward.0 next)) (sym q)

    pub fits_not : left < n → false ≡ leb (length (lines_from s [] 0)) room
    fits_not h = sym (lt-leb (length (lines_from s [] 0)) room (omega (arith, g.same, more)))

    pub fits_on : n ≤ left → Fitting s place room next (left - n)
    fits_on h = record { state = onward.0; stop = g.stop ∙ onward.2; same = omega (arith, g.same, more) }

-- ---- the second pass: o₀ is the output as it was lent and o as it is now, and `to` the place in it

pub record Writing (s : List ℕ) (place : ℕ) (o₀ o : List ℕ) (at to : ℕ) : Type 0 where
  pub state : List Sighting
  pub stop : place ≡ stop_from s state at
  pub room : to ≤ length o
  pub long : length o ≡ length o₀
  pub done : List ℕ
  pub put : Put (length done) done o₀ to o
  pub same : lines_from s [] 0 ≡ done ++ lines_from s state at

pub writing_start : (s : List ℕ) (place : ℕ) (o : List ℕ) → place ≡ stop_from s [] 0 → Writing s place o o 0 0
writing_start s place o p = record { state = []; stop = p; room = omega arith; long = refl; done = []; put = record { count = refl; size = refl; left = sym (over_none o) }; same = refl }

-- a writer that had room leaves the output as long as it was
put_long : {n r : ℕ} {b o o' : List ℕ} → Put n b o r o' → n ≤ length o → length o' ≡ length o
put_long {n} {r} {b} {o} {o'} p h = ap length p.left ∙ length_over b o (omega (arith, p.size))

module _ {s : List ℕ} {place : ℕ} {o₀ o : List ℕ} {at to : ℕ} {r : Line} (fits : length (lines_from s [] 0) ≤ length o₀) (g : Writing s place o₀ o at to) (a : LineAt s place at r) where
  pub writing_none : r ≡ line.None → Put (length (lines_from s [] 0)) (lines_from s [] 0) o₀ to o
  writing_none e =
      let h : g.done ≡ lines_from s [] 0 = sym (g.same ∙ ap (λ (k : List ℕ). g.done ++ k) (here g.state line.None a g.stop e) ∙ append-nil g.done) in
      put_as g.put (ap length h) h

  pub writing_last : (x : Glance) {k : ℕ} {o₂ : List ℕ} → r ≡ line.Last x → Tried (length (row_line at x)) (row_line at x) (mid_of to (length o - to) o) k o₂
      → Put (length (lines_from s [] 0)) (lines_from s [] 0) o₀ (to + k) (put_mid to (length o - to) o o₂)
  writing_last x e t =
      let h : g.done ++ row_line at x ≡ lines_from s [] 0 = sym (g.same ∙ ap (λ (k : List ℕ). g.done ++ k) (here g.state (line.Last x) a g.stop e)) in
      let n : length g.done + length (row_line at x) ≡ length (lines_from s [] 0) = sym (length-append g.done (row_line at x)) ∙ ap length h in
      put_as (try_then g.put t (omega (arith, n))) n h

  pub writing_on : (x : Glance) (next : ℕ) {k : ℕ} {o₂ : List ℕ} → r ≡ line.More x next → Tried (length (row_line at x)) (row_line at x) (mid_of to (length o - to) o) k o₂
      → Writing s place o₀ (put_mid to (length o - to) o o₂) next (to + k)
  writing_on x next {k} {o₂} e t =
      let f = here g.state (line.More x next) a g.stop e in
      let rest = lines_from s f.0 next in
      let h : lines_from s [] 0 ≡ (g.done ++ row_line at x) ++ rest = g.same ∙ ap (λ (k : List ℕ). g.done ++ k) f.1 ∙ sym (append_assoc g.done (row_line at x) rest) in
      let n : length (g.done ++ row_line at x) ≡ length g.done + length (row_line at x) = length-append g.done (row_line at x) in
      let w : length (lines_from s [] 0) ≡ length (g.done ++ row_line at x) + length rest = ap length h ∙ length-append (g.done ++ row_line at x) rest in
      let p : Put (length (g.done ++ row_line at x)) (g.done ++ row_line at x) o₀ (to + k) (put_mid to (length o - to) o o₂) = put_as (try_then g.put t (omega (arith, n, w))) (sym n) refl in
      let z : length (put_mid to (length o - to) o o₂) ≡ length o₀ = put_long p (omega (arith, w)) in
      record { state = f.0; stop = g.stop ∙ f.2; room = omega (arith, z, p.count, w); long = z; done = g.done ++ row_line at x; put = p; same = h }
