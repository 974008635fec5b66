-- The loops over the headers of bytes that a walk covered: the records passed are those that begin before the place; the one stores the cells of
-- those of the kind, the other ends at the first of the kind.
-- Assumes nothing.
use mathlib.Core.Path.{◌≡◌, refl, sym, ap, ◌∙◌}
use mathlib.Core.List.{List, [], ◌∷◌, ◌++◌, append-nil, append_assoc}
use mathlib.Core.Bool.{Bool, true, false, cond, or-true}
use Prim.Native.Nat.{ℕ, zero, suc, ◌+◌, ◌*◌, ◌%◌, ◌<◌, ◌≤◌}
use native.Mathlib.Nat.{add-zero}
use native.Mathlib.Omega.{arith}
use borrow.Author.Tests.{lt-ltb, le-ltb, eq-eqb, ne_eqb}
use lib.Bits.{bit_and, and_mask}
use lib.Dec.{ltb}
use lib.ListN.{length, set, take, drop, length-append, length-set, length-take, length-drop}
use lib.Seq.{take_at, take_all, drop-drop}
use Rattle.wire.specs.Bytes.{number_at}
use Rattle.wire.specs.Over.{over}
use Rattle.wire.proofs.Bytes.{number_drop}
use Rattle.wire.proofs.Over.{over_none}
use Rattle.nts.specs.declared.NtsError.{NtsError}
use Rattle.record.specs.Record.{kind_of, kind, size}
use Rattle.walk.specs.Walk.{Sighting}
use Rattle.walk.specs.Judge.{some}
use Rattle.places.specs.Places.{cells, room_of, sighted, places_from, places_in, first_places, too_many, filling_of, table_with, Holds, Fills}
use Rattle.places.specs.declared.Filled.{Filled}
use Rattle.places.specs.declared.Filled.TheVariants as filled
use Rattle.places.proofs.Cells.{pair_stored}

-- ---- one record at a time

places_drop : (k at j : ℕ) (s : List ℕ) → places_from k at j s ≡ places_from k at 0 (drop j s)
unfolding places_from
places_drop k at zero [] = refl
places_drop k at (suc j) [] = refl
places_drop k at zero (b ∷ s) = refl
places_drop k at (suc j) (b ∷ s) = places_drop k at j s

four : (n : ℕ) → 4 + n ≡ suc (3 + n)
four n = omega arith

unroll : (k at : ℕ) (s : List ℕ)
    → places_from k at 0 s ≡ cond (ltb (length s) (4 + size s)) [] (sighted k at s ++ places_from k (at + (4 + size s)) 0 (drop (4 + size s) s))
unfolding places_from
unroll k at [] = rw (lt-ltb 0 (4 + size []) (omega arith))
unroll k at (b ∷ s) =
    let n = size (b ∷ s) in
    let e : places_from k (at + (4 + n)) (3 + n) s ≡ places_from k (at + (4 + n)) 0 (drop (4 + n) (b ∷ s)) = places_drop k (at + (4 + n)) (3 + n) s ∙ ap (λ (i : ℕ). places_from k (at + (4 + n)) 0 (drop i (b ∷ s))) (sym (four n)) in
    ap (λ (l : List Sighting). cond (ltb (length (b ∷ s)) (4 + n)) [] (sighted k at (b ∷ s) ++ l)) e

-- the record at a place: z is the size that its header says
module _ (s : List ℕ) (k at z : ℕ) (inside : at ≤ length s) (sized : z ≡ number_at s (at + 2)) where
  size_read : z ≡ size (drop at s)
  unfolding size
  size_read = sized ∙ sym (number_drop s at 2)

  -- not all of it is there
  places_none : length s < at + 4 + z → places_from k at 0 (drop at s) ≡ []
  places_none h =
      let last : length (drop at s) < 4 + size (drop at s) = omega (arith, length-drop at s, size_read, inside) in
      unroll k at (drop at s) ∙ rw (lt-ltb (length (drop at s)) (4 + size (drop at s)) last)

  places_on : at + 4 + z ≤ length s → places_from k at 0 (drop at s) ≡ sighted k at (drop at s) ++ places_from k (at + 4 + z) 0 (drop (at + 4 + z) s)
  places_on there =
      let next : at + (4 + size (drop at s)) ≡ at + 4 + z = omega (arith, size_read) in
      let whole : 4 + size (drop at s) ≤ length (drop at s) = omega (arith, length-drop at s, size_read) in
      unroll k at (drop at s) ∙ rw (le-ltb (length (drop at s)) (4 + size (drop at s)) whole, drop-drop (4 + size (drop at s)) at s, next)

-- w is its first word
kind_read : (s : List ℕ) (at w : ℕ) → w ≡ number_at s at → bit_and w 32767 ≡ kind (drop at s)
unfolding kind kind_of
kind_read s at w word = and_mask w 15 ∙ ap (λ (i : ℕ). i % 32768) (word ∙ sym (number_drop s at 0 ∙ ap (number_at s) (add-zero at)))

-- ---- the loop that stores

-- the first n records of kind k in the bytes s, at most count, begin before the place, and their cells are put over the table t₀, which is t so far
pub record Passing (s : List ℕ) (k count : ℕ) (t₀ : List ℕ) (at n : ℕ) (t : List ℕ) : Type 0 where
  pub inside : at ≤ length s
  pub few : n ≤ count
  pub long : length t ≡ length t₀
  pub done : List Sighting
  pub many : n ≡ length done
  pub same : places_in k s ≡ done ++ places_from k at 0 (drop at s)
  pub held : t ≡ over (cells done) t₀

pub passing_start : (s : List ℕ) (k count : ℕ) (t : List ℕ) → Passing s k count t 0 0 t
unfolding places_in
passing_start s k count t = record { inside = omega arith; few = omega arith; long = refl; done = []; many = refl; same = refl; held = sym (over_none t) }

module _ (s : List ℕ) (k count : ℕ) (t₀ : List ℕ) (at n : ℕ) (t : List ℕ) (g : Passing s k count t₀ at n t) where
  -- they are the first of all
  abbrev Ends : Type 0
  Ends = Holds k count s t₀ n at t

  ends : first_places k count s ≡ g.done → Ends
  ends e = record {
    inside = g.inside;
    many = g.many ∙ ap length (sym e);
    rest = g.same ∙ ap (λ (d : List Sighting). d ++ places_from k at 0 (drop at s)) (sym e);
    left = g.held ∙ ap (λ (d : List Sighting). over (cells d) t₀) (sym e);
  }

  -- there are as many as are asked for
  pub passing_all : n ≡ count → Ends
  unfolding first_places
  passing_all e = ends (ap (take count) g.same ∙ take_at g.done _ count (sym g.many ∙ e))

  -- .. or there is room for one more
  pub passing_room : (n ≡ count → ⊥) → 2 * count ≤ length t₀ → 2 * n + 2 ≤ length t
  passing_room less room = omega (arith, g.few, g.long)

  -- z is the size that the header says
  module _ (z : ℕ) (sized : z ≡ number_at s (at + 2)) where
    -- not all of it is there
    pub passing_end : length s < at + 4 + z → Ends
    unfolding first_places
    passing_end h =
        let e : places_in k s ≡ g.done = g.same ∙ ap (λ (l : List Sighting). g.done ++ l) (places_none s k at z g.inside sized h) ∙ append-nil g.done in
        ends (ap (take count) e ∙ take_all count g.done (omega (arith, g.few, g.many)))

    -- it is there, and w is its first word
    module _ (w : ℕ) (word : w ≡ number_at s at) (there : at + 4 + z ≤ length s) where
      onward : places_in k s ≡ (g.done ++ sighted k at (drop at s)) ++ places_from k (at + 4 + z) 0 (drop (at + 4 + z) s)
      onward =
          g.same
          ∙ ap (λ (l : List Sighting). g.done ++ l) (places_on s k at z g.inside sized there)
          ∙ sym (append_assoc g.done (sighted k at (drop at s)) (places_from k (at + 4 + z) 0 (drop (at + 4 + z) s)))

      -- of another kind
      pub passing_other : (bit_and w 32767 ≡ k → ⊥) → Passing s k count t₀ (at + 4 + z) n t
      unfolding sighted
      passing_other h = record {
        inside = there;
        few = g.few;
        long = g.long;
        done = g.done;
        many = g.many;
        same = rw (ne_eqb (kind (drop at s)) k (λ e. h (kind_read s at w word ∙ e)), append-nil g.done) at onward;
        held = g.held;
      }

      -- of this kind: its two cells are stored
      pub passing_one : bit_and w 32767 ≡ k → (n ≡ count → ⊥) → 2 * count ≤ length t₀ → Passing s k count t₀ (at + 4 + z) (n + 1) (set (set t (2 * n) (at + 4)) (2 * n + 1) z)
      unfolding sighted
      passing_one h less room =
          let x : Sighting = record { of = k; start = at + 4; len = z } in
          let m = g.many in
          let f = g.few in
          record {
            inside = there;
            few = omega arith;
            long = simp length-set g.long;
            done = g.done ++ (x ∷ []);
            many = simp length-append (omega arith);
            same = rw (eq-eqb (kind (drop at s)) k (sym (kind_read s at w word) ∙ h), ← size_read s k at z g.inside sized) at onward;
            held = rw (g.held, m) (pair_stored g.done x t₀ (omega arith));
          }

  -- the header is not all there
  pub passing_cut : length s < at + 4 → Ends
  passing_cut h = passing_end (number_at s (at + 2)) refl (omega arith)

-- ---- the loop that looks for one more

-- from the place `here` on there are the records of kind k that are there from a place before it
pub record Seeking (s : List ℕ) (k at here : ℕ) : Type 0 where
  pub inside : here ≤ length s
  pub same : places_from k at 0 (drop at s) ≡ places_from k here 0 (drop here s)

pub seeking_start : (s : List ℕ) (k at : ℕ) → at ≤ length s → Seeking s k at at
seeking_start s k at h = record { inside = h; same = refl }

module _ (s : List ℕ) (k at here : ℕ) (g : Seeking s k at here) where
  module _ (z : ℕ) (sized : z ≡ number_at s (here + 2)) where
    -- not all of the record is there
    pub seeking_end : length s < here + 4 + z → false ≡ some (places_from k at 0 (drop at s))
    seeking_end h = ap some (sym (g.same ∙ places_none s k here z g.inside sized h))

    module _ (w : ℕ) (word : w ≡ number_at s here) (there : here + 4 + z ≤ length s) where
      onward_from : places_from k at 0 (drop at s) ≡ sighted k here (drop here s) ++ places_from k (here + 4 + z) 0 (drop (here + 4 + z) s)
      onward_from = g.same ∙ places_on s k here z g.inside sized there

      pub seeking_one : bit_and w 32767 ≡ k → true ≡ some (places_from k at 0 (drop at s))
      unfolding sighted
      seeking_one h = ap some (sym (rw (eq-eqb (kind (drop here s)) k (sym (kind_read s here w word) ∙ h)) at onward_from))

      pub seeking_other : (bit_and w 32767 ≡ k → ⊥) → Seeking s k at (here + 4 + z)
      unfolding sighted
      seeking_other h = record { inside = there; same = rw (ne_eqb (kind (drop here s)) k (λ e. h (kind_read s here w word ∙ e))) at onward_from }

  -- the header is not all there
  pub seeking_cut : length s < here + 4 → false ≡ some (places_from k at 0 (drop at s))
  seeking_cut h = seeking_end (number_at s (here + 2)) refl (omega arith)

-- ---- the answer

some_length : {A : Type 0} (l : List A) → some l ≡ true → 0 < length l
some_length [] e = let z : ◌≡◌ {A = ℕ} 0 1 = cc in absurd (omega arith)
some_length (x ∷ l) e = omega arith

none_length : {A : Type 0} (l : List A) → some l ≡ false → length l ≡ 0
none_length [] e = refl
none_length (x ∷ l) e = let z : ◌≡◌ {A = ℕ} 0 1 = cc in absurd (omega arith)

module _ (k count : ℕ) (s t : List ℕ) where
  pub not_many : count ≤ room_of t → length s ≤ 65535 → too_many count s (room_of t) ≡ false
  unfolding too_many
  not_many h l = rw (le-ltb (room_of t) count h, le-ltb 65535 (length s) l)

  module _ (n at : ℕ) (t' : List ℕ) (room : count ≤ room_of t) (short : length s ≤ 65535) (p : Holds k count s t n at t') (more : Bool) (told : more ≡ some (places_from k at 0 (drop at s))) where
    total : length (places_in k s) ≡ n + length (places_from k at 0 (drop at s))
    total = ap length p.rest ∙ length-append (first_places k count s) _ ∙ omega (arith, p.many)

    taken : n ≡ length (take count (places_in k s))
    unfolding first_places
    taken = p.many

    left_filled : t' ≡ table_with k count s t
    unfolding table_with
    left_filled = rw (not_many room short, p.left)

    -- one more follows
    pub fills_first : more ≡ true → Fills k count s t (filled.First n) t'
    unfolding filling_of
    fills_first follow =
        let some_more = some_length (places_from k at 0 (drop at s)) (sym told ∙ follow) in
        let less : count < length (places_in k s) = omega (arith, total, taken, some_more, length-take count (places_in k s)) in
        let all : n ≡ count = omega (arith, total, taken, some_more, length-take count (places_in k s)) in
        record { says = rw (not_many room short, lt-ltb count (length (places_in k s)) less, all); left = left_filled }

    -- none does
    pub fills_all : more ≡ false → Fills k count s t (filled.Stored n) t'
    unfolding filling_of
    fills_all end =
        let no_more = none_length (places_from k at 0 (drop at s)) (sym told ∙ end) in
        let all : n ≡ length (places_in k s) = omega (arith, total, no_more) in
        let enough : length (places_in k s) ≤ count = omega (arith, total, taken, no_more, length-take count (places_in k s)) in
        record { says = rw (not_many room short, le-ltb count (length (places_in k s)) enough, all); left = left_filled }

  module _ (r : Filled) (full : r ≡ filled.Refused (record { error = NtsError.TableFull; place = length s })) where
    fills_not : too_many count s (room_of t) ≡ true → Fills k count s t r t
    unfolding filling_of table_with
    fills_not e = record { says = rw (full, e); left = rw e }

    pub fills_long : 65535 < length s → Fills k count s t r t
    unfolding too_many
    fills_long h = fills_not (rw (lt-ltb 65535 (length s) h, or-true))

    pub fills_many : room_of t < count → Fills k count s t r t
    unfolding too_many
    fills_many h = fills_not (rw (lt-ltb (room_of t) count h))
