-- What a walk that ended noted of a kind that it always notes is what the headers before its end record say: the table filled from the bytes
-- that it covered. For every reader.
-- Assumes nothing.
use mathlib.Core.Path.{◌≡◌, refl, sym, ap, ◌∙◌}
use mathlib.Core.List.{List, [], ◌∷◌, ◌++◌, append-nil, append_assoc}
use mathlib.Core.Bool.{Bool, true, false, cond}
use mathlib.Core.Logic.{⊎_elim}
use Prim.Native.Nat.{ℕ, zero, suc, ◌+◌, ◌-◌, ◌<◌, ◌≤◌}
use native.Mathlib.Nat.{sub-zero}
use native.Mathlib.Omega.{arith}
use borrow.Author.Tests.{le-ltb, eq-eqb, ne_eqb, eqb-true}
use lib.Dec.{eqb}
use lib.ListN.{length, take, drop, length-take}
use lib.Seq.{take-take, take_all}
use Rattle.wire.specs.Over.{over}
use Rattle.wire.proofs.Bytes.{number_take}
use Rattle.record.specs.Record.{kind, critical, size, there}
use Rattle.walk.specs.Walk.{Act, notes, Reader, Sighting, Outcome, ended, Step, stops, goes, meet, judge, step, act_in, walk}
use Rattle.walk.specs.Judge.{of_kind}
use Rattle.walk.specs.Table.{act_by}
use Rattle.layout.specs.Profile.{asks_of, knows, allows}
use Rattle.layout.specs.declared.Profile.{Profile}
use Rattle.walk.proofs.Faultless.{faultless_whole}
use Rattle.walk.proofs.Meets.{place_between}
use Rattle.walk.proofs.Noted.{Went, step_went, step_ended, kind_append}
use Rattle.places.specs.Places.{cells, room_of, sighted, places_from, places_in, first_places, table_with, Fills}
use Rattle.places.specs.declared.Filled.{Filled}
use Rattle.places.proofs.Filling.{not_many}

-- the front of a message, as code cuts it
front_cut : (n : ℕ) (m : List ℕ) → take (n - 0) (drop 0 m) ≡ take n m
front_cut n m = rw sub-zero

-- a table f over the known kinds always notes a kind that it has as noted, where the profile asks nothing more of it
pub table_notes : (P : Profile) (f : ℕ → List ℕ → Act) (k : ℕ) → (k ≡ 0 → ⊥) → knows P k ≡ true → ((bit : Bool) (b : List ℕ) → allows (asks_of P k) bit b ≡ true) → ((b : List ℕ) → f k b ≡ notes)
    → (bit : Bool) (b : List ℕ) → act_by P f k bit b ≡ notes
unfolding act_by
table_notes P f k other is_Known plain noted bit b = rw (plain bit b, is_Known, ne_eqb k 0 other) (noted b)

-- a header that is taken is read as it is
module _ (n : ℕ) (t : List ℕ) (h : 4 ≤ n) where
  size_take : size (take n t) ≡ size t
  unfolding size
  size_take = number_take t n 2 (omega arith)

  kind_take : kind (take n t) ≡ kind t
  unfolding kind
  kind_take = rw (number_take t n 0 (omega arith))

-- a reader that notes every record of kind k, as often as it stands
module _ (R : Reader) (k : ℕ) (always : (bit : Bool) (b : List ℕ) → R.act k bit b ≡ notes) (often : R.once k ≡ false) where
  -- one record that the walk goes past
  step_places : (st st₁ : List Sighting) (at : ℕ) (t : List ℕ) → step R st at t ≡ goes st₁ → of_kind k st₁ ≡ of_kind k st ++ sighted k at t
  unfolding step judge meet act_in sighted
  step_places st st₁ at t y = go (eqb (kind t) k) refl
    where
      w : Went R st st₁ at t
      w = step_went R st st₁ at t y

      here : kind t ≡ k → st₁ ≡ st ++ (record { of = k; start = at + 4; len = size t } ∷ [])
      here e =
          let x : judge R st at t 0 ≡ goes st₁ = rw w.faultless at y in
          let a : act_in R t ≡ notes = rw (e, act_in) (always (critical t) (there t)) in
          let q : meet R st at (kind t) (size t) notes ≡ goes st₁ = rw a at x in
          let z : goes (st ++ (record { of = k; start = at + 4; len = size t } ∷ [])) ≡ goes st₁ = rw (e, often) at q in
          cc

      not_here : eqb (kind t) k ≡ false → of_kind k w.more ≡ []
      not_here e = ⊎_elim (λ o. ap (of_kind k) o) (λ o. ap (of_kind k) o ∙ rw e) w.only

      go : (b : Bool) → eqb (kind t) k ≡ b → of_kind k st₁ ≡ of_kind k st ++ cond b (record { of = k; start = at + 4; len = size t } ∷ []) []
      go true e = ap (of_kind k) (here (eqb-true (kind t) k e)) ∙ kind_append k st _ ∙ rw (eq-eqb k k refl)
      go false e = ap (of_kind k) w.grown ∙ kind_append k st w.more ∙ rw (not_here e)

  -- a walk ends at or behind the place from which it goes
  ends_behind : (st : List Sighting) (at j : ℕ) (s : List ℕ) (p next : ℕ) (st' : List Sighting) → walk R st at j s ≡ ended p next st' → at ≤ p
  ends_behind st at j s p next st' e = rw e at (place_between R st at j s (at + length s) (omega arith) (omega arith)).0

  -- c bytes of s are covered, up to the end record
  walk_places : (st : List Sighting) (at j : ℕ) (s : List ℕ) (p next : ℕ) (st' : List Sighting) (c : ℕ) → walk R st at j s ≡ ended p next st' → p + j ≡ at + c
      → of_kind k st' ≡ of_kind k st ++ places_from k at j (take c s)
  unfolding walk places_from sighted
  walk_places st at j [] p next st' c e l = let o : ◌≡◌ {A = ℕ} 0 1 = cc in absurd (omega arith)
  walk_places st at (suc j) (b ∷ s) p next st' zero e l = absurd (omega (arith, ends_behind st at j s p next st' e))
  walk_places st at (suc j) (b ∷ s) p next st' (suc c) e l = walk_places st at j s p next st' c e (omega arith)
  walk_places st at zero (b ∷ s) p next st' c e l =
      go c (step R st at (b ∷ s)) refl e l (λ st₁ d g i. walk_places st₁ (at + (4 + size (b ∷ s))) (3 + size (b ∷ s)) s p next st' d g i)
    where
      n : ℕ
      n = size (b ∷ s)

      go : (c : ℕ) (y : Step) → step R st at (b ∷ s) ≡ y
          → ◌≡◌ {A = Outcome} (elim y as (λ (x : Step). Outcome) [ stops o ↦ o | goes st₁ ↦ walk R st₁ (at + (4 + n)) (3 + n) s ]) (ended p next st')
          → p + 0 ≡ at + c
          → ((st₁ : List Sighting) (d : ℕ) → walk R st₁ (at + (4 + n)) (3 + n) s ≡ ended p next st' → p + (3 + n) ≡ at + (4 + n) + d → of_kind k st' ≡ of_kind k st₁ ++ places_from k (at + (4 + n)) (3 + n) (take d s))
          → of_kind k st' ≡ of_kind k st ++ places_from k at 0 (take c (b ∷ s))
      go zero (stops o) y q l ih = ap (of_kind k) (step_ended R st st' at p next (b ∷ s) (y ∙ ap stops q)).1 ∙ sym (append-nil (of_kind k st))
      go (suc c) (stops o) y q l ih = absurd (omega (arith, (step_ended R st st' at p next (b ∷ s) (y ∙ ap stops q)).0))
      go zero (goes st₁) y q l ih = absurd (omega (arith, ends_behind st₁ (at + (4 + n)) (3 + n) s p next st' q))
      go (suc c) (goes st₁) y q l ih =
          let f = faultless_whole R (b ∷ s) (step_went R st st₁ at (b ∷ s) y).faultless in
          let g = ends_behind st₁ (at + (4 + n)) (3 + n) s p next st' q in
          let z : size (b ∷ take c s) ≡ n = size_take (suc c) (b ∷ s) (omega arith) in
          let x : kind (b ∷ take c s) ≡ kind (b ∷ s) = kind_take (suc c) (b ∷ s) (omega arith) in
          let long : 4 + n ≤ length (b ∷ take c s) = simp length-take (omega arith) in
          ih st₁ c q (omega arith)
          ∙ ap (λ (d : List Sighting). d ++ places_from k (at + (4 + n)) (3 + n) (take c s)) (step_places st st₁ at (b ∷ s) y)
          ∙ append_assoc (of_kind k st) (sighted k at (b ∷ s)) (places_from k (at + (4 + n)) (3 + n) (take c s))
          ∙ rw (z, x, le-ltb (length (b ∷ take c s)) (4 + n) long)

  -- a walk over a message, cut after n bytes, that ended
  module _ (m : List ℕ) (n at next : ℕ) (st : List Sighting) (e : walk R [] 0 0 (take n m) ≡ ended at next st) where
    covered : at ≤ length (take n m)
    covered = rw e at (place_between R [] 0 0 (take n m) (length (take n m)) (omega arith) (omega arith)).1

    -- the records before its end record
    pub places_noted : places_in k (take at m) ≡ of_kind k st
    unfolding places_in
    places_noted = rw (take-take at n m (omega (arith, covered, length-take n m))) at (sym (walk_places [] 0 0 (take n m) at next st at e (omega arith)))

    -- the table that is filled from them, as many as were noted, where there is room
    module _ (t : List ℕ) (count : ℕ) (all : count ≡ length (of_kind k st)) (h : count ≤ room_of t) (l : n < 65536) where
      pub table_noted : table_with k count (take at m) t ≡ over (cells (of_kind k st)) t
      unfolding table_with first_places
      table_noted =
          let short : length (take at m) ≤ 65535 = omega (arith, covered, length-take n m, length-take at m) in
          rw (not_many k count (take at m) t h short, places_noted, take_all count (of_kind k st) (omega arith))

      -- .. as `fill` leaves it, with the bytes before the place at which the walk stopped
      pub fill_noted : (p : ℕ) → p ≡ at → (r : Filled) (t' : List ℕ) → Fills k count (take (p - 0) (drop 0 m)) t r t' → t' ≡ over (cells (of_kind k st)) t
      fill_noted p e r t' f = f.left ∙ ap (λ (s : List ℕ). table_with k count s t) (front_cut p m ∙ ap (λ (i : ℕ). take i m) e) ∙ table_noted
