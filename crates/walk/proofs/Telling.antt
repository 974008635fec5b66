-- A finding says what the cells and the walk say, both ways: the cells that stand for the records met are the finding's, and the finding's stand for
-- them.
-- Assumes nothing.
use mathlib.Core.Path.{◌≡◌, refl, sym, ap, ◌∙◌}
use mathlib.Core.List.{List, [], ◌∷◌, map}
use mathlib.Core.Bool.{Bool, true, false, cond, ◌&&◌, true≢false}
use borrow.Author.Tests.{eqb-false, ne_eqb}
use lib.Dec.{ltb, eqb}
use Prim.Native.Nat.{ℕ, zero, suc, ◌+◌, ◌*◌, ◌<◌}
use native.Mathlib.Omega.{arith}
use lib.ListN.{length, take, get_or}
use Rattle.nts.specs.Refusal.{nothing, Refused, number_of, beside_of}
use Rattle.layout.specs.Profile.{asks_of, is_final, knows, allows}
use Rattle.nts.specs.declared.NtsError.{NtsError}
use Rattle.walk.specs.Walk.{passes, notes, refuses, Reader, Sighting, Outcome, stopped, ended, walk, walked}
use Rattle.walk.specs.Judge.{of_kind}
use Rattle.walk.specs.Rules.{Rules, entry_of, is_noted, act_at, reader_of}
use Rattle.walk.specs.Shown.{Mark, shown, counted}
use Rattle.walk.specs.Found.{seen_of, entry_in, Stands, way_of, way_by, place_of, next_of, counted_in, Walks}
use Rattle.walk.specs.Finding.{Found, three_of, cells_from, found_by, as_finding, told_finding}
use Rattle.walk.specs.Code.{ended_in, slot_in}
use Rattle.walk.proofs.Looking.{slot_known}
use Rattle.walk.proofs.Unnoted.{walk_unnoted}
use Rattle.walk.proofs.Behind.{follows, ended_walked, ended_followed, stopped_walked}
use Rattle.walk.specs.declared.Seen.{Seen}
use Rattle.walk.specs.declared.Finding.{Finding}
use Rattle.walk.specs.declared.Walked.{Walked}
use Rattle.walk.specs.declared.Stop.{Stop}
use Rattle.walk.specs.declared.Stop.TheVariants as stop
use Rattle.walk.specs.declared.Halted.{Halted}
use Rattle.walk.proofs.Standing.{Kept, kept_start}
use Rattle.walk.proofs.Keeping.{walk_kept}

-- ---- the cells

-- behind the first three cells
entry_behind : (a b d : ℕ) (c : List ℕ) (j : ℕ) → entry_in (a ∷ b ∷ d ∷ c) (suc j) ≡ entry_in c j
entry_behind a b d c j =
    let p : suc j * 3 ≡ suc (suc (suc (j * 3))) = omega arith in
    let q : suc j * 3 + 1 ≡ suc (suc (suc (j * 3 + 1))) = omega arith in
    let r : suc j * 3 + 2 ≡ suc (suc (suc (j * 3 + 2))) = omega arith in
    λ i. record { count = get_or (a ∷ b ∷ d ∷ c) (p i) 0; start = get_or (a ∷ b ∷ d ∷ c) (q i) 0; len = get_or (a ∷ b ∷ d ∷ c) (r i) 0 }

from_length : (k n : ℕ) (l : List Sighting) → length (cells_from k n l) ≡ n * 3
unfolding cells_from
from_length k zero l = refl
from_length k (suc n) l = omega (arith, from_length (suc k) n l)

from_entry : (k n : ℕ) (l : List Sighting) (j : ℕ) → j < n → entry_in (cells_from k n l) j ≡ seen_of (of_kind (k + j) l)
unfolding cells_from
from_entry k zero l j h = absurd (omega arith)
from_entry k (suc n) l zero h = let e : k + 0 ≡ k = omega arith in rw e
from_entry k (suc n) l (suc j) h =
    let e : suc k + j ≡ k + suc j = omega arith in
    let x = seen_of (of_kind k l) in
    entry_behind x.count x.start x.len (cells_from (suc k) n l) j ∙ from_entry (suc k) n l j (omega arith) ∙ ap (λ (i : ℕ). seen_of (of_kind i l)) e

three_cells : (c : List ℕ) (n : ℕ) → length c ≡ suc n * 3 → (c' : List ℕ) × (c ≡ three_of (entry_in c 0) c') × (length c' ≡ n * 3)
three_cells [] n e = absurd (omega arith)
three_cells (a ∷ []) n e = absurd (omega arith)
three_cells (a ∷ b ∷ []) n e = absurd (omega arith)
three_cells (a ∷ b ∷ d ∷ c) n e = (c, refl, omega arith)

pub cells_are : (c : List ℕ) (k n : ℕ) (l : List Sighting) → length c ≡ n * 3 → ((j : ℕ) → j < n → entry_in c j ≡ seen_of (of_kind (k + j) l)) → c ≡ cells_from k n l
unfolding cells_from
cells_are [] k zero l e h = refl
cells_are (x ∷ c) k zero l e h = absurd (omega arith)
cells_are c k (suc n) l e h =
    let t = three_cells c n e in
    let first : entry_in c 0 ≡ seen_of (of_kind k l) = h 0 (omega arith) ∙ ap (λ (i : ℕ). seen_of (of_kind i l)) (omega arith) in
    let behind : (j : ℕ) → j < n → entry_in t.0 j ≡ seen_of (of_kind (suc k + j) l) =
    λ j i. sym (entry_behind (entry_in c 0).count (entry_in c 0).start (entry_in c 0).len t.0 j) ∙ ap (λ (x : List ℕ). entry_in x (suc j)) (sym t.1) ∙ h (suc j) (omega arith) ∙ ap (λ (i : ℕ). seen_of (of_kind i l)) (omega arith) in
    t.1 ∙ ap (λ (x : Seen). three_of x t.0) first ∙ ap (three_of (seen_of (of_kind k l))) (cells_are t.0 (suc k) n l t.2 behind)

pub stands_told : (c : List ℕ) (l : List Sighting) → Stands c l → c ≡ cells_from 0 15 l
stands_told c l s = cells_are c 0 15 l s.all (λ j h. s.each j h ∙ ap (λ (i : ℕ). seen_of (of_kind i l)) (omega arith))

pub told_stands : (l : List Sighting) → Stands (cells_from 0 15 l) l
told_stands l = record { all = from_length 0 15 l; each = λ j h. from_entry 0 15 l j h ∙ ap (λ (i : ℕ). seen_of (of_kind i l)) (omega arith) }

-- ---- the finding

module _ (rules : Rules) (m : List ℕ) (n : ℕ) where
  abbrev R : Reader
  R = reader_of rules

  abbrev s : List ℕ
  s = take n m

  module _ (h : Halted) (c : List ℕ) (w : Walks rules s h c) where
    -- the cells, and how the whole message stopped
    told_found : (p : ℕ) (x : Stop) → way_by p x ≡ way_of (walked R s) → ◌≡◌ {A = Found} (record { limit = n; cells = c; way = way_by p x }) (found_by R m n)
    unfolding found_by
    told_found p x e =
        let y = stands_told c _ w.met in
        λ i. record { limit = n; cells = y i; way = e i }

    -- a walk that was refused
    pub refused_found : (e : NtsError) → h.stop ≡ stop.Refused e → ◌≡◌ {A = Found} (record { limit = n; cells = c; way = way_by h.place h.stop }) (found_by R m n)
    refused_found e q = told_found h.place h.stop (go (walk R [] 0 0 s) refl (sym (ap (way_by h.place) q) ∙ w.says))
      where
        go : (o : Outcome) → walk R [] 0 0 s ≡ o → way_by h.place (stop.Refused e) ≡ way_of o → way_by h.place h.stop ≡ way_of (walked R s)
        go (stopped r) z g = ap (way_by h.place) q ∙ g ∙ sym (ap way_of (stopped_walked R s r z))
        go (ended at next st) z g = let o : ◌≡◌ {A = ℕ} 0 1 = cc in absurd (omega arith)

    -- one that came to the end record
    pub ended_found : h.stop ≡ stop.End → (r : Walked) → r ≡ ended_in rules.profile n h.place h.next (length s) → told_finding (as_finding r c) ≡ found_by R m n
    unfolding ended_in
    ended_found q r e = ap (λ (y : Walked). told_finding (as_finding y c)) e ∙ go (walk R [] 0 0 s) refl (sym (ap (way_by h.place) q) ∙ w.says) w.after
      where
        by : (at next : ℕ) (st : List Sighting) → walk R [] 0 0 s ≡ ended at next st → (b : Bool) → follows R s next ≡ b
            → told_finding (as_finding (cond b (record { limit = n; place = next; stop = stop.Refused NtsError.NotAllowed }) (record { limit = n; place = at; stop = stop.End })) c) ≡ found_by R m n
        by at next st z true f = told_found next (stop.Refused NtsError.NotAllowed) (sym (ap way_of (ended_followed R s at next st z f)))
        by at next st z false f = told_found at stop.End (sym (ap way_of (ended_walked R s at next st z f)))

        go : (o : Outcome) → walk R [] 0 0 s ≡ o → way_by h.place stop.End ≡ way_of o → h.next ≡ next_of (walk R [] 0 0 s)
            → told_finding (as_finding (cond (is_final rules.profile && ltb h.next (length s)) (record { limit = n; place = h.next; stop = stop.Refused NtsError.NotAllowed }) (record { limit = n; place = h.place; stop = stop.End })) c) ≡ found_by R m n
        go (stopped x) z g f = let o : ◌≡◌ {A = ℕ} 0 1 = cc in absurd (omega arith)
        go (ended at next st) z g f =
            let a : h.place ≡ at = cc in
            let b : h.next ≡ next = f ∙ ap next_of z in
            (λ i. told_finding (as_finding (cond (is_final rules.profile && ltb (b i) (length s)) (record { limit = n; place = b i; stop = stop.Refused NtsError.NotAllowed }) (record { limit = n; place = a i; stop = stop.End })) c))
            ∙ by at next st z (follows R s next) refl

  -- of a kind that the profile does not know, none is noted, and none counted but under 11
  none_noted : (k : ℕ) → knows rules.profile k ≡ false → (bit : Bool) (b : List ℕ) → act_at rules k bit b ≡ notes → ⊥
  unfolding act_at
  none_noted k h bit b e = go (allows (asks_of rules.profile k) bit b) bit (rw h at e)
    where
      go : (a c : Bool) → cond a (cond c (refuses 3 nothing) passes) (refuses 18 nothing) ≡ notes → ⊥
      go true true z = let o : ◌≡◌ {A = ℕ} 0 1 = cc in omega arith
      go true false z = let o : ◌≡◌ {A = ℕ} 0 1 = cc in omega arith
      go false c z = let o : ◌≡◌ {A = ℕ} 0 1 = cc in omega arith

  slot_other : (k j : ℕ) → knows rules.profile k ≡ false → eqb k 11 ≡ false → eqb (slot_in rules j) k ≡ false
  slot_other k j h z = go (knows rules.profile j) refl
    where
      go : (b : Bool) → knows rules.profile j ≡ b → eqb (slot_in rules j) k ≡ false
      go true i = rw (slot_known rules j true i) (ne_eqb j k (λ e. true≢false (sym i ∙ ap (knows rules.profile) e ∙ h)))
      go false i = rw (slot_known rules j false i) (ne_eqb 11 k (λ e. eqb-false k 11 z (sym e)))

  none_counted : (k : ℕ) → knows rules.profile k ≡ false → eqb k 11 ≡ false → (l : List Mark) → of_kind k (map (counted (reader_of rules).shape) l) ≡ []
  none_counted k h z [] = refl
  none_counted k h z (x ∷ l) = rw (slot_other k x.kind h z) (none_counted k h z l)

  -- .. and back: what a caller that decides after the end has of a kind that its table notes, in every profile
  pub found_entry : (f : Finding) → told_finding f ≡ found_by R m n → (at next : ℕ) (st : List Sighting) → walk R [] 0 0 s ≡ ended at next st
      → (k : ℕ) → k < 15 → eqb k 11 ≡ false → is_noted (entry_of rules k) ≡ true → entry_in f.cells k ≡ seen_of (of_kind k st)
  unfolding found_by Kept
  found_entry f e at next st q k l z nt =
      ap (λ (c : List ℕ). entry_in c k) (ap (λ (x : Found). x.cells) e)
      ∙ (told_stands (counted_in rules s)).each k l
      ∙ ap seen_of (go (knows rules.profile k) refl)
    where
      go : (b : Bool) → knows rules.profile k ≡ b → of_kind k (counted_in rules s) ≡ of_kind k st
      go true h = sym (walk_kept rules [] [] 0 0 s at next st (kept_start rules) q k h nt)
      go false h = none_counted k h z (shown R [] 0 0 s) ∙ sym (walk_unnoted R k (none_noted k h) [] 0 0 s at next st q)

-- ---- its limit and its place

module _ (R : Reader) (m : List ℕ) (n : ℕ) (f : Finding) (e : told_finding f ≡ found_by R m n) where
  pub found_limit : f.limit ≡ n
  unfolding found_by
  found_limit = ap (λ (x : Found). x.limit) e

  -- it is a finding under its own limit
  pub found_own : told_finding f ≡ found_by R m f.limit
  found_own = e ∙ ap (found_by R m) (sym found_limit)

  -- its place is that of the record that stopped the walk
  pub found_place : f.place ≡ place_of (walked R (take n m))
  unfolding found_by
  found_place = go f.stop (walked R (take n m)) (ap (λ (x : Found). x.way) e)
    where
      go : (x : _) (o : Outcome) → way_by f.place x ≡ way_of o → f.place ≡ place_of o
      go stop.End (stopped r) q = let z : ◌≡◌ {A = ℕ} 0 1 = cc in absurd (omega arith)
      go stop.End (ended at next st) q = cc
      go (stop.Refused y) (stopped r) q = let z : record { number = number_of y; beside = beside_of y; place = f.place } ≡ r = cc in ap (λ (k : Refused). k.place) z
      go (stop.Refused y) (ended at next st) q = let z : ◌≡◌ {A = ℕ} 0 1 = cc in absurd (omega arith)
