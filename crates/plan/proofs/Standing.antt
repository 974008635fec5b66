-- A whole tray, as code goes through it field by field: the bodies passed, those to come, and the one that stands at a place.
-- Assumes nothing.
use mathlib.Core.Path.{◌≡◌, refl, sym, ap, ◌∙◌}
use mathlib.Core.Bool.{Bool, true, false, cond}
use mathlib.Core.List.{List, [], ◌∷◌, ◌++◌, append_assoc, append-nil}
use Prim.Native.Nat.{ℕ, zero, suc, ◌+◌, ◌*◌, ◌<◌, ◌≤◌}
use native.Mathlib.Omega.{arith}
use borrow.Author.Tests.{le-leb}
use lib.Dec.{eqb}
use lib.ListN.{length, take, drop, get_or, length-drop}
use lib.Seq.{length-take-le, drop-length, drop-cons, drop-drop, take-take, get_or-take}
use Rattle.wire.specs.Bytes.{number_at, part_at}
use Rattle.wire.proofs.Bytes.{number_drop, number_take, length_part}
use Rattle.plan.specs.Tray.{Fields, broken, fields, before, fields_from, fields_in, bytes_in}
use Rattle.plan.proofs.Walking.{skip}
use Rattle.plan.proofs.Fields.{from_long, held}

pub bytes_append : (a b : List (List ℕ)) → bytes_in (a ++ b) ≡ bytes_in a + bytes_in b
bytes_append [] b = omega arith
bytes_append (x ∷ a) b = omega (arith, bytes_append a b)

-- a part inside the front of a list
cut_inside : (u a n : ℕ) (s : List ℕ) → a + n ≤ u → take n (drop a (take u s)) ≡ take n (drop a s)
cut_inside u zero n s h = take-take n u s (omega arith)
cut_inside zero (suc a) n s h = absurd (let z : ⊥ = omega arith in z)
cut_inside (suc u) (suc a) n [] h = refl
cut_inside (suc u) (suc a) n (x ∷ s) h = cut_inside u a n s (omega arith)

-- ---- the first field of a whole rest

pub record First (tag : ℕ) (s : List ℕ) (l : List (List ℕ)) : Type 0 where
  pub more : List (List ℕ)
  pub split : l ≡ take (number_at s 0) (drop 2 s) ∷ more
  pub rest : fields_from tag (2 + number_at s 0) s ≡ fields more

pub first_field : (tag b : ℕ) (s : List ℕ) (l : List (List ℕ)) → fields_from tag 0 (b ∷ s) ≡ fields l → First tag s l
unfolding fields_from
first_field tag b s l e = by_tag (eqb b tag) (fields_from tag (2 + number_at s 0) s) refl e
  where
    by_tag : (t : Bool) (f : Fields) → fields_from tag (2 + number_at s 0) s ≡ f → cond t (before (take (number_at s 0) (drop 2 s)) f) broken ≡ fields l → First tag s l
    by_tag true broken r h = let z : ◌≡◌ {A = ℕ} 0 1 = cc in absurd (omega arith)
    by_tag true (fields m) r h = record { more = m; split = cc; rest = r }
    by_tag false f r h = let z : ◌≡◌ {A = ℕ} 0 1 = cc in absurd (omega arith)

-- what a tray holds does not depend on the tag under which it is whole
pub same_from : (tag tag' k : ℕ) (s : List ℕ) (l l' : List (List ℕ)) → fields_from tag k s ≡ fields l → fields_from tag' k s ≡ fields l' → l ≡ l'
unfolding fields_from
same_from tag tag' zero [] l l' e e' = let a : [] ≡ l = cc in let b : [] ≡ l' = cc in sym a ∙ b
same_from tag tag' (suc k) [] l l' e e' = let z : ◌≡◌ {A = ℕ} 0 1 = cc in absurd (omega arith)
same_from tag tag' (suc k) (b ∷ s) l l' e e' = same_from tag tag' k s l l' e e'
same_from tag tag' zero (b ∷ s) l l' e e' =
    let f = first_field tag b s l e in
    let g = first_field tag' b s l' e' in
    f.split ∙ ap (λ (m : List (List ℕ)). take (number_at s 0) (drop 2 s) ∷ m) (same_from tag tag' (2 + number_at s 0) s f.more g.more f.rest g.rest) ∙ sym g.split

pub same_bodies : (tag tag' used : ℕ) (tray : List ℕ) (l l' : List (List ℕ)) → fields_in tag used tray ≡ fields l → fields_in tag' used tray ≡ fields l' → l ≡ l'
same_bodies tag tag' used tray l l' e e' = same_from tag tag' 0 (take used tray) l l' (held tag used tray l e).are (held tag' used tray l' e').are

-- ---- at a place

pub record Standing (tag used : ℕ) (tray : List ℕ) (l : List (List ℕ)) (at : ℕ) (done : List (List ℕ)) : Type 0 where
  pub inside : at ≤ used
  pub fits : used ≤ length tray
  pub more : List (List ℕ)
  pub split : l ≡ done ++ more
  pub rest : fields_from tag 0 (drop at (take used tray)) ≡ fields more

pub standing_start : (tag used : ℕ) (tray : List ℕ) (l : List (List ℕ)) → fields_in tag used tray ≡ fields l → Standing tag used tray l 0 []
standing_start tag used tray l e =
    let h = held tag used tray l e in
    record { inside = omega arith; fits = h.inside; more = l; split = refl; rest = h.are }

-- the field at a place: its body, and what follows it
pub record Next (tag used : ℕ) (tray : List ℕ) (l : List (List ℕ)) (at : ℕ) (done : List (List ℕ)) (n : ℕ) : Type 0 where
  pub body_length : length (part_at tray (at + 3) n) ≡ n
  pub to_come : List (List ℕ)
  pub split : l ≡ done ++ (part_at tray (at + 3) n ∷ to_come)
  pub next : Standing tag used tray l (at + 3 + n) (done ++ (part_at tray (at + 3) n ∷ []))

module _ (tag used : ℕ) (tray : List ℕ) (l : List (List ℕ)) (at : ℕ) (done : List (List ℕ)) (g : Standing tag used tray l at done) where
  long : length (take used tray) ≡ used
  long = length-take-le used tray g.fits

  pub standing_end : used ≤ at → done ≡ l
  unfolding fields_from
  standing_end h =
      let i : at ≡ length (take used tray) = omega (arith, long, g.inside) in
      let e : drop at (take used tray) ≡ [] = ap (λ (k : ℕ). drop k (take used tray)) i ∙ drop-length (take used tray) in
      let f : fields_from tag 0 [] ≡ fields g.more = sym (ap (fields_from tag 0) e) ∙ g.rest in
      let m : [] ≡ g.more = cc in
      sym (append-nil done) ∙ ap (λ (r : List (List ℕ)). done ++ r) m ∙ sym g.split

  module _ (more : at < used) where
    behind : List ℕ
    behind = drop (suc at) (take used tray)

    begun : drop at (take used tray) ≡ get_or tray at 0 ∷ behind
    unfolding behind
    begun = drop-cons (take used tray) at 0 (omega (arith, long)) ∙ ap (λ (b : ℕ). b ∷ drop (suc at) (take used tray)) (get_or-take used tray at 0 more)

    first : First tag behind g.more
    first = first_field tag (get_or tray at 0) behind g.more (sym (ap (fields_from tag 0) begun) ∙ g.rest)

    behind_long : length behind ≡ 2 + number_at behind 0 + (3 * length first.more + bytes_in first.more)
    behind_long = from_long tag (2 + number_at behind 0) behind first.more first.rest

    inside_used : suc at + length behind ≡ used
    unfolding behind
    inside_used = omega (arith, long, length-drop (suc at) (take used tray))

    number : number_at behind 0 ≡ number_at tray (at + 1)
    unfolding behind
    number =
        number_drop (take used tray) (suc at) 0
        ∙ ap (number_at (take used tray)) (let i : suc at + 0 ≡ at + 1 = omega arith in i)
        ∙ number_take tray used (at + 1) (omega (arith, behind_long, inside_used))

    pub standing_within : at + 3 + number_at tray (at + 1) ≤ used
    standing_within = omega (arith, behind_long, inside_used, number)

    -- the body, as it is handed out of the tray
    body : take (number_at behind 0) (drop 2 behind) ≡ part_at tray (at + 3) (number_at tray (at + 1))
    unfolding part_at behind
    body =
        let n = number_at tray (at + 1) in
        let i : suc at + 2 ≡ at + 3 = omega arith in
        let d : drop 2 (drop (suc at) (take used tray)) ≡ drop (at + 3) (take used tray) = drop-drop 2 (suc at) (take used tray) ∙ ap (λ (k : ℕ). drop k (take used tray)) i in
        rw (number, d, le-leb (at + 3 + n) (length tray) (omega (arith, standing_within, g.fits))) (cut_inside used (at + 3) n tray standing_within)

    pub standing_on : (n : ℕ) → n ≡ number_at tray (at + 1) → Next tag used tray l at done n
    unfolding behind
    standing_on n e =
        let k = number_at tray (at + 1) in
        let b : take (number_at behind 0) (drop 2 behind) ≡ part_at tray (at + 3) n = body ∙ ap (part_at tray (at + 3)) (sym e) in
        let m : g.more ≡ part_at tray (at + 3) n ∷ first.more = first.split ∙ ap (λ (x : List ℕ). x ∷ first.more) b in
        let s : l ≡ done ++ (part_at tray (at + 3) n ∷ first.more) = g.split ∙ ap (λ (r : List (List ℕ)). done ++ r) m in
        let j : suc at + (2 + number_at behind 0) ≡ at + 3 + n = omega (arith, number, e) in
        let d : drop (2 + number_at behind 0) behind ≡ drop (at + 3 + n) (take used tray) = drop-drop (2 + number_at behind 0) (suc at) (take used tray) ∙ ap (λ (i : ℕ). drop i (take used tray)) j in
        record {
          body_length = length_part tray (at + 3) n (omega (arith, standing_within, g.fits, e));
          to_come = first.more;
          split = s;
          next = record {
            inside = omega (arith, standing_within, e);
            fits = g.fits;
            more = first.more;
            split = s ∙ sym (append_assoc done (part_at tray (at + 3) n ∷ []) first.more);
            rest = ap (fields_from tag 0) (sym d) ∙ sym (skip tag (2 + number_at behind 0) behind (omega (arith, behind_long))) ∙ first.rest;
          };
        }
