-- The walk over a tray: what is left of it after any number of bytes, and what each turn of the loop finds.
-- Assumes nothing.
use mathlib.Core.Path.{◌≡◌, refl, sym, ap, ◌∙◌}
use mathlib.Core.List.{List, [], ◌∷◌, ◌++◌, append_assoc, append-nil}
use Prim.Native.Nat.{ℕ, zero, suc, ◌+◌, ◌-◌, ◌*◌, ◌<◌, ◌≤◌}
use native.Mathlib.Omega.{arith}
use borrow.Author.Tests.{lt-ltb, le-ltb, eq-eqb, ne_eqb}
use lib.ListN.{length, take, drop, get_or, length-append, length-drop}
use lib.Seq.{length-take-le, drop-length, drop-cons, drop-drop, get_or-take}
use Rattle.wire.specs.Bytes.{number_at}
use Rattle.wire.proofs.Bytes.{number_drop, number_take}
use Rattle.plan.specs.Tray.{Fields, broken, fields, before, fields_from, fields_in, bytes_in}
use Rattle.plan.specs.Code.{none, whole, counted}

-- ---- after k bytes more

pub skip : (tag k : ℕ) (s : List ℕ) → k ≤ length s → fields_from tag k s ≡ fields_from tag 0 (drop k s)
unfolding fields_from
skip tag zero [] h = refl
skip tag (suc k) [] h = absurd (let z : ⊥ = omega arith in z)
skip tag zero (b ∷ s) h = refl
skip tag (suc k) (b ∷ s) h = skip tag k s (omega arith)

pub skip_cut : (tag k : ℕ) (s : List ℕ) → length s < k → fields_from tag k s ≡ broken
unfolding fields_from
skip_cut tag zero [] h = absurd (let z : ⊥ = omega arith in z)
skip_cut tag (suc k) [] h = refl
skip_cut tag zero (b ∷ s) h = absurd (let z : ⊥ = omega arith in z)
skip_cut tag (suc k) (b ∷ s) h = skip_cut tag k s (omega arith)

-- ---- one field at a time

module _ (tag b : ℕ) (s : List ℕ) where
  pub other_tag : (b ≡ tag → ⊥) → fields_from tag 0 (b ∷ s) ≡ broken
  unfolding fields_from
  other_tag h = rw (ne_eqb b tag h)

  pub cut_field : b ≡ tag → length s < 2 + number_at s 0 → fields_from tag 0 (b ∷ s) ≡ broken
  unfolding fields_from
  cut_field e h = rw (eq-eqb b tag e, skip_cut tag (2 + number_at s 0) s h)

  pub whole_field : b ≡ tag → 2 + number_at s 0 ≤ length s
      → fields_from tag 0 (b ∷ s) ≡ before (take (number_at s 0) (drop 2 s)) (fields_from tag 0 (drop (2 + number_at s 0) s))
  unfolding fields_from
  whole_field e h = rw (eq-eqb b tag e) (ap (before (take (number_at s 0) (drop 2 s))) (skip tag (2 + number_at s 0) s h))

-- ---- bodies that were passed, in front of the rest

abbrev pub after : List (List ℕ) → Fields → Fields
after done broken = broken
after done (fields l) = fields (done ++ l)

after_none : (f : Fields) → after [] f ≡ f
after_none broken = refl
after_none (fields l) = refl

after_snoc : (done : List (List ℕ)) (b : List ℕ) (f : Fields) → after done (before b f) ≡ after (done ++ (b ∷ [])) f
after_snoc done b broken = refl
after_snoc done b (fields l) = ap fields (sym (append_assoc done (b ∷ []) l))

pub bytes_snoc : (l : List (List ℕ)) (b : List ℕ) → bytes_in (l ++ (b ∷ [])) ≡ bytes_in l + length b
bytes_snoc [] b = omega arith
bytes_snoc (a ∷ l) b = omega (arith, bytes_snoc l b)

-- ---- the loop

pub used_past : (tag used : ℕ) (tray : List ℕ) → length tray < used → none ≡ counted (fields_in tag used tray)
unfolding fields_in
used_past tag used tray h = rw (lt-ltb (length tray) used h)

-- at is the place in the tray, n and m the fields passed and the bytes of their bodies
pub record Going (tag used : ℕ) (tray : List ℕ) (at n m : ℕ) : Type 0 where
  pub inside : at ≤ used
  pub fits : used ≤ length tray
  pub done : List (List ℕ)
  pub same : fields_in tag used tray ≡ after done (fields_from tag 0 (drop at (take used tray)))
  pub count : n ≡ length done
  pub size : m ≡ bytes_in done
  pub sum : at ≡ 3 * n + m

pub going_start : (tag used : ℕ) (tray : List ℕ) → used ≤ length tray → Going tag used tray 0 0 0
unfolding fields_in
going_start tag used tray h = record {
  inside = omega arith;
  fits = h;
  done = [];
  same = rw (le-ltb (length tray) used h) (sym (after_none (fields_from tag 0 (take used tray))));
  count = refl;
  size = refl;
  sum = refl;
}

module _ (tag used : ℕ) (tray : List ℕ) (at n m : ℕ) (g : Going tag used tray at n m) where
  long : length (take used tray) ≡ used
  long = length-take-le used tray g.fits

  pub going_end : used ≤ at → whole n m ≡ counted (fields_in tag used tray)
  unfolding fields_from
  going_end h =
      let e : drop at (take used tray) ≡ [] = ap (λ (k : ℕ). drop k (take used tray)) (let i : at ≡ length (take used tray) = omega (arith, long, g.inside) in i) ∙ drop-length (take used tray) in
      rw (g.same, e, append-nil, g.count, g.size)

  -- the byte there, and what follows it
  module _ (more : at < used) where
    rest : List ℕ
    rest = drop (suc at) (take used tray)

    begun : drop at (take used tray) ≡ get_or tray at 0 ∷ rest
    unfolding rest
    begun = drop-cons (take used tray) at 0 (omega (arith, long)) ∙ ap (λ (b : ℕ). b ∷ drop (suc at) (take used tray)) (get_or-take used tray at 0 more)

    rest_long : length rest ≡ used - at - 1
    unfolding rest
    rest_long = omega (arith, long, length-drop (suc at) (take used tray))

    broke : fields_from tag 0 (get_or tray at 0 ∷ rest) ≡ broken → none ≡ counted (fields_in tag used tray)
    broke e = rw (g.same, begun, e)

    pub going_other : (get_or tray at 0 ≡ tag → ⊥) → none ≡ counted (fields_in tag used tray)
    going_other h = broke (other_tag tag (get_or tray at 0) rest h)

    module _ (tagged : get_or tray at 0 ≡ tag) where
      pub going_short : used - at < 3 → none ≡ counted (fields_in tag used tray)
      going_short h = broke (cut_field tag (get_or tray at 0) rest tagged (omega (arith, rest_long)))

      module _ (header : 3 ≤ used - at) (k : ℕ) (read : k ≡ number_at tray (at + 1)) where
        number : number_at rest 0 ≡ k
        unfolding rest
        number =
            number_drop (take used tray) (suc at) 0
            ∙ ap (number_at (take used tray)) (let i : suc at + 0 ≡ at + 1 = omega arith in i)
            ∙ number_take tray used (at + 1) (omega arith)
            ∙ sym read

        pub going_cut : used - at - 3 < k → none ≡ counted (fields_in tag used tray)
        going_cut h = broke (cut_field tag (get_or tray at 0) rest tagged (omega (arith, rest_long, number)))

        pub going_on : k ≤ used - at - 3 → Going tag used tray (at + 3 + k) (n + 1) (m + k)
        unfolding rest
        going_on h =
            let b = take (number_at rest 0) (drop 2 rest) in
            let i : 2 + number_at rest 0 ≤ length rest = omega (arith, rest_long, number) in
            let l : length b ≡ k = length-take-le (number_at rest 0) (drop 2 rest) (omega (arith, length-drop 2 rest)) ∙ number in
            let d : drop (2 + number_at rest 0) rest ≡ drop (at + 3 + k) (take used tray) = drop-drop (2 + number_at rest 0) (suc at) (take used tray) ∙ ap (λ (j : ℕ). drop j (take used tray)) (let j : suc at + (2 + number_at rest 0) ≡ at + 3 + k = omega (arith, number) in j) in
            record {
              inside = omega arith;
              fits = g.fits;
              done = g.done ++ (b ∷ []);
              same = g.same ∙ ap (after g.done) (ap (fields_from tag 0) begun ∙ whole_field tag (get_or tray at 0) rest tagged i ∙ ap (λ (s : List ℕ). before b (fields_from tag 0 s)) d) ∙ after_snoc g.done b (fields_from tag 0 (drop (at + 3 + k) (take used tray)));
              count = omega (arith, g.count, length-append g.done (b ∷ []));
              size = omega (arith, g.size, bytes_snoc g.done b, l);
              sum = omega (arith, g.sum);
            }
