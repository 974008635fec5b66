-- The whole records of the bytes that a line brought, one after the other: where they lead says where the last of them begins, and what comes behind them
-- changes nothing of it.
-- Assumes nothing.
use mathlib.Core.Path.{◌≡◌, refl, sym, ◌∙◌, ap, subst}
use mathlib.Core.List.{List, [], ◌∷◌, ◌++◌, append_assoc}
use mathlib.Core.Bool.{Bool, true, false, cond, ◌&&◌, true≢false}
use Prim.Native.Nat.{ℕ, zero, suc, ◌+◌, ◌-◌, ◌≤◌, ◌<◌}
use native.Mathlib.Omega.{arith}
use native.Mathlib.Nat.{add_assoc, add-zero}
use lib.ListN.{length, take, drop, length-append, length-drop, take-append-drop}
use lib.Seq.{drop-drop, drop-append-le, length-take-le}
use lib.Dec.{leb}
use borrow.Author.Tests.{leb-true, le-leb, lt-leb}
use Rattle.record.specs.Record.{size}
use Rattle.walk.specs.Walk.{Reader, Sighting, Step, stops, goes, step}
use Rattle.walk.specs.Message.{Whole}
use Rattle.walk.specs.Shown.{slot_of}
use Rattle.walk.specs.Met.{met_below, with_met, Passing, halts, on, passing}
use Rattle.walk.proofs.Chunks.{kind_append, size_append, step_append}
use Rattle.pieces.specs.Pieces.{whole, Going, waits, decides, going}

-- ---- a whole record

pub whole_long : (s : List ℕ) → whole s ≡ true → 4 + size s ≤ length s
unfolding whole
whole_long s h = go (leb 4 (length s)) h
  where
    go : (t : Bool) → (t && leb (4 + size s) (length s)) ≡ true → 4 + size s ≤ length s
    go true e = leb-true _ _ e
    go false e = absurd (true≢false (sym e))

pub long_whole : (s : List ℕ) → 4 + size s ≤ length s → whole s ≡ true
unfolding whole
long_whole s h = rw (le-leb 4 (length s) (omega arith), le-leb (4 + size s) (length s) h)

pub short_whole : (s : List ℕ) → length s < 4 + size s → whole s ≡ false
unfolding whole
short_whole s h = rw (lt-leb (4 + size s) (length s) h) (go (leb 4 (length s)))
  where
    go : (t : Bool) → (t && false) ≡ false
    go true = refl
    go false = refl

-- a record that is whole is so in front of more bytes, and as long
pub size_more : (s t : List ℕ) → whole s ≡ true → size (s ++ t) ≡ size s
size_more s t h = size_append s t (omega (arith, whole_long s h))

pub whole_more : (s t : List ℕ) → whole s ≡ true → whole (s ++ t) ≡ true
whole_more s t h = long_whole (s ++ t) (omega (arith, whole_long s h, size_more s t h, length-append s t))

-- a step looks at no byte behind its record
module _ (R : Reader) (s t : List ℕ) (h : whole s ≡ true) where
  pub step_more : (st : List Sighting) (at : ℕ) → step R st at (s ++ t) ≡ step R st at s
  step_more st at =
      ap (λ (l : List ℕ). step R st at (l ++ t)) (sym both)
      ∙ ap (step R st at) (append_assoc c r t)
      ∙ step_append c (r ++ t) w R st at
      ∙ sym (step_append c r w R st at)
      ∙ ap (step R st at) both
    where
      c : List ℕ
      c = take (4 + size s) s

      r : List ℕ
      r = drop (4 + size s) s

      both : c ++ r ≡ s
      both = take-append-drop (4 + size s) s

      long : length c ≡ 4 + size s
      long = length-take-le (4 + size s) s (whole_long s h)

      w : Whole c
      w = long ∙ ap (λ (n : ℕ). 4 + n) (rw take-append-drop at (size_append c r (omega (arith, long))))

  pub passing_more : (met : ℕ) → passing R met (s ++ t) ≡ passing R met s
  unfolding passing
  passing_more met = λ j.
      elim (step_more (met_below met 15) 0 j) as (λ (y : Step). Passing)
      [ stops o ↦ halts | goes st ↦ on (with_met met (slot_of R.shape (kind_append s t (omega (arith, whole_long s h)) j))) ]

-- ---- one record after the other

-- where a record leads
abbrev pub thence : Passing → Going → (ℕ → Going) → Going
thence halts g f = g
thence (on met) g f = f met

pub going_drop : (R : Reader) (met at k : ℕ) (s : List ℕ) → going R met at k s ≡ going R met at 0 (drop k s)
unfolding going
going_drop R met at zero [] = refl
going_drop R met at (suc k) [] = refl
going_drop R met at zero (b ∷ s) = refl
going_drop R met at (suc k) (b ∷ s) = going_drop R met at k s

four : (n : ℕ) → 4 + n ≡ suc (3 + n)
four n = omega arith

pub going_unroll : (R : Reader) (met at : ℕ) (s : List ℕ)
    → going R met at 0 s
    ≡ cond (whole s) (thence (passing R met s) (decides at met (at + (4 + size s))) (λ m. going R m (at + (4 + size s)) 0 (drop (4 + size s) s))) (waits at met)
unfolding going whole
going_unroll R met at [] = refl
going_unroll R met at (b ∷ s) = ap (λ (g : Going). cond (whole (b ∷ s)) g (waits at met)) (go (passing R met (b ∷ s)))
  where
    go : (x : Passing)
        → ◌≡◌ {A = Going} (elim x as (λ (y : Passing). Going) [ halts ↦ decides at met (at + (4 + size (b ∷ s))) | on m ↦ going R m (at + (4 + size (b ∷ s))) (3 + size (b ∷ s)) s ])
        (thence x (decides at met (at + (4 + size (b ∷ s)))) (λ m. going R m (at + (4 + size (b ∷ s))) 0 (drop (4 + size (b ∷ s)) (b ∷ s))))
    go halts = refl
    go (on m) =
        going_drop R m (at + (4 + size (b ∷ s))) (3 + size (b ∷ s)) s
        ∙ ap (λ (k : ℕ). going R m (at + (4 + size (b ∷ s))) 0 (drop k (b ∷ s))) (sym (four (size (b ∷ s))))

module _ (R : Reader) (met at : ℕ) (s : List ℕ) where
  pub going_waits : whole s ≡ false → going R met at 0 s ≡ waits at met
  going_waits h = going_unroll R met at s ∙ rw h

  pub going_halts : whole s ≡ true → passing R met s ≡ halts → going R met at 0 s ≡ decides at met (at + (4 + size s))
  going_halts h e = going_unroll R met at s ∙ rw (h, e)

  pub going_on : (m : ℕ) → whole s ≡ true → passing R met s ≡ on m → going R met at 0 s ≡ going R m (at + (4 + size s)) 0 (drop (4 + size s) s)
  going_on m h e = going_unroll R met at s ∙ rw (h, e)

-- what holds of a record that is not whole, of one that decides, and before a record of which it holds behind it, holds of the records of all bytes
module _ (R : Reader) (P : ℕ → ℕ → List ℕ → Going → Type 0)
    (waiting : (met at : ℕ) (s : List ℕ) → whole s ≡ false → P met at s (waits at met))
    (halting : (met at : ℕ) (s : List ℕ) → whole s ≡ true → passing R met s ≡ halts → P met at s (decides at met (at + (4 + size s))))
    (onward : (met at m : ℕ) (s : List ℕ) (g : Going) → whole s ≡ true → passing R met s ≡ on m → P m (at + (4 + size s)) (drop (4 + size s) s) g → P met at s g) where
  one : (met at : ℕ) (s : List ℕ)
      → ((m : ℕ) → whole s ≡ true → P m (at + (4 + size s)) (drop (4 + size s) s) (going R m (at + (4 + size s)) 0 (drop (4 + size s) s)))
      → P met at s (going R met at 0 s)
  one met at s later = subst (P met at s) (sym (going_unroll R met at s)) (go (whole s) refl (passing R met s) refl)
    where
      go : (t : Bool) → whole s ≡ t → (x : Passing) → passing R met s ≡ x
          → P met at s (cond t (thence x (decides at met (at + (4 + size s))) (λ m. going R m (at + (4 + size s)) 0 (drop (4 + size s) s))) (waits at met))
      go false h x e = waiting met at s h
      go true h halts e = halting met at s h e
      go true h (on m) e = onward met at m s _ h e (later m h)

  by_fuel : (fuel met at : ℕ) (s : List ℕ) → length s ≤ fuel → P met at s (going R met at 0 s)
  by_fuel zero met at s l = one met at s (λ m h. absurd (let z : ⊥ = omega (arith, whole_long s h) in z))
  by_fuel (suc fuel) met at s l =
      one met at s (λ m h. by_fuel fuel m (at + (4 + size s)) (drop (4 + size s) s) (omega (arith, length-drop (4 + size s) s, whole_long s h)))

  pub by_records : (met at : ℕ) (s : List ℕ) → P met at s (going R met at 0 s)
  by_records met at s = by_fuel (length s) met at s (omega arith)

-- ---- from a place further on

-- each place moved by a
abbrev pub further : ℕ → Going → Going
further a (waits at met) = waits (a + at) met
further a (decides at met through) = decides (a + at) met (a + through)

module _ (R : Reader) (a : ℕ) where
  abbrev Moved : ℕ → ℕ → List ℕ → Going → Type 0
  Moved met at s g = going R met (a + at) 0 s ≡ further a g

  pub going_further : (met at : ℕ) (s : List ℕ) → going R met (a + at) 0 s ≡ further a (going R met at 0 s)
  going_further =
      by_records R Moved (λ met at s h. going_waits R met (a + at) s h)
      (λ met at s h e. going_halts R met (a + at) s h e ∙ ap (decides (a + at) met) (add_assoc a at (4 + size s)))
      (λ met at m s g h e i.
      going_on R met (a + at) s m h e ∙ ap (λ (k : ℕ). going R m k 0 (drop (4 + size s) s)) (add_assoc a at (4 + size s)) ∙ i)

  pub going_from : (met : ℕ) (s : List ℕ) → going R met a 0 s ≡ further a (going R met 0 0 s)
  going_from met s = ap (λ (k : ℕ). going R met k 0 s) (sym (add-zero a)) ∙ going_further met 0 s

  pub going_further_by : (met at k : ℕ) (s : List ℕ) → going R met (a + at) k s ≡ further a (going R met at k s)
  going_further_by met at k s = going_drop R met (a + at) k s ∙ going_further met at (drop k s) ∙ ap (further a) (sym (going_drop R met at k s))

-- ---- where it comes to

-- a record that waits begins inside and is not whole; one that decides lies inside
abbrev pub Reaches : ℕ → List ℕ → Going → Type 0
Reaches at s (waits a m) = (at ≤ a) × (a ≤ at + length s) × (whole (drop (a - at) s) ≡ false)
Reaches at s (decides a m through) = (at ≤ a) × (a + 4 ≤ through) × (through ≤ at + length s)

reaches_on : (at k : ℕ) (s : List ℕ) (g : Going) → k ≤ length s → Reaches (at + k) (drop k s) g → Reaches at s g
reaches_on at k s (waits a m) l r =
    let e : k + (a - (at + k)) ≡ a - at = omega (arith, r.0) in
    (omega (arith, r.0), omega (arith, r.1, length-drop k s), rw (drop-drop, e) at r.2)
reaches_on at k s (decides a m through) l r = (omega (arith, r.0), r.1, omega (arith, r.2, length-drop k s))

pub going_reaches : (R : Reader) (met at : ℕ) (s : List ℕ) → Reaches at s (going R met at 0 s)
going_reaches R =
    by_records R (λ met at s g. Reaches at s g)
    (λ met at s h.
    let e : at - at ≡ 0 = omega arith in
    (omega arith, omega arith, rw e h))
    (λ met at s h e. (omega arith, omega arith, omega (arith, whole_long s h)))
    (λ met at m s g h e r. reaches_on at (4 + size s) s g (whole_long s h) r)

pub waits_inside : (R : Reader) (met at a m : ℕ) (s : List ℕ) → waits a m ≡ going R met at 0 s → Reaches at s (waits a m)
waits_inside R met at a m s e = subst (Reaches at s) (sym e) (going_reaches R met at s)

pub decides_inside : (R : Reader) (met at a m through : ℕ) (s : List ℕ) → decides a m through ≡ going R met at 0 s → Reaches at s (decides a m through)
decides_inside R met at a m through s e = subst (Reaches at s) (sym e) (going_reaches R met at s)

-- ---- more bytes behind

-- a record that waits is gone on with, and one that decides has decided
module _ (R : Reader) (t : List ℕ) where
  abbrev Joins : ℕ → ℕ → List ℕ → Going → Type 0
  Joins met at s (waits a m) = (at ≤ a) × (going R met at 0 (s ++ t) ≡ going R m a 0 (drop (a - at) (s ++ t)))
  Joins met at s (decides a m through) = going R met at 0 (s ++ t) ≡ decides a m through

  joins_on : (met at m : ℕ) (s : List ℕ) (g : Going) → whole s ≡ true → passing R met s ≡ on m → Joins m (at + (4 + size s)) (drop (4 + size s) s) g → Joins met at s g
  joins_on met at m s g h e = go g
    where
      k : ℕ
      k = 4 + size s

      behind : drop k (s ++ t) ≡ drop k s ++ t
      behind = drop-append-le k s t (whole_long s h)

      first : going R met at 0 (s ++ t) ≡ going R m (at + k) 0 (drop k s ++ t)
      first =
          going_on R met at (s ++ t) m (whole_more s t h) (passing_more R s t h met ∙ e)
          ∙ ap (λ (n : ℕ). going R m (at + (4 + n)) 0 (drop (4 + n) (s ++ t))) (size_more s t h)
          ∙ ap (going R m (at + k) 0) behind

      go : (x : Going) → Joins m (at + k) (drop k s) x → Joins met at s x
      go (waits a m') i =
          let q : k + (a - (at + k)) ≡ a - at = omega (arith, i.0) in
          let d : drop (a - (at + k)) (drop k s ++ t) ≡ drop (a - at) (s ++ t) =
          ap (drop (a - (at + k))) (sym behind) ∙ drop-drop (a - (at + k)) k (s ++ t) ∙ ap (λ (n : ℕ). drop n (s ++ t)) q in
          (omega (arith, i.0), first ∙ i.1 ∙ ap (going R m' a 0) d)
      go (decides a m' through) i = first ∙ i

  going_joins : (met at : ℕ) (s : List ℕ) → Joins met at s (going R met at 0 s)
  going_joins =
      by_records R Joins (λ met at s h. let e : at - at ≡ 0 = omega arith in (omega arith, rw e refl))
      (λ met at s h e.
      going_halts R met at (s ++ t) (whole_more s t h) (passing_more R s t h met ∙ e)
      ∙ ap (λ (n : ℕ). decides at met (at + (4 + n))) (size_more s t h))
      joins_on

  pub going_waits_more : (met at : ℕ) (s : List ℕ) (a m : ℕ) → going R met at 0 s ≡ waits a m → going R met at 0 (s ++ t) ≡ going R m a 0 (drop (a - at) (s ++ t))
  going_waits_more met at s a m e = (subst (Joins met at s) e (going_joins met at s)).1

  pub going_decides_more : (met at : ℕ) (s : List ℕ) (a m through : ℕ) → going R met at 0 s ≡ decides a m through → going R met at 0 (s ++ t) ≡ decides a m through
  going_decides_more met at s a m through e = subst (Joins met at s) e (going_joins met at s)

-- ---- a record that decides, from its own place

module _ (R : Reader) where
  abbrev Again : ℕ → ℕ → List ℕ → Going → Type 0
  Again met at s (waits a m) = Unit {0}
  Again met at s (decides a m through) = (at ≤ a) × (going R m a 0 (drop (a - at) s) ≡ decides a m through)

  again_on : (met at m : ℕ) (s : List ℕ) (g : Going) → whole s ≡ true → passing R met s ≡ on m → Again m (at + (4 + size s)) (drop (4 + size s) s) g → Again met at s g
  again_on met at m s (waits a m') h e i = tt
  again_on met at m s (decides a m' through) h e i =
      let q : 4 + size s + (a - (at + (4 + size s))) ≡ a - at = omega (arith, i.0) in
      let d : drop (a - (at + (4 + size s))) (drop (4 + size s) s) ≡ drop (a - at) s = drop-drop (a - (at + (4 + size s))) (4 + size s) s ∙ ap (λ (n : ℕ). drop n s) q in
      (omega (arith, i.0), ap (going R m' a 0) (sym d) ∙ i.1)

  going_again : (met at : ℕ) (s : List ℕ) → Again met at s (going R met at 0 s)
  going_again =
      by_records R Again (λ met at s h. tt)
      (λ met at s h e. let z : at - at ≡ 0 = omega arith in (omega arith, rw z (going_halts R met at s h e)))
      again_on

  pub decides_again : (s : List ℕ) (a m through : ℕ) → going R 0 0 0 s ≡ decides a m through → going R m a 0 (drop a s) ≡ decides a m through
  decides_again s a m through e =
      let z : a - 0 ≡ a = omega arith in
      rw z at (subst (Again 0 0 s) e (going_again 0 0 s)).1
