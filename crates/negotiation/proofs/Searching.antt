-- The two loops: the search for a number in the server's own list, and the search for a client's number that it holds.
-- Assumes nothing.
use mathlib.Core.Path.{◌≡◌, refl, sym, ◌∙◌}
use mathlib.Core.List.{List, [], ◌∷◌}
use mathlib.Core.Bool.{true, false, ◌||◌}
use Prim.Native.Nat.{ℕ, ◌+◌, ◌<◌, ◌≤◌}
use native.Mathlib.Numerals.{add-one}
use native.Mathlib.Nat.{add-zero}
use native.Mathlib.Omega.{arith}
use lib.ListN.{length, get_or, drop, length-drop, drop_of_length-le}
use lib.Seq.{drop-cons, drop-drop}
use lib.Dec.{eqb}
use borrow.Author.Tests.{eq-eqb, ne_eqb}
use Rattle.wire.specs.Bytes.{number_at}
use Rattle.wire.proofs.Bytes.{number_drop}
use Rattle.negotiation.specs.Negotiation.{numbers_of, holds, none, common, first_common}

-- ---- a number in the server's own list

-- the numbers before i are others
pub record Seeking (own : List ℕ) (n i : ℕ) : Type 0 where
  pub near : i ≤ length own
  pub same : holds own n ≡ holds (drop i own) n

pub seeking_start : (own : List ℕ) (n : ℕ) → Seeking own n 0
seeking_start own n = record { near = omega arith; same = refl }

module _ (own : List ℕ) (n i : ℕ) (g : Seeking own n i) where
  pub seeking_none : length own ≤ i → false ≡ holds own n
  seeking_none h = sym (g.same ∙ rw (drop_of_length-le own {i = i} h))

  module _ (h : i < length own) where
    next : holds own n ≡ (eqb (get_or own i 0) n || holds (drop (i + 1) own) n)
    next = g.same ∙ rw (add-one i, drop-cons own i 0 h)

    pub seeking_found : get_or own i 0 ≡ n → true ≡ holds own n
    seeking_found e = sym (next ∙ rw (eq-eqb (get_or own i 0) n e))

    pub seeking_on : (get_or own i 0 ≡ n → ⊥) → Seeking own n (i + 1)
    seeking_on f = record { near = omega arith; same = next ∙ rw (ne_eqb (get_or own i 0) n f) }

-- ---- one client's number at a time

front : (s : List ℕ) → 2 ≤ length s → numbers_of s ≡ number_at s 0 ∷ numbers_of (drop 2 s)
unfolding number_at
front [] h = absurd (let z : ⊥ = omega arith in z)
front (a ∷ []) h = absurd (let z : ⊥ = omega arith in z)
front (a ∷ b ∷ s) h = refl

short : (s : List ℕ) → length s < 2 → numbers_of s ≡ []
short [] h = refl
short (a ∷ []) h = refl
short (a ∷ b ∷ s) h = absurd (let z : ⊥ = omega arith in z)

pub numbers_on : (s : List ℕ) (at : ℕ) → at + 2 ≤ length s → numbers_of (drop at s) ≡ number_at s at ∷ numbers_of (drop (at + 2) s)
numbers_on s at h =
    front (drop at s) (omega (arith, length-drop at s))
    ∙ rw (number_drop s at 0, add-zero at, drop-drop 2 at s)

pub numbers_end : (s : List ℕ) (at : ℕ) → length s < at + 2 → numbers_of (drop at s) ≡ []
numbers_end s at h = short (drop at s) (omega (arith, length-drop at s))

-- ---- the first that the own list holds

-- of the client's numbers before `at` the own list holds none
pub record Choosing (list own : List ℕ) (at : ℕ) : Type 0 where
  pub near : at ≤ length list
  pub same : first_common (numbers_of list) own ≡ first_common (numbers_of (drop at list)) own

pub choosing_start : (list own : List ℕ) → Choosing list own 0
choosing_start list own = record { near = omega arith; same = refl }

module _ (list own : List ℕ) (at : ℕ) (g : Choosing list own at) where
  pub choosing_none : length list < at + 2 → none ≡ first_common (numbers_of list) own
  choosing_none h = sym (g.same ∙ rw (numbers_end list at h))

  -- the number at `at`, and what was found of it
  module _ (n : ℕ) (e : n ≡ number_at list at) (h : at + 2 ≤ length list) where
    head : numbers_of (drop at list) ≡ n ∷ numbers_of (drop (at + 2) list)
    head = rw e (numbers_on list at h)

    pub choosing_found : true ≡ holds own n → common n ≡ first_common (numbers_of list) own
    choosing_found f = sym (g.same ∙ rw (head, ← f))

    pub choosing_on : false ≡ holds own n → Choosing list own (at + 2)
    choosing_on f = record { near = h; same = g.same ∙ rw (head, ← f) }
