-- What stands at an index of a list, by whether the index is inside.
-- Assumes nothing.
use mathlib.Core.Path.{◌≡◌, sym, ap, ◌∙◌}
use mathlib.Core.List.{List}
use Prim.Native.Nat.{ℕ, ◌+◌, ◌*◌, ◌/◌, ◌<◌, ◌≤◌}
use borrow.Author.Tests.{lt-ltb, le-ltb}
use lib.ListN.{length}
use Rattle.wire.specs.Bytes.{number_at}
use Rattle.record.specs.Entry.{Entry, outside, number, pair, number_in, pair_in}
use Rattle.record.specs.Told.{told_number}
use Rattle.record.specs.declared.NumberAt.{NumberAt}

module _ (l : List ℕ) (i : ℕ) where
  pub number_inside : (n : ℕ) → i < length l / 2 → n ≡ number_at l (2 * i) → number n ≡ number_in l i
  unfolding number_in
  number_inside n h e = rw (lt-ltb i (length l / 2) h, e)

  pub number_outside : length l / 2 ≤ i → outside ≡ number_in l i
  unfolding number_in
  number_outside h = rw (le-ltb i (length l / 2) h)

  pub pair_inside : (n k : ℕ) → i < length l / 4 → n ≡ number_at l (4 * i) → k ≡ number_at l (4 * i + 2) → pair n k ≡ pair_in l i
  unfolding pair_in
  pair_inside n k h e d = rw (lt-ltb i (length l / 4) h, e, d)

  pub pair_outside : length l / 4 ≤ i → outside ≡ pair_in l i
  unfolding pair_in
  pair_outside h = rw (le-ltb i (length l / 4) h)

-- what was found in a list that was handed out, told of the list itself
pub handed_on : (x y : NumberAt) (l l' : List ℕ) (i : ℕ) → x ≡ y → told_number x ≡ number_in l i → l ≡ l' → told_number y ≡ number_in l' i
handed_on x y l l' i e f s = ap told_number (sym e) ∙ f ∙ ap (λ (k : List ℕ). number_in k i) s

pub pair_handed_on : (x : Entry) (l l' : List ℕ) (i : ℕ) → x ≡ pair_in l i → l ≡ l' → x ≡ pair_in l' i
pair_handed_on x l l' i f s = f ∙ ap (λ (k : List ℕ). pair_in k i) s
