-- What the definition means, in the words of 01, "Choosing and replying": the first number in the client's list that the server's own list
-- holds, and none exactly if no common number exists.
-- Assumes nothing.
use mathlib.Core.Path.{◌≡◌, refl, sym, ap, ◌∙◌}
use mathlib.Core.Bool.{Bool, true, false, cond}
use mathlib.Core.List.Memᴰ
use mathlib.Core.List.{List, [], ◌∷◌, ◌++◌, Memᴰ}
use mathlib.Core.Logic.{◌↔◌, ⊎_elim}
use Prim.Native.Nat.{ℕ}
use native.Mathlib.Omega.{arith}
use Rattle.negotiation.specs.Negotiation.{holds, none, common, first_common}

-- the own list holds no number of a list
abbrev pub NoneHeld : List ℕ → List ℕ → Type 0
NoneHeld own l = (x : ℕ) → Memᴰ x l → holds own x ≡ false

-- n stands in the list, the own list holds it, and none of those before it
pub record FirstHeld (l own : List ℕ) (n : ℕ) : Type 0 where
  pub before : List ℕ
  pub after : List ℕ
  pub whole : l ≡ before ++ (n ∷ after)
  pub held : holds own n ≡ true
  pub earlier : NoneHeld own before

none_more : (m : ℕ) (l own : List ℕ) → holds own m ≡ false → NoneHeld own l → NoneHeld own (m ∷ l)
none_more m l own h g x i = ⊎_elim (λ (e : x ≡ m). ap (holds own) e ∙ h) (λ (j : Memᴰ x l). g x j) (Memᴰ.cases_cons i)

first_more : (m : ℕ) (l own : List ℕ) (n : ℕ) → (first_common l own ≡ common n → FirstHeld l own n)
    → (b : Bool) → holds own m ≡ b → cond b (common m) (first_common l own) ≡ common n → FirstHeld (m ∷ l) own n
first_more m l own n rest true h e =
    let same : m ≡ n = cc in
    record {
      before = [];
      after = l;
      whole = ap (λ (k : ℕ). k ∷ l) same;
      held = ap (holds own) (sym same) ∙ h;
      earlier = λ x i. absurd (Memᴰ.not-nil i);
    }
first_more m l own n rest false h e =
    let t = rest e in
    record {
      before = m ∷ t.before;
      after = t.after;
      whole = ap (λ (s : List ℕ). m ∷ s) t.whole;
      held = t.held;
      earlier = none_more m t.before own h t.earlier;
    }

pub common_first : (l own : List ℕ) (n : ℕ) → first_common l own ≡ common n → FirstHeld l own n
common_first [] own n e = let z : ◌≡◌ {A = ℕ} 0 1 = cc in absurd (omega arith)
common_first (m ∷ l) own n e = first_more m l own n (λ (f : first_common l own ≡ common n). common_first l own n f) (holds own m) refl e

none_fewer : (m : ℕ) (l own : List ℕ) → (first_common l own ≡ none → NoneHeld own l)
    → (b : Bool) → holds own m ≡ b → cond b (common m) (first_common l own) ≡ none → NoneHeld own (m ∷ l)
none_fewer m l own rest true h e = let z : ◌≡◌ {A = ℕ} 0 1 = cc in absurd (omega arith)
none_fewer m l own rest false h e = none_more m l own h (rest e)

none_held : (l own : List ℕ) → first_common l own ≡ none → NoneHeld own l
none_held [] own e = λ x i. absurd (Memᴰ.not-nil i)
none_held (m ∷ l) own e = none_fewer m l own (λ (f : first_common l own ≡ none). none_held l own f) (holds own m) refl e

none_told : (l own : List ℕ) → NoneHeld own l → first_common l own ≡ none
none_told [] own g = refl
none_told (m ∷ l) own g = rw (g m (Memᴰ.head refl)) (none_told l own (λ x i. g x (Memᴰ.tail i)))

pub common_none : (l own : List ℕ) → (first_common l own ≡ none) ↔ NoneHeld own l
common_none l own = (none_held l own, none_told l own)
