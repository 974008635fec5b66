-- Short texts, one after the other.
-- Assumes nothing.
use mathlib.Core.Path.{◌≡◌, refl, sym, ap, ◌∙◌}
use mathlib.Core.List.{List, [], ◌∷◌, ◌++◌, append_assoc}
use Prim.Native.Nat.{ℕ, ◌+◌, ◌-◌, ◌≤◌}
use native.Mathlib.Omega.{arith}
use borrow.Rule.Slice.PartMut.{mid_of, put_mid}
use lib.ListN.{length, take, drop, length-append}
use lib.Seq.{take_at}
use Rattle.wire.specs.Over.{over, Tried}
use Rattle.wire.proofs.Over.{over_none, put_as, put_then, rest_room}
use Rattle.nts.specs.Refusal.{number_of, Beside, beside_of, told_code, told_refusal}
use Rattle.nts.specs.declared.Code.{Code}
use Rattle.nts.specs.declared.Refusal.{Refusal}
use Rattle.record.specs.declared.Glance.{Glance}
use Rattle.request.specs.Request.{refused_with}
use Rattle.listing.specs.Listing.{space, newline, digits, mark, record_line, protocols_text, algorithms_text, denied_text, refused_text, at_text, beside_text, answer_text}
use Rattle.listing.specs.Code.{PutMost, row_line, row_text}

-- a total writer that had room
pub most : {b o o' : List ℕ} {r : ℕ} → length b ≤ length o → Tried (length b) b o r o' → PutMost (length b) b o r o'
most {b} {o} {o'} {r} h t = let p = t.room h in record { put = p; within = omega (arith, p.count) }

-- a larger bound, and other words for the text
pub most_as : {m m' r : ℕ} {b b' o o' : List ℕ} → PutMost m b o r o' → m ≤ m' → b ≡ b' → PutMost m' b' o r o'
most_as {m} {m'} {r} {b} {b'} {o} {o'} p h e = rw (← e) (record { put = p.put; within = omega (arith, p.within) })

-- where there is room for k bytes more than the bound, the rest of the output has it
pub most_rest : {m k : ℕ} {a o o₁ : List ℕ} {at : ℕ} → PutMost m a o at o₁ → m + k ≤ length o → k ≤ length (mid_of at (length o₁ - at) o₁)
most_rest {m} {k} {a} {o} {o₁} {at} p room = rest_room p.put (omega (arith, p.put.count, p.within))

pub most_then : {m k : ℕ} {a b o o₁ o₂ : List ℕ} {at r : ℕ} → PutMost m a o at o₁ → PutMost k b (mid_of at (length o₁ - at) o₁) r o₂ → m + k ≤ length o
    → PutMost (m + k) (a ++ b) o (at + r) (put_mid at (length o₁ - at) o₁ o₂)
most_then {m} {k} {a} {b} {o} {o₁} {o₂} {at} {r} p q room =
    record {
      put = put_as (put_then p.put q.put (omega (arith, p.put.count, p.within, q.put.count, q.within))) (sym (length-append a b)) refl;
      within = omega (arith, p.within, q.within);
    }

-- the text is what the front of the output then holds
front : {m : ℕ} {b o o' : List ℕ} {r : ℕ} → PutMost m b o r o' → take r o' ≡ b
unfolding over
front {m} {b} {o} {o'} {r} p = ap (take r) p.put.left ∙ take_at b (drop (length b) o) r (sym p.put.count)

-- ---- a text that was made in an array is copied to the output

pub made : {m n : ℕ} {b z z' : List ℕ} → PutMost m b z n z' → take (n - 0) z' ≡ b
made {m} {n} {b} {z} {z'} p = let e : n - 0 ≡ n = omega arith in rw e (front p)

pub copied : {m n : ℕ} {b z z' o o' : List ℕ} {r : ℕ} → PutMost m b z n z' → Tried (length (take (n - 0) z')) (take (n - 0) z') o r o' → Tried (length b) b o r o'
copied p t = rw (made p) at t

-- ---- the texts of the listing, as they are put together

pub put_none : {m : ℕ} {o : List ℕ} → PutMost m [] o 0 o
put_none {m} {o} = record { put = record { count = refl; size = refl; left = sym (over_none o) }; within = omega arith }

after_two : (x a y b w : List ℕ) → ((x ++ a) ++ (y ++ b)) ++ w ≡ x ++ (a ++ (y ++ (b ++ w)))
after_two x a y b w = simp append_assoc

pub exchange_text : (p a d : ℕ) → ((protocols_text ++ digits p) ++ (algorithms_text ++ digits a)) ++ (denied_text ++ digits d) ≡ protocols_text ++ (digits p ++ (algorithms_text ++ (digits a ++ (denied_text ++ digits d))))
exchange_text p a d = after_two protocols_text (digits p) algorithms_text (digits a) (denied_text ++ digits d)

pub refusal_text : (f : Refusal) (n : ℕ) (c : Code) → n ≡ number_of f.error → told_code c ≡ beside_of f.error
    → ((refused_text ++ digits n) ++ (at_text ++ digits f.place)) ++ beside_text (told_code c) ≡ answer_text (refused_with (told_refusal f))
refusal_text f n c en ec =
    after_two refused_text (digits n) at_text (digits f.place) (beside_text (told_code c))
    ∙ ap (λ (k : ℕ). refused_text ++ (digits k ++ (at_text ++ (digits f.place ++ beside_text (told_code c))))) en
    ∙ ap (λ (x : Beside). refused_text ++ (digits (number_of f.error) ++ (at_text ++ (digits f.place ++ beside_text x)))) ec

after_one : (a y b z d w : List ℕ) → a ++ ((y ++ b) ++ ((z ++ d) ++ w)) ≡ a ++ (y ++ (b ++ (z ++ (d ++ w))))
after_one a y b z d w = simp append_assoc

pub row_text_lem : (x : Glance) → (((space ∷ []) ++ digits x.kind) ++ ((space ∷ mark x.critical ∷ space ∷ []) ++ digits x.size)) ++ (newline ∷ []) ≡ row_text x
unfolding row_text
row_text_lem x = append_assoc ((space ∷ []) ++ digits x.kind) ((space ∷ mark x.critical ∷ space ∷ []) ++ digits x.size) (newline ∷ [])

pub line_text : (at : ℕ) (x : Glance) → digits at ++ row_text x ≡ row_line at x
unfolding record_line row_text
line_text at x = after_one (digits at) (space ∷ []) (digits x.kind) (space ∷ mark x.critical ∷ space ∷ []) (digits x.size) (newline ∷ [])
