-- What a caller gets in hand of an accepted request is a function of the bodies that its definition shows: equal bodies, equal in hand.
-- Assumes nothing.
use mathlib.Core.Path.{◌≡◌, refl, sym, ap, ◌∙◌}
use mathlib.Core.List.{List, ◌++◌}
use Prim.Native.Nat.{ℕ, ◌+◌, ◌-◌, ◌/◌, ◌≤◌}
use native.Mathlib.Omega.{arith}
use borrow.Author.Tests.{le-leb}
use lib.ListN.{length, take, drop, length-drop, length-map}
use lib.Seq.{length-take-le, take-take, take-add, drop_at, drop-drop}
use Rattle.wire.specs.Bytes.{number_at, part_at}
use Rattle.wire.specs.Over.{over}
use Rattle.wire.proofs.Over.{over_none}
use Rattle.nts.specs.Refusal.{Refused, told_refusal}
use Rattle.nts.specs.declared.Refusal.{Refusal}
use Rattle.layout.specs.declared.Profile.{Profile}
use Rattle.walk.specs.Walk.{Sighting}
use Rattle.walk.specs.Judge.{body_in, part_of, refused, accepted}
use Rattle.walk.specs.Judge as judge
use Rattle.places.specs.Places.{cells, room_of}
use Rattle.places.proofs.Entries.{body_length, part_body, entries_back}
use Rattle.request.specs.declared.Request.{Request}
use Rattle.request.specs.declared.Request.TheVariants.{KeyExchange, FixedKey, Support}
use Rattle.request.specs.declared.Answer.{Answer}
use Rattle.request.specs.declared.Answer.TheVariants.{Accepted}
use Rattle.request.specs.declared.Answer.TheVariants as answer
use Rattle.request.specs.Request.{Form, key_exchange, fixed_key, support, map_form, request, first_half, second_half, told_form, told_by, told_request, told_answer, refused_with, names_of, table_after, Reads}
use Rattle.request.proofs.Order.{shows, reading, InsideForm, accepted_inside}
use Rattle.promises.specs.Handed.{bytes_at, handed_out, in_hand}
use Rattle.promises.specs.Called.{ParseRequest, answering, request_parse}
use Rattle.promises.proofs.Steady.{Faithful}

-- ---- the parts

module _ (m : List ℕ) (x : Sighting) (h : x.start + x.len ≤ length m) where
  first_body : bytes_at m (first_half x) ≡ take (length (body_in m x) / 2) (body_in m x)
  unfolding part_at
  first_body =
      rw (body_length m x h, le-leb (x.start + x.len / 2) (length m) (omega arith), take-take (x.len / 2) x.len (drop x.start m) (omega arith))

  second_body : bytes_at m (second_half x) ≡ take (length (body_in m x) / 2) (drop (length (body_in m x) / 2) (body_in m x))
  unfolding part_at
  second_body =
      let k = x.len / 2 in
      let s = drop x.start m in
      let both : x.len ≡ k + (x.len - k) = omega arith in
      let split : take x.len s ≡ take k s ++ take (x.len - k) (drop k s) = ap (λ (n : ℕ). take n s) both ∙ take-add k (x.len - k) s in
      let front : length (take k s) ≡ k = length-take-le k s (omega (arith, length-drop x.start m)) in
      let rest : drop k (take x.len s) ≡ take (x.len - k) (drop k s) = ap (drop k) split ∙ drop_at (take k s) (take (x.len - k) (drop k s)) k front in
      rw (body_length m x h, le-leb (x.start + k + k) (length m) (omega arith), rest, take-take k (x.len - k) (drop k s) (omega arith), drop-drop k x.start m)

-- ---- what the call answered

module _ (m : List ℕ) where
  pub shown : (table table' : List ℕ) (x : Request) (q : Form Sighting) → InsideForm (length m) q → told_request x ≡ told_form m q
      → table' ≡ table_after (accepted q) table → handed_out m table' x ≡ in_hand (map_form (body_in m) q)
  unfolding table_after
  shown table table' (KeyExchange p a n) (key_exchange p₁ a₁ d) i e l =
      let ep : p ≡ part_of p₁ = cc in
      let ea : a ≡ part_of a₁ = cc in
      let en : n ≡ length d = cc in
      let names = entries_back m table d i.1.1 in
      rw (ep, ea, en, l, part_body m p₁ i.0, part_body m a₁ i.1.0, names, length-map)
  shown table table' (KeyExchange p a n) (fixed_key u₁ x₁ a₁ p₁ k₁) i e l = let z : ◌≡◌ {A = ℕ} 0 1 = cc in absurd (omega arith)
  shown table table' (KeyExchange p a n) (support u₁ p₁ a₁ k₁) i e l = let z : ◌≡◌ {A = ℕ} 0 1 = cc in absurd (omega arith)
  shown table table' (FixedKey u c s a p k) (key_exchange p₁ a₁ d) i e l = let z : ◌≡◌ {A = ℕ} 0 1 = cc in absurd (omega arith)
  shown table table' (FixedKey u c s a p k) (fixed_key u₁ x₁ a₁ p₁ k₁) i e l =
      let eu : u ≡ part_of u₁ = cc in
      let ec : c ≡ first_half x₁ = cc in
      let es : s ≡ second_half x₁ = cc in
      let ea : a.0 ≡ number_at (body_in m a₁) 0 = cc in
      let ep : p.0 ≡ number_at (body_in m p₁) 0 = cc in
      let ek : k ≡ k₁ = cc in
      rw (eu, ec, es, ea, ep, ek, part_body m u₁ i.0, first_body m x₁ i.1.0, second_body m x₁ i.1.0)
  shown table table' (FixedKey u c s a p k) (support u₁ p₁ a₁ k₁) i e l = let z : ◌≡◌ {A = ℕ} 0 1 = cc in absurd (omega arith)
  shown table table' (Support u p a k) (key_exchange p₁ a₁ d) i e l = let z : ◌≡◌ {A = ℕ} 0 1 = cc in absurd (omega arith)
  shown table table' (Support u p a k) (fixed_key u₁ x₁ a₁ p₁ k₁) i e l = let z : ◌≡◌ {A = ℕ} 0 1 = cc in absurd (omega arith)
  shown table table' (Support u p a k) (support u₁ p₁ a₁ k₁) i e l =
      let eu : u ≡ part_of u₁ = cc in
      let body = part_body m u₁ i.0 in
      cc (ap (bytes_at m) eu)

-- a request is no refusal
pub told_not : (x : Request) (y : Refused) → told_request x ≡ refused_with y → ◌≡◌ {A = ℕ} 0 1
told_not (KeyExchange p a n) y h = cc
told_not (FixedKey u c s a p k) y h = cc
told_not (Support u p a k) y h = cc

pub form_not : (m : List ℕ) (q : Form Sighting) (y : Refused) → told_form m q ≡ refused_with y → ◌≡◌ {A = ℕ} 0 1
form_not m (key_exchange p a d) y h = cc
form_not m (fixed_key u x a p k) y h = cc
form_not m (support u p a k) y h = cc

-- a call on m in a profile, under the limit n and with a table, as its contract tells it
module _ (P : Profile) (m : List ℕ) (n : ℕ) (table : List ℕ) (r : Answer) (table' : List ℕ) (c : Reads P m n table r table') where
  -- it answered a request: then the definition accepts ..
  pub answered : (x : Request) → r ≡ Accepted x → (q : Form Sighting) × (request P m n (room_of table) ≡ accepted q)
  answered x e = go (request P m n (room_of table)) refl (ap told_answer (sym e) ∙ c.says)
    where
      go : (o : judge.Answer Form) → request P m n (room_of table) ≡ o → told_request x ≡ told_by m o
          → (q : Form Sighting) × (request P m n (room_of table) ≡ accepted q)
      go (refused y) w h = let z : ◌≡◌ {A = ℕ} 0 1 = told_not x y h in absurd (omega arith)
      go (accepted q) w h = (q, w)

  -- .. and where the definition accepts, it answered a request
  pub answers : (q : Form Sighting) → request P m n (room_of table) ≡ accepted q → (x : Request) × (r ≡ Accepted x)
  answers q w = go r refl (c.says ∙ ap (told_by m) w)
    where
      go : (o : Answer) → r ≡ o → told_answer o ≡ told_form m q → (x : Request) × (r ≡ Accepted x)
      go (Accepted x) e h = (x, e)
      go (answer.Refused y) e h = let z : ◌≡◌ {A = ℕ} 0 1 = form_not m q (told_refusal y) (sym h) in absurd (omega arith)

  pub in_hand_lem : (x : Request) (q : Form Sighting) → r ≡ Accepted x → request P m n (room_of table) ≡ accepted q
      → handed_out m table' x ≡ in_hand (map_form (body_in m) q)
  in_hand_lem x q e w =
      shown m table table' x q (accepted_inside P m n (room_of table) q w) (ap told_answer (sym e) ∙ c.says ∙ ap (told_by m) w)
      (c.left ∙ ap (λ (o : judge.Answer Form). table_after o table) w)

  -- where the definition refuses, so does the call, and no cell of the table changes
  pub refuses : (y : Refused) → request P m n (room_of table) ≡ refused y
      → (x : Refusal) × (r ≡ answer.Refused x) × (told_refusal x ≡ y) × (table' ≡ table)
  unfolding table_after
  refuses y w = go r refl (c.says ∙ ap (told_by m) w)
    where
      same : table' ≡ table
      same = c.left ∙ ap (λ (o : judge.Answer Form). over (cells (names_of o)) table) w ∙ over_none table

      go : (o : Answer) → r ≡ o → told_answer o ≡ refused_with y → (x : Refusal) × (r ≡ answer.Refused x) × (told_refusal x ≡ y) × (table' ≡ table)
      go (Accepted x) e h = let z : ◌≡◌ {A = ℕ} 0 1 = told_not x y h in absurd (omega arith)
      go (answer.Refused x) e h = (x, e, cc, same)

-- ---- so calls that each meet the reader's contract answer as the definition does

pub reads_faithful : (C : Type 1) (P : C → Profile) (m : C → List ℕ) (n : C → ℕ) (table : C → List ℕ) (r : C → Answer) (table' : C → List ℕ) → ((c : C) → Reads (P c) (m c) (n c) (table c) (r c) (table' c))
    → Faithful reading shows (answering C P m n table r table') in_hand
unfolding request
reads_faithful C P m n table r table' met = record {
  accepted_by = λ c s h.
      let q = answered _ _ _ _ _ _ (met c) h.0 h.1 in
      (q.0, q.1, sym (in_hand_lem _ _ _ _ _ _ (met c) h.0 q.0 h.1 q.1) ∙ h.2);
  accepts = λ c q w.
      let x = answers _ _ _ _ _ _ (met c) q w in
      (x.0, x.1, in_hand_lem _ _ _ _ _ _ (met c) x.0 q x.1 w);
  refuses = λ c y w. refuses _ _ _ _ _ _ (met c) y w;
}

pub request_faithful : Faithful reading shows request_parse in_hand
unfolding request
request_faithful = reads_faithful ParseRequest _ _ _ _ _ _ (λ c. c.met)
