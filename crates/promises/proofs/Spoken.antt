-- What an answer of a function that feeds a read says: nothing yet, what it accepts, or a refusal. So its calls hand out, of the bytes gathered and the table, what the
-- definition shows.
-- Assumes nothing.
use mathlib.Core.Path.{◌≡◌, refl, sym, ap, ◌∙◌}
use mathlib.Core.List.{List}
use mathlib.Core.Logic.{◌⊎◌, inl, inr}
use Prim.Native.Nat.{ℕ}
use native.Mathlib.Omega.{arith}
use Rattle.wire.proofs.Over.{over_none}
use Rattle.nts.specs.Refusal.{Refused, told_refusal}
use Rattle.nts.specs.declared.Refusal.{Refusal}
use Rattle.walk.specs.Walk.{Sighting}
use Rattle.walk.specs.Judge as judge
use Rattle.walk.specs.Judge.{Under, body_in, read_by}
use Rattle.walk.specs.Message.{contents}
use Rattle.request.specs.Request as requests
use Rattle.request.specs.declared.Request.{Request}
use Rattle.request.proofs.Order as request_order
use Rattle.reply.specs.Reply as replies
use Rattle.reply.specs.declared.KeyExchangeResponse.{KeyExchangeResponse}
use Rattle.reply.proofs.Order as reply_order
use Rattle.pieces.specs.Pieces.{Read, Says, nothing_yet, says, held}
use Rattle.pieces.specs.Reads.{request_read, reply_read}
use Rattle.promises.specs.Handed as hand
use Rattle.promises.specs.HandedReply as hand_reply
use Rattle.promises.specs.Pieces.{Made, Feeder}
use Rattle.promises.specs.Fed.{feeder}
use Rattle.promises.proofs.Handing as handing
use Rattle.promises.proofs.HandingReply as handing_reply
use Rattle.promises.proofs.Cutting.{Local, Meets}
use Rattle.promises.proofs.Joined.{Handing}

says_one : {T : Type 0} (y z : T) → says y ≡ says z → y ≡ z
says_one y z e = cc

says_some : {T : Type 0} (y : T) → nothing_yet ≡ says y → ⊥
says_some y e = let z : ◌≡◌ {A = ℕ} 0 1 = cc in omega arith

-- ---- what is told of a sort of read

-- of what is accepted, as a value Y, and of a refusal; they are told apart; and what is in hand is what is shown
pub record Speech (X : Read) (Y S : Type 0) (tellY : Y → X.Told) (refusing : Refused → X.Told) (out : List ℕ → List ℕ → Y → S) (in_hand : X.judging.Q (List ℕ) → S) : Type 0 where
  pub refused_is : (m : List ℕ) (r : Refused) → X.tells m (judge.refused r) ≡ refusing r
  pub refusing_one : (r r' : Refused) → refusing r ≡ refusing r' → r ≡ r'
  pub apart : (y : Y) (r : Refused) → tellY y ≡ refusing r → ⊥
  pub accepted_apart : (m : List ℕ) (q : X.judging.Q Sighting) (r : Refused) → X.tells m (judge.accepted q) ≡ refusing r → ⊥
  pub shown : (m table filled : List ℕ) (y : Y) (u : Under) (q : X.judging.Q Sighting) → read_by X.reader X.judging m u ≡ judge.accepted q
      → tellY y ≡ X.tells m (judge.accepted q) → filled ≡ X.fills (judge.accepted q) table → out m filled y ≡ in_hand (contents X.judging m q)
  pub kept : (r : Refused) (table : List ℕ) → X.fills (judge.refused r) table ≡ table

pub request_speech : Speech request_read Request hand.Shown requests.told_request requests.refused_with hand.handed_out hand.in_hand
unfolding requests.request requests.table_after
request_speech = record {
  refused_is = λ m r. refl;
  refusing_one = λ r r' e. cc;
  apart = λ y r e. let z : ◌≡◌ {A = ℕ} 0 1 = handing.told_not y r e in omega arith;
  accepted_apart = λ m q r e. let z : ◌≡◌ {A = ℕ} 0 1 = handing.form_not m q r e in omega arith;
  shown = λ m table filled y u q w e f. handing.shown m table filled y q (request_order.accepted_inside u.profile m u.limit u.terms.room q (sym (request_order.room_alone m u) ∙ w)) e f;
  kept = λ r table. over_none table;
}

reply_form_not : (m : List ℕ) (q : replies.Form Sighting) (r : Refused) → replies.told_form m q ≡ replies.refused_with r → ⊥
reply_form_not m (replies.reply p a s t k c) r e = let z : ◌≡◌ {A = ℕ} 0 1 = cc in omega arith

pub reply_speech : Speech reply_read KeyExchangeResponse hand_reply.Shown replies.told_reply replies.refused_with hand_reply.handed_out hand_reply.in_hand
unfolding replies.reply_of replies.table_after
reply_speech = record {
  refused_is = λ m r. refl;
  refusing_one = λ r r' e. cc;
  apart = λ y r e. let z : ◌≡◌ {A = ℕ} 0 1 = cc in omega arith;
  accepted_apart = λ m q r e. reply_form_not m q r e;
  shown = λ m table filled y u q w e f. handing_reply.shown m table filled y q (reply_order.accepted_inside u.profile m u.limit u.terms q w) e f;
  kept = λ r table. over_none table;
}

-- ---- answers A that say it

-- each is one of three: nothing yet, what is accepted, or a refusal
abbrev pub One : {T Y A : Type 0} → (A → Says T) → (Y → A) → (Refusal → A) → A → Type 0
One {T} {Y} {A} told accepts refuses a = (told a ≡ nothing_yet) ⊎ (((y : Y) × (a ≡ accepts y)) ⊎ ((x : Refusal) × (a ≡ refuses x)))

pub record Spoken {T Y A : Type 0} (tellY : Y → T) (refusing : Refused → T) (told : A → Says T) (accepts : Y → A) (refuses : Refusal → A) : Type 0 where
  pub view : (a : A) → One told accepts refuses a
  pub told_accepts : (y : Y) → told (accepts y) ≡ says (tellY y)
  pub told_refuses : (x : Refusal) → told (refuses x) ≡ says (refusing (told_refusal x))
  pub accepts_one : (y y' : Y) → accepts y ≡ accepts y' → y ≡ y'

-- so a function with these answers hands out what its definition shows
module _ {X : Read} (L : Local X) {C : Type 1} {A Y S : Type 0} {made : C → Made X} {of : C → A} {accepts : Y → A} {refuses : Refusal → A} {out : List ℕ → List ℕ → Y → S}
    {tellY : Y → X.Told} {refusing : Refused → X.Told} {in_hand : X.judging.Q (List ℕ) → S} {told : A → Says X.Told}
    (P : Speech X Y S tellY refusing out in_hand) (W : Spoken tellY refusing told accepts refuses)
    (meets : (c : C) → Meets X (made c)) (said : (c : C) → (made c).said ≡ told (of c)) where
  abbrev F : Feeder X S
  F = feeder X made of accepts refuses out

  abbrev gathered : C → List ℕ
  gathered c = held (made c).after (made c).left

  -- a call that says what is accepted
  accepting : (c : C) (u : Under) (q : X.judging.Q Sighting) → read_by X.reader X.judging (gathered c) u ≡ judge.accepted q
      → (made c).said ≡ says (X.tells (gathered c) (judge.accepted q)) → (made c).filled ≡ X.fills (judge.accepted q) (made c).table
      → F.Accepts c (in_hand (contents X.judging (gathered c) q))
  accepting c u q w e f = go (W.view (of c))
    where
      says_so : told (of c) ≡ says (X.tells (gathered c) (judge.accepted q))
      says_so = sym (said c) ∙ e

      go : One told accepts refuses (of c) → F.Accepts c (in_hand (contents X.judging (gathered c) q))
      go (inl n) = absurd (says_some _ (sym n ∙ says_so))
      go (inr (inl y)) =
          let t = says_one _ _ (sym (W.told_accepts y.0) ∙ ap told (sym y.1) ∙ says_so) in
          (y.0, y.1, P.shown (gathered c) (made c).table (made c).filled y.0 u q w t f)
      go (inr (inr x)) =
          absurd (P.accepted_apart (gathered c) q (told_refusal x.0) (says_one _ _ (sym says_so ∙ ap told x.1 ∙ W.told_refuses x.0)))

  -- .. or a refusal
  refused_so : (c : C) (m : List ℕ) (r : Refused) → (made c).said ≡ says (X.tells m (judge.refused r)) → (made c).filled ≡ X.fills (judge.refused r) (made c).table → F.Refuses c r
  refused_so c m r e f = go (W.view (of c))
    where
      says_so : told (of c) ≡ says (refusing r)
      says_so = sym (said c) ∙ e ∙ ap says (P.refused_is m r)

      go : One told accepts refuses (of c) → F.Refuses c r
      go (inl n) = absurd (says_some _ (sym n ∙ says_so))
      go (inr (inl y)) = absurd (P.apart y.0 r (says_one _ _ (sym (W.told_accepts y.0) ∙ ap told (sym y.1) ∙ says_so)))
      go (inr (inr x)) =
          (x.0, x.1, P.refusing_one _ _ (says_one _ _ (sym (W.told_refuses x.0) ∙ ap told (sym x.1) ∙ says_so)), f ∙ P.kept r (made c).table)

  pub spoken_handing : Handing X L F in_hand
  spoken_handing = record {
    meets = meets;
    accepts = accepting;
    accepted_by = λ c s h. (tellY h.0, said c ∙ ap told h.1 ∙ W.told_accepts h.0, λ m r e. P.apart h.0 r (e ∙ P.refused_is m r));
    one = λ c s s' h h'.
        let y = W.accepts_one h.0 h'.0 (sym h.1 ∙ h'.1) in
        sym h.2 ∙ ap (out (gathered c) (made c).filled) y ∙ h'.2;
    refuses = refused_so;
  }
