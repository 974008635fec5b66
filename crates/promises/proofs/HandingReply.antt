-- What a caller gets in hand of an accepted reply is a function of the bodies that its definition shows: equal bodies, equal in hand.
-- Assumes nothing.
use mathlib.Core.Path.{◌≡◌, refl, sym, ap, ◌∙◌}
use mathlib.Core.List.{List}
use Prim.Native.Nat.{ℕ}
use native.Mathlib.Omega.{arith}
use lib.ListN.{length, length-map}
use Rattle.wire.specs.Bytes.{number_at}
use Rattle.wire.specs.Over.{over}
use Rattle.wire.proofs.Over.{over_none}
use Rattle.nts.specs.Refusal.{Refused, told_refusal}
use Rattle.nts.specs.declared.Refusal.{Refusal}
use Rattle.layout.specs.declared.Profile.{Profile}
use Rattle.walk.specs.Walk.{Sighting}
use Rattle.walk.specs.Judge.{Terms, body_in, part_of, refused, accepted}
use Rattle.walk.specs.Judge as judge
use Rattle.places.specs.Places.{cells, room_of}
use Rattle.places.proofs.Entries.{part_body, entries_back}
use Rattle.reply.specs.Reply.{Sent, sent, not_sent, map_sent, Form, reply, map_form, reply_of, offering, told_form, told_by, told_server, told_port, told_reply, told_answer, refused_with, cookies_of, table_after, Reads}
use Rattle.reply.specs.declared.KeyExchangeResponse.{KeyExchangeResponse}
use Rattle.reply.specs.declared.Answer.{Answer}
use Rattle.reply.specs.declared.Answer.TheVariants.{Accepted}
use Rattle.reply.specs.declared.Answer.TheVariants as answer
use Rattle.reply.proofs.Order.{shows, reading, InsideSent, InsideForm, accepted_inside}
use Rattle.promises.specs.Handed.{bytes_at}
use Rattle.promises.specs.HandedReply.{handed_out, in_hand}
use Rattle.promises.specs.Called.{reply_parse}
use Rattle.promises.proofs.Steady.{Faithful}

module _ (m : List ℕ) where
  server_body : (s : Sent Sighting) → InsideSent (length m) s → map_sent (bytes_at m) (map_sent part_of s) ≡ map_sent (body_in m) s
  server_body not_sent i = refl
  server_body (sent x) i = ap sent (part_body m x i)

  port_body : (t : Sent Sighting) → map_sent (λ (x : Sighting). number_at (body_in m x) 0) t ≡ map_sent (λ (b : List ℕ). number_at b 0) (map_sent (body_in m) t)
  port_body not_sent = refl
  port_body (sent x) = refl

  pub shown : (table table' : List ℕ) (x : KeyExchangeResponse) (q : Form Sighting) → InsideForm (length m) q → told_reply x ≡ told_form m q
      → table' ≡ table_after (accepted q) table → handed_out m table' x ≡ in_hand (map_form (body_in m) q)
  unfolding table_after
  shown table table' x (reply p a s t k c) i e l =
      let ep : x.protocol.0 ≡ number_at (body_in m p) 0 = cc in
      let ea : x.algorithm.0 ≡ number_at (body_in m a) 0 = cc in
      let es : told_server x.server ≡ map_sent part_of s = cc in
      let et : told_port x.port ≡ map_sent (λ (y : Sighting). number_at (body_in m y) 0) t = cc in
      let ek : x.keep_alive ≡ k = cc in
      let en : x.cookies ≡ length c = cc in
      rw (ep, ea, es, et, ek, en, l, server_body s i.2, port_body t, entries_back m table c i.4, length-map)

-- a call on m in a profile, under the limit n and with a table, where ps and qs were offered, as its contract tells it
module _ (P : Profile) (m : List ℕ) (n : ℕ) (ps qs table : List ℕ) (r : Answer) (table' : List ℕ) (c : Reads P m n ps qs table r table') where
  abbrev under : Terms
  under = offering ps qs (room_of table)

  -- it answered a reply: then the definition accepts ..
  pub answered : (x : KeyExchangeResponse) → r ≡ Accepted x → (q : Form Sighting) × (reply_of P m n under ≡ accepted q)
  answered x e = go (reply_of P m n under) refl (ap told_answer (sym e) ∙ c.says)
    where
      go : (o : judge.Answer Form) → reply_of P m n under ≡ o → told_reply x ≡ told_by m o
          → (q : Form Sighting) × (reply_of P m n under ≡ accepted q)
      go (refused y) w h = let z : ◌≡◌ {A = ℕ} 0 1 = cc in absurd (omega arith)
      go (accepted q) w h = (q, w)

  -- a reply is no refusal
  form_not : (q : Form Sighting) (y : Refused) → told_form m q ≡ refused_with y → ◌≡◌ {A = ℕ} 0 1
  form_not (reply p a s t k l) y h = cc

  -- .. and where the definition accepts, it answered a reply
  pub answers : (q : Form Sighting) → reply_of P m n under ≡ accepted q → (x : KeyExchangeResponse) × (r ≡ Accepted x)
  answers q w = go r refl (c.says ∙ ap (told_by m) w)
    where
      go : (o : Answer) → r ≡ o → told_answer o ≡ told_form m q → (x : KeyExchangeResponse) × (r ≡ Accepted x)
      go (Accepted x) e h = (x, e)
      go (answer.Refused y) e h = let z : ◌≡◌ {A = ℕ} 0 1 = form_not q (told_refusal y) (sym h) in absurd (omega arith)

  pub in_hand_lem : (x : KeyExchangeResponse) (q : Form Sighting) → r ≡ Accepted x → reply_of P m n under ≡ accepted q
      → handed_out m table' x ≡ in_hand (map_form (body_in m) q)
  in_hand_lem x q e w =
      shown m table table' x q (accepted_inside P m n under q w) (ap told_answer (sym e) ∙ c.says ∙ ap (told_by m) w)
      (c.left ∙ ap (λ (o : judge.Answer Form). table_after o table) w)

  -- where the definition refuses, so does the call, and no cell of the table changes
  pub refuses : (y : Refused) → reply_of P m n under ≡ refused y
      → (x : Refusal) × (r ≡ answer.Refused x) × (told_refusal x ≡ y) × (table' ≡ table)
  unfolding table_after
  refuses y w = go r refl (c.says ∙ ap (told_by m) w)
    where
      same : table' ≡ table
      same = c.left ∙ ap (λ (o : judge.Answer Form). over (cells (cookies_of o)) table) w ∙ over_none table

      go : (o : Answer) → r ≡ o → told_answer o ≡ refused_with y → (x : Refusal) × (r ≡ answer.Refused x) × (told_refusal x ≡ y) × (table' ≡ table)
      go (Accepted x) e h = let z : ◌≡◌ {A = ℕ} 0 1 = cc in absurd (omega arith)
      go (answer.Refused x) e h = (x, e, cc, same)

-- ---- so every call answers as the definition does

pub reply_faithful : Faithful reading shows reply_parse in_hand
reply_faithful = record {
  accepted_by = λ c s h.
      let q = answered _ _ _ _ _ _ _ _ c.met h.0 h.1 in
      (q.0, q.1, sym (in_hand_lem _ _ _ _ _ _ _ _ c.met h.0 q.0 h.1 q.1) ∙ h.2);
  accepts = λ c q w.
      let x = answers _ _ _ _ _ _ _ _ c.met q w in
      (x.0, x.1, in_hand_lem _ _ _ _ _ _ _ _ c.met x.0 q x.1 w);
  refuses = λ c y w. refuses _ _ _ _ _ _ _ _ c.met y w;
}
