-- What a host gets in hand by the cells of ntske_read_reply or ntske_read_reply_strict is what a caller gets in hand of the reply that they tell.
-- Assumes nothing.
use mathlib.Core.Path.{◌≡◌, refl, sym, ap, ◌∙◌}
use mathlib.Core.List.{List}
use mathlib.Core.Bool.{cond}
use Prim.Native.Nat.{ℕ}
use native.Mathlib.Omega.{arith}
use lib.ListN.{length}
use lib.Dec.{eqb}
use Rattle.wire.specs.Bytes.{number_at, part_at}
use Rattle.wire.specs.Over.{over}
use Rattle.wire.proofs.Over.{over_none}
use Rattle.nts.specs.Refusal.{Refused}
use Rattle.layout.specs.declared.Part.{Part}
use Rattle.layout.specs.declared.Profile.{Profile}
use Rattle.layout.specs.declared.Profile.TheVariants.{Usual, Strict}
use Rattle.walk.specs.Walk.{Sighting}
use Rattle.walk.specs.Judge.{body_in, part_of, refused, accepted}
use Rattle.walk.specs.Judge as judge
use Rattle.places.specs.Places.{cells, room_of}
use Rattle.reply.specs.declared.KeyExchangeResponse.{KeyExchangeResponse}
use Rattle.reply.specs.declared.Server.{Server}
use Rattle.reply.specs.declared.Server.TheVariants as server
use Rattle.reply.specs.declared.Port.{Port}
use Rattle.reply.specs.declared.Port.TheVariants as port
use Rattle.reply.specs.declared.Answer.TheVariants.{Accepted}
use Rattle.reply.specs.Reply.{Sent, sent, not_sent, map_sent, Form, reply, map_form, reply_of, offering, told_form, told_by, told_server, told_port, told_reply, cookies_of, table_after, Reads}
use Rattle.reply.proofs.Order.{shows, reading}
use Rattle.reply.proofs.Numbered.{reply_numbered}
use Rattle.cells.specs.Cells.{word, returned, held}
use Rattle.reading.specs.Read.{server_there, server_name, port_there, port_number, reply_given, ReadsReply}
use Rattle.promises.specs.Handed.{bytes_at}
use Rattle.promises.specs.HandedReply.{Shown, handed_out, in_hand}
use Rattle.promises.specs.Numbers.{Table}
use Rattle.promises.specs.Cells.{reply_in_hand}
use Rattle.promises.proofs.HandingReply.{in_hand_lem}
use Rattle.promises.specs.Called.{ReadReply, ReadReplyStrict, HostRead, answering_host_reply, reply_host, reply_host_strict, reply_read, reply_read_strict}
use Rattle.promises.proofs.Steady.{Faithful}
use Rattle.promises.proofs.Hosted.{Hosted, granted}
use Rattle.promises.proofs.HostedRequest.{flag_back, table_barred}

-- ---- the reply that an accepted message tells

abbrev server_of : Sent Sighting → Server
server_of not_sent = server.NotSent
server_of (sent x) = server.Sent (part_of x)

abbrev port_of : List ℕ → Sent Sighting → Port
port_of m not_sent = port.NotSent
port_of m (sent x) = port.Sent (number_at (body_in m x) 0)

abbrev response_of : List ℕ → Form Sighting → KeyExchangeResponse
response_of m (reply p a s t k c) = record {
  protocol = record { 0 = number_at (body_in m p) 0 };
  algorithm = record { 0 = number_at (body_in m a) 0 };
  server = server_of s;
  port = port_of m t;
  keep_alive = k;
  cookies = length c;
}

told_of : (m : List ℕ) (q : Form Sighting) → told_reply (response_of m q) ≡ told_form m q
told_of m (reply p a not_sent not_sent k c) = refl
told_of m (reply p a not_sent (sent t) k c) = refl
told_of m (reply p a (sent s) not_sent k c) = refl
told_of m (reply p a (sent s) (sent t) k c) = refl

-- ---- its cells

module _ (m : List ℕ) where
  server_back : (s : Sent Part) → cond (eqb (server_there s) 1) (sent (part_at m (server_name s).start (server_name s).len)) not_sent ≡ map_sent (bytes_at m) s
  server_back not_sent = refl
  server_back (sent p) = refl

  port_back : (t : Sent ℕ) → cond (eqb (port_there t) 1) (sent (port_number t)) not_sent ≡ t
  port_back not_sent = refl
  port_back (sent n) = refl

  -- they are read back
  cells_back : (table lent : List ℕ) (x : KeyExchangeResponse) → reply_in_hand m table (held (reply_given (told_reply x)) lent) ≡ handed_out m table x
  cells_back table lent x = rw (server_back (told_server x.server), port_back (told_port x.port), flag_back x.keep_alive)

-- ---- a call in a profile

module _ {P : Profile} {m : List ℕ} {n : ℕ} {o : List ℕ × List ℕ} {table lent : List ℕ} {r : ℕ} {table' after : List ℕ} (c : ReadsReply P m n o.0 o.1 table lent r table' after) where
  pub reply_grants : (q : Form Sighting) → reply_of P m n (offering o.0 o.1 (room_of table)) ≡ accepted q → (r ≡ 0) × (reply_in_hand m table' after ≡ in_hand (map_form (body_in m) q))
  reply_grants q w =
      let x = response_of m q in
      let e : told_by m (reply_of P m n (offering o.0 o.1 (room_of table))) ≡ told_reply x = ap (told_by m) w ∙ sym (told_of m q) in
      let reads : Reads P m n o.0 o.1 table (Accepted x) table' = record { says = sym e; left = c.left } in (
        c.gives.says ∙ ap (λ (t : _). returned (reply_given t)) e,
        ap (reply_in_hand m table') (c.gives.left ∙ ap (λ (t : _). held (reply_given t) lent) e) ∙ cells_back m table' lent x
            ∙ in_hand_lem P m n o.0 o.1 table (Accepted x) table' reads x q refl w,
      )

  pub reply_refuses : (y : Refused) → reply_of P m n (offering o.0 o.1 (room_of table)) ≡ refused y → (r ≡ word y) × (table' ≡ table) × (after ≡ lent)
  unfolding table_after
  reply_refuses y w = (
    c.gives.says ∙ ap (λ (z : judge.Answer Form). returned (reply_given (told_by m z))) w,
    c.left ∙ ap (λ (z : judge.Answer Form). over (cells (cookies_of z)) table) w ∙ over_none table,
    c.gives.left ∙ ap (λ (z : judge.Answer Form). held (reply_given (told_by m z)) lent) w,
  )

-- what else is lent is the two lists that were offered
abbrev pub hosted_reply : Profile → Hosted Form Shown (List ℕ × List ℕ)
hosted_reply P = record {
  reading = λ m n o room. reply_of P m n (offering o.0 o.1 room);
  shows = shows;
  Reads = λ m n o t l r u a. ReadsReply P m n o.0 o.1 t l r u a;
  hand = reply_in_hand;
  in_hand = in_hand;
  grants = reply_grants;
  refuses = reply_refuses;
  numbered = λ m n o room. reply_numbered Table (omega arith) P (table_barred P) m n (offering o.0 o.1 room);
}

-- so calls that each meet the reader's contract answer as the definition does
pub reads_hosted : (C : Type 1) (P : Profile) (of : C → HostRead)
    → ((c : C) → ReadsReply P (of c).message (of c).limit (of c).protocols (of c).algorithms (of c).table (of c).lent (of c).answer (of c).filled (of c).after)
    → Faithful reading shows (answering_host_reply C P of) in_hand
reads_hosted C P of met = record {
  accepted_by = λ c s h.
      let q = granted (hosted_reply P) (met c) h.0 in
      (q.0, q.1, sym (reply_grants (met c) q.0 q.1).1 ∙ h.1);
  accepts = λ c q w. reply_grants (met c) q w;
  refuses = λ c y w. reply_refuses (met c) y w;
}

pub reply_hosted : Faithful reading shows reply_read in_hand
reply_hosted = reads_hosted ReadReply Usual reply_host (λ c. c.met)

pub reply_hosted_strict : Faithful reading shows reply_read_strict in_hand
reply_hosted_strict = reads_hosted ReadReplyStrict Strict reply_host_strict (λ c. c.met)
