-- "So the two halves of this library can't disagree": a call of a writer of messages that wrote, and a call of a reader in the usual profile on the bytes that it
-- wrote: whatever follows them, and under every limit that holds them, the reader accepts a written request, and a written reply whose protocol and algorithm were offered, and hands out what was
-- written, and refuses a reply that names what was not offered with 17 and just that number, and the other replies with their own numbers. The theorems over the definitions: proofs/Halves.antt.
-- Assumes nothing.
use mathlib.Core.Path.{◌≡◌, refl, sym, ap, subst, ◌∙◌}
use mathlib.Core.List.{List, ◌++◌}
use mathlib.Core.Bool.{true, false}
use Prim.Native.Nat.{ℕ, ◌-◌, ◌≤◌}
use native.Mathlib.Omega.{arith}
use lib.ListN.{length, take, length-append}
use Rattle.wire.specs.Bytes.{number_at}
use Rattle.wire.specs.Over.{bytes_of}
use Rattle.nts.specs.Refusal.{Beside, nothing, code, protocol, algorithm, Refused}
use Rattle.nts.specs.declared.NextProtocol.{NextProtocol}
use Rattle.nts.specs.declared.ErrorCode.{ErrorCode}
use Rattle.layout.specs.Write.{header, bytes, fitted, Wrote}
use Rattle.layout.specs.declared.Profile.TheVariants.{Usual}
use Rattle.layout.specs.declared.ByteCount.{ByteCount}
use Rattle.layout.specs.declared.ByteCount.TheVariants.{Bytes}
use Rattle.walk.specs.Walk.{Sighting}
use Rattle.walk.specs.Judge.{Terms, Under, Answer, refused}
use Rattle.walk.specs.Message.{flat}
use Rattle.walk.proofs.Demand3.{Showing}
use Rattle.plan.specs.Tray.{cookies_in, names_in}
use Rattle.plan.specs.Plan.{reply_length}
use Rattle.plan.specs.declared.Plan.{Plan}
use Rattle.plan.specs.declared.Port.{Port}
use Rattle.plan.specs.declared.Port.TheVariants as port
use Rattle.request.specs.Request as request
use Rattle.reply.specs.Reply as reply
use Rattle.reply.specs.Reply.{Sent, not_sent, sent, map_sent, reply_of}
use Rattle.messages.specs.Messages.{record_of, cell_bytes, all_utf8, end_record, message_of, bodies_of, reply_records, reply_checked, no_protocol_records, no_algorithm_records, error_records, request_records, request_length, request_checked}
use Rattle.messages.proofs.Cleared.{reply_cleared, request_cleared, length_reply, length_request, length_no_protocol, length_no_algorithm, length_error, Stands, wrote_written}
use Rattle.outgoing.proofs.write_reply.Reads as write_reply
use Rattle.declining.proofs.write_no_protocol.Reads as write_no_protocol
use Rattle.declining.proofs.write_no_algorithm.Reads as write_no_algorithm
use Rattle.declining.proofs.write_error.Reads as write_error
use Rattle.outgoing.proofs.write_request.Reads as write_request
use Rattle.promises.specs.Handed as request_hand
use Rattle.promises.specs.HandedReply as reply_hand
use Rattle.promises.specs.Demand3.{Reader}
use Rattle.promises.specs.Called.{ParseRequest, ParseReply, request_parse, reply_parse}
use Rattle.promises.proofs.Steady.{Faithful}
use Rattle.promises.proofs.Handing.{request_faithful}
use Rattle.promises.proofs.HandingReply.{reply_faithful}
use Rattle.promises.proofs.Halves.{number_of_lem, server_sent, port_sent, reply_read, unoffered, protocol_unoffered, algorithm_unoffered, reply_unoffered, request_read, no_protocol_read, no_algorithm_read, error_read}

-- ---- calls of the writers: what each function's own contract says

-- a call of outgoing::write_reply with a plan, its tray and the server's name, lent an output, with its answer and the output afterwards
pub record WroteReply (x : Plan) (tray server out : List ℕ) (r : ByteCount) (after : List ℕ) : Type 1 where
  pub κs : _
  pub a : _
  pub e : _
  pub met : write_reply.Learnt κs a r e
  pub of_plan : a.0 ≡ x
  pub of_tray : a.1.0.now ≡ tray
  pub of_server : a.1.1.0.now ≡ server
  pub of_out : a.1.1.1.0.now ≡ out
  pub of_exit : e.1.1.1.0.now ≡ after

-- a call of outgoing::write_request with protocols, algorithms, and a tray of denied names with its used length
pub record WroteRequest (protocols algorithms tray : List ℕ) (used : ℕ) (out : List ℕ) (r : ByteCount) (after : List ℕ) : Type 1 where
  pub κs : _
  pub a : _
  pub e : _
  pub met : write_request.Learnt κs a r e
  pub of_protocols : a.0.now ≡ protocols
  pub of_algorithms : a.1.0.now ≡ algorithms
  pub of_tray : a.1.1.0.now ≡ tray
  pub of_used : a.1.1.1.0 ≡ used
  pub of_out : a.1.1.1.1.0.now ≡ out
  pub of_exit : e.1.1.1.1.0.now ≡ after

-- a call of declining::write_no_protocol
pub record WroteNoProtocol (out : List ℕ) (r : ByteCount) (after : List ℕ) : Type 1 where
  pub κs : _
  pub a : _
  pub e : _
  pub met : write_no_protocol.Learnt κs a r e
  pub of_out : a.0.now ≡ out
  pub of_exit : e.0.now ≡ after

-- a call of declining::write_no_algorithm with a protocol
pub record WroteNoAlgorithm (p : NextProtocol) (out : List ℕ) (r : ByteCount) (after : List ℕ) : Type 1 where
  pub κs : _
  pub a : _
  pub e : _
  pub met : write_no_algorithm.Learnt κs a r e
  pub of_protocol : a.0 ≡ p
  pub of_out : a.1.0.now ≡ out
  pub of_exit : e.1.0.now ≡ after

-- a call of declining::write_error with a code
pub record WroteError (c : ErrorCode) (out : List ℕ) (r : ByteCount) (after : List ℕ) : Type 1 where
  pub κs : _
  pub a : _
  pub e : _
  pub met : write_error.Learnt κs a r e
  pub of_code : a.0 ≡ c
  pub of_out : a.1.0.now ≡ out
  pub of_exit : e.1.0.now ≡ after

-- ---- of any reader: a call in the usual profile on the message m that stands at the front of an output, and any tail

abbrev usually : Under → Under
usually u = record { profile = Usual; limit = u.limit; terms = u.terms }

in_usual : (u : Under) → u.profile ≡ Usual → u ≡ usually u
in_usual u p = λ i. record { profile = p i; limit = u.limit; terms = u.terms }

module _ {Q : Type 0 → Type 0} {S : Type 0} {reading : List ℕ → Under → Answer Q} {shows : List ℕ → Q Sighting → Q (List ℕ)} {R : Reader S} {in_hand : Q (List ℕ) → S}
    (F : Faithful reading shows R in_hand) (m after : List ℕ) (k : ℕ) (s : Stands m k after) (t : List ℕ) (c : R.Call) (asked : R.asked c ≡ take k after ++ t) (p : (R.under c).profile ≡ Usual) where
  same : R.asked c ≡ m ++ t
  same = asked ∙ ap (λ (l : List ℕ). l ++ t) s.front

  -- the definition accepts and shows b: so does the call, and b is in hand
  shown_back : (b : Q (List ℕ)) → Showing reading shows (m ++ t) (usually (R.under c)) b → R.Accepts c (in_hand b)
  shown_back b h =
      let w = ap (λ (l : List ℕ). reading l (R.under c)) same ∙ ap (reading (m ++ t)) (in_usual (R.under c) p) ∙ h.1 in
      subst (R.Accepts c) (ap in_hand (ap (λ (l : List ℕ). shows l h.0) same ∙ h.2)) (F.accepts c h.0 w)

  -- the definition refuses: so does the call, and what was lent stays as it was
  refused_back : (y : Refused) → reading (m ++ t) (usually (R.under c)) ≡ refused y → R.Refuses c y
  refused_back y w = F.refuses c y (ap (λ (l : List ℕ). reading l (R.under c)) same ∙ ap (reading (m ++ t)) (in_usual (R.under c) p) ∙ w)

-- ---- a reply

-- the cookies that a plan's tray holds
abbrev pub cookies_of : Plan → List ℕ → List (List ℕ)
cookies_of x tray = bodies_of (cookies_in x.used tray)

-- the port, if planned
abbrev pub port_number : Port → Sent ℕ
port_number port.None = not_sent
port_number (port.Number n) = sent n

-- what is in hand of the bodies that a written reply shows

port_of : (y : Port) → map_sent (λ (b : List ℕ). number_at b 0) (port_sent y) ≡ port_number y
port_of port.None = refl
port_of (port.Number n) = ap sent (number_of_lem n)

reply_in_hand : (x : Plan) (server : List ℕ) (l : List (List ℕ))
    → reply_hand.in_hand (reply.reply (bytes_of x.protocol.0) (bytes_of x.algorithm.0) (server_sent x.name server) (port_sent x.port) x.keep_alive l)
    ≡ reply_hand.reply x.protocol.0 x.algorithm.0 (server_sent x.name server) (port_number x.port) x.keep_alive (length l) l
reply_in_hand x server l = rw (number_of_lem x.protocol.0, number_of_lem x.algorithm.0, port_of x.port)

-- the end record is the last four bytes
at_end : (f : List ℕ) (k : ℕ) → k ≡ length (f ++ end_record) → length f ≡ k - 4
unfolding record_of header bytes_of
at_end f k e = omega (arith, e, length-append f end_record)

module _ (x : Plan) (tray server out : List ℕ) (k : ℕ) (after : List ℕ) (w : WroteReply x tray server out (Bytes k) after) where
  wrote_reply : Wrote (fitted (length out) (reply_checked x server (cookies_in x.used tray))) (message_of (reply_records x server (cookies_of x tray))) out (Bytes k) after
  wrote_reply = rw (← w.of_plan, ← w.of_tray, ← w.of_server, ← w.of_out, ← w.of_exit) w.met

  -- a call of outgoing::write_reply that wrote k bytes left them in the output; and a call of reply::KeyExchangeResponse::parse on them,
  -- whatever follows them, under every limit that is k or more, with a table that has room for the cookies and lists of offers that hold the plan's
  -- protocol and algorithm, accepts, and hands out the plan's
  -- protocol and algorithm, the server's name and the port if they are planned, keep-alive as planned, and the tray's cookies in their order
  pub reply_read_back : (k ≤ length after)
      × ((t : List ℕ) (c : ParseReply) → reply_parse.asked c ≡ take k after ++ t → (reply_parse.under c).profile ≡ Usual → k ≤ (reply_parse.under c).limit → length (cookies_of x tray) ≤ (reply_parse.under c).terms.room
      → (reply_parse.under c).terms.protocols x.protocol.0 ≡ true → (reply_parse.under c).terms.algorithms x.algorithm.0 ≡ true
      → reply_parse.Accepts c
      (reply_hand.reply x.protocol.0 x.algorithm.0 (server_sent x.name server) (port_number x.port) x.keep_alive (length (cookies_of x tray))
      (cookies_of x tray)))
  reply_read_back =
      let f = cookies_in x.used tray in
      let l = cookies_of x tray in
      let m = message_of (reply_records x server l) in
      let v = wrote_written (reply_checked x server f) m out after k wrote_reply in
      let j = reply_cleared x server f k v.judged in
      let e : l ≡ j.bodies = ap bodies_of j.are in
      let some : 1 ≤ length l = rw e j.some in
      let s = v.stands (length_reply x server l j.named ∙ ap (reply_length x) e ∙ sym j.long) in (
        s.inside,
        λ t c a p h g op oa.
            let d = reply_read x server j.utf8 l t (reply_parse.under c).limit (reply_parse.under c).terms some g op oa (omega (arith, s.long)) in
            subst (reply_parse.Accepts c) (reply_in_hand x server l) (shown_back reply_faithful m after k s t c a p _ d),
      )

  -- where the lists do not hold the plan's protocol, or hold it and not its algorithm, the same call refuses with 17 and just that number, at the place of the end record,
  -- which is the last four bytes, and leaves its table as it was
  pub reply_refused_back : (k ≤ length after)
      × ((t : List ℕ) (c : ParseReply) → reply_parse.asked c ≡ take k after ++ t → (reply_parse.under c).profile ≡ Usual → k ≤ (reply_parse.under c).limit
      → ((reply_parse.under c).terms.protocols x.protocol.0 ≡ false
      → reply_parse.Refuses c (record { number = 17; beside = protocol x.protocol.0; place = k - 4 }))
      × ((reply_parse.under c).terms.protocols x.protocol.0 ≡ true → (reply_parse.under c).terms.algorithms x.algorithm.0 ≡ false
      → reply_parse.Refuses c (record { number = 17; beside = algorithm x.algorithm.0; place = k - 4 })))
  reply_refused_back =
      let f = cookies_in x.used tray in
      let l = cookies_of x tray in
      let m = message_of (reply_records x server l) in
      let v = wrote_written (reply_checked x server f) m out after k wrote_reply in
      let j = reply_cleared x server f k v.judged in
      let e : l ≡ j.bodies = ap bodies_of j.are in
      let s = v.stands (length_reply x server l j.named ∙ ap (reply_length x) e ∙ sym j.long) in
      let place : length (flat (reply_records x server l)) ≡ k - 4 = at_end (flat (reply_records x server l)) k s.long in
      let refuses : (t : List ℕ) (c : ParseReply) → reply_parse.asked c ≡ take k after ++ t → (reply_parse.under c).profile ≡ Usual → k ≤ (reply_parse.under c).limit → (b : Beside)
      → unoffered x server j.utf8 l (reply_parse.under c).terms b → reply_parse.Refuses c (record { number = 17; beside = b; place = k - 4 }) =
      λ t c a p h b u. refused_back reply_faithful m after k s t c a p _
      (reply_unoffered x server j.utf8 l t (reply_parse.under c).limit (reply_parse.under c).terms b u (omega (arith, s.long))
      ∙ ap (λ (i : ℕ). refused (record { number = 17; beside = b; place = i })) place) in (
        s.inside,
        λ t c a p h. (
          λ op. refuses t c a p h _ (protocol_unoffered x server j.utf8 l (reply_parse.under c).terms op),
          λ op oa. refuses t c a p h _ (algorithm_unoffered x server j.utf8 l (reply_parse.under c).terms op oa),
        ),
      )

-- ---- a request

-- the denied names that a tray holds
abbrev pub names_of : ℕ → List ℕ → List (List ℕ)
names_of used tray = bodies_of (names_in used tray)

module _ (protocols algorithms tray : List ℕ) (used : ℕ) (out : List ℕ) (k : ℕ) (after : List ℕ) (w : WroteRequest protocols algorithms tray used out (Bytes k) after) where
  wrote_request : Wrote (fitted (length out) (request_checked protocols algorithms (names_in used tray))) (message_of (request_records protocols algorithms (names_of used tray))) out (Bytes k) after
  wrote_request = rw (← w.of_protocols, ← w.of_algorithms, ← w.of_tray, ← w.of_used, ← w.of_out, ← w.of_exit) w.met

  -- a call of outgoing::write_request that wrote k bytes left them in the output; and a call of request::Request::parse on them, whatever
  -- follows them, under every limit that is k or more, with a table that has room for the names, accepts a key-exchange request, and hands out
  -- the protocols, the algorithms and the tray's names, each in their order
  pub request_read_back : (k ≤ length after)
      × ((t : List ℕ) (c : ParseRequest) → request_parse.asked c ≡ take k after ++ t → (request_parse.under c).profile ≡ Usual → k ≤ (request_parse.under c).limit → length (names_of used tray) ≤ (request_parse.under c).terms.room
      → request_parse.Accepts c (request_hand.key_exchange (cell_bytes protocols) (cell_bytes algorithms) (length (names_of used tray)) (names_of used tray)))
  unfolding request.request
  request_read_back =
      let f = names_in used tray in
      let l = names_of used tray in
      let m = message_of (request_records protocols algorithms l) in
      let v = wrote_written (request_checked protocols algorithms f) m out after k wrote_request in
      let j = request_cleared protocols algorithms f k v.judged in
      let e : l ≡ j.bodies = ap bodies_of j.are in
      let utf8 : all_utf8 l ≡ true = ap all_utf8 e ∙ j.utf8 in
      let s = v.stands (length_request protocols algorithms l ∙ ap (request_length protocols algorithms) e ∙ sym j.long) in (
        s.inside,
        λ t c a p h g.
            let d = request_read protocols algorithms l utf8 t (request_parse.under c).limit (request_parse.under c).terms.room g (omega (arith, s.long)) in
            shown_back request_faithful m after k s t c a p _ d,
      )

-- ---- the other replies

same_count : (i k : ℕ) → bytes i ≡ bytes k → i ≡ k
same_count i k e = cc

-- k bytes stand in the output; and a call of reply::KeyExchangeResponse::parse on them, whatever follows them, under every limit that is k or
-- more, with any table and lists of offers, refuses with y, and leaves its table as it was
abbrev pub RefusedBack : ℕ → List ℕ → Refused → Type 1
RefusedBack k after y =
    (k ≤ length after)
    × ((t : List ℕ) (c : ParseReply) → reply_parse.asked c ≡ take k after ++ t → (reply_parse.under c).profile ≡ Usual → k ≤ (reply_parse.under c).limit → reply_parse.Refuses c y)

-- a writer wrote a message of i bytes, which the definition refuses, whatever follows it, under every limit that holds it, with any room and whatever was offered
declined_back : (i : ℕ) (m out after : List ℕ) (k : ℕ) (y : Refused) → Wrote (fitted (length out) (bytes i)) m out (Bytes k) after → length m ≡ i
    → ((t : List ℕ) (n : ℕ) (x : Terms) → length m ≤ n → reply_of Usual (m ++ t) n x ≡ refused y) → RefusedBack k after y
declined_back i m out after k y w l law =
    let v = wrote_written (bytes i) m out after k w in
    let e : i ≡ k = same_count i k v.judged in
    let s = v.stands (l ∙ e) in (
      s.inside,
      λ t c a p h. refused_back reply_faithful m after k s t c a p y (law t (reply_parse.under c).limit (reply_parse.under c).terms (omega (arith, s.long))),
    )

-- what a call of declining::write_no_protocol wrote, the reply reader's call refuses with 13 and nothing beside it, at its end record's place
pub no_protocol_read_back : (out : List ℕ) (k : ℕ) (after : List ℕ) → WroteNoProtocol out (Bytes k) after
    → RefusedBack k after (record { number = 13; beside = nothing; place = 4 })
no_protocol_read_back out k after w =
    declined_back 8 (message_of no_protocol_records) out after k _ (rw (← w.of_out, ← w.of_exit) w.met) length_no_protocol
    (λ t n x h. no_protocol_read t n x h)

-- what a call of declining::write_no_algorithm wrote, with whatever protocol: with 14 and nothing beside it, at its end record's place
pub no_algorithm_read_back : (p : NextProtocol) (out : List ℕ) (k : ℕ) (after : List ℕ) → WroteNoAlgorithm p out (Bytes k) after
    → RefusedBack k after (record { number = 14; beside = nothing; place = 10 })
no_algorithm_read_back p out k after w =
    declined_back 14 (message_of (no_algorithm_records p.0)) out after k _ (rw (← w.of_protocol, ← w.of_out, ← w.of_exit) w.met)
    (length_no_algorithm p.0)
    (λ t n x h. no_algorithm_read t n x p.0 h)

-- what a call of declining::write_error wrote: with 11 and beside it the code, at the error record, which is the first
pub error_read_back : (c : ErrorCode) (out : List ℕ) (k : ℕ) (after : List ℕ) → WroteError c out (Bytes k) after
    → RefusedBack k after (record { number = 11; beside = code c.0; place = 0 })
error_read_back c out k after w =
    declined_back 10 (message_of (error_records c.0)) out after k _ (rw (← w.of_code, ← w.of_out, ← w.of_exit) w.met)
    (length_error c.0)
    (λ t n x h. error_read t n x c.0 h)
