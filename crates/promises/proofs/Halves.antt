-- Messages as they are written, read by the readers of the other side in the usual profile: a written request, and a written reply whose protocol and algorithm were offered, is accepted, and shows what was written, and another reply is 17 with just the number that was not; the
-- replies that agree on nothing, and an error, are refused with their own numbers. Nothing is asked of the length of a body or the size of a
-- number: the writers refuse a body of more than 65,535 bytes, and numbers have sixteen bits.
-- Assumes nothing.
use mathlib.Core.Path.{◌≡◌, refl, sym, ap, ◌∙◌}
use mathlib.Core.Bool.{Bool, true, false, cond, ◌||◌}
use mathlib.Core.List.{List, [], ◌∷◌, ◌++◌, map, append_assoc, append-nil}
use Prim.Native.Nat.{ℕ, ◌%◌, ◌≤◌}
use native.Mathlib.Omega.{arith}
use borrow.Author.Tests.{le-ltb, ne_eqb, eqb-true}
use lib.Dec.{eqb}
use lib.ListN.{length, length-append}
use Rattle.wire.specs.Bytes.{number_at}
use Rattle.wire.specs.Over.{bytes_of}
use Rattle.wire.proofs.Bytes.{number_back}
use Rattle.utf8.specs.Utf8.{well_formed}
use Rattle.utf8.proofs.Tests.{and_left, and_right}
use Rattle.nts.specs.Refusal.{Beside, nothing, code, protocol, algorithm}
use Rattle.layout.specs.Table.{row_of, shape_of}
use Rattle.layout.specs.Profile.{asks_of, is_final, shape_in, knows, allows}
use Rattle.layout.specs.declared.Profile.TheVariants.{Usual}
use Rattle.layout.specs.Write.{header}
use Rattle.layout.specs.declared.Shape.TheVariants.{Skipped, Numbers, Number, Bytes, Name}
use Rattle.walk.specs.Walk.{ends, refuses, Reader, Sighting}
use Rattle.walk.specs.Judge.{no, yes, Terms, room_for, Under, Judge, some, body_in, refused, accepted, read_as}
use Rattle.walk.specs.Message.{Each, flat, Shows}
use Rattle.walk.specs.Table.{act_by}
use Rattle.walk.proofs.Laws.{Lawful, Silent, read_refused}
use Rattle.walk.proofs.Written.{each_all, Noted, Notes, noted_map, noted_append, noted_shows, noted_refused}
use Rattle.plan.specs.declared.Plan.{Plan}
use Rattle.plan.specs.declared.Port.{Port}
use Rattle.plan.specs.declared.Port.TheVariants as port
use Rattle.plan.specs.declared.NameLength.{NameLength}
use Rattle.plan.specs.declared.NameLength.TheVariants as name
use Rattle.reply.specs.Reply as reply
use Rattle.reply.specs.Reply.{Sent, not_sent, sent, first_sent, reply_of}
use Rattle.reply.proofs.Lawful.{reply_lawful}
use Rattle.request.specs.Request as request
use Rattle.request.proofs.Lawful.{request_lawful}
use Rattle.messages.specs.Messages.{record_of, record_with, cell_bytes, if_asked, end_record, message_of, server_record, port_record, reply_records, no_protocol_records, no_algorithm_records, error_records, request_records, all_utf8}
use Rattle.messages.proofs.Cleared.{length_cells}
use Rattle.messages.proofs.Records.{whole_written, faultless_written, act_written, notes_written, one_noted, last_written}

-- ---- kinds of which a second record is refused

among : (X : ℕ → Type 0) (k j : ℕ) (r : Bool) → (r || eqb k j) ≡ true → X j → (r ≡ true → X k) → X k
among X k j true h x y = y refl
among X k j false h x y = rw (eqb-true k j h) x

reply_kinds : (X : ℕ → Type 0) (k : ℕ) → reply.once k ≡ true → X 1 → X 4 → X 6 → X 7 → X k
unfolding reply.once
reply_kinds X k o p a s t =
    among X k 7 (eqb k 1 || eqb k 4 || eqb k 6) o t
    (λ o₁. among X k 6 (eqb k 1 || eqb k 4) o₁ s
    (λ o₂. among X k 4 (eqb k 1) o₂ a
    (λ o₃. rw (eqb-true k 1 o₃) p)))

-- ---- a message of noted records, and a tail

module _ (R : Reader) (D : Judge) (L : Lawful R D) (u : Under) (cs : List (List ℕ)) (t : List ℕ) (l : ℕ → List (List ℕ)) (h : Noted R cs l)
    (once : (k : ℕ) → R.once k ≡ true → length (l k) ≤ 1) (shape : R.shape 0 ≡ Skipped) (end : R.act 0 true [] ≡ ends)
    (fits : length (message_of cs) ≤ u.limit) (tail : R.final ≡ false) where
  silent : Silent R D L u cs end_record t
  silent = rw tail

  message_shows : (x : D.Q (List ℕ)) → D.decide u (λ (b : List ℕ). b) l ≡ yes x → Shows R D (message_of cs ++ t) u x
  message_shows x y =
      rw append_assoc
      (noted_shows R D L u cs end_record t l h once (last_written R shape end) (omega (arith, length-append (flat cs) end_record)) silent x y)

  message_refused : (k : ℕ) (b : Beside) → D.decide u (λ (b : List ℕ). b) l ≡ no k b
      → read_as R D (message_of cs ++ t) u ≡ refused (record { number = k; beside = b; place = length (flat cs) })
  message_refused k b y =
      rw append_assoc
      (noted_refused R D L u cs end_record t l h once (last_written R shape end) (omega (arith, length-append (flat cs) end_record)) silent k b y)

-- a number, from its two bytes
pub number_of_lem : (n : ℕ) → number_at (bytes_of n) 0 ≡ n
number_of_lem n = ap (λ (b : List ℕ). number_at b 0) (sym (append-nil (bytes_of n))) ∙ number_back n []

-- ---- a reply

-- the name and the port as they are to be shown, if planned; a planned name may be empty
abbrev pub server_sent : NameLength → List ℕ → Sent (List ℕ)
server_sent name.None s = not_sent
server_sent (name.Bytes n) s = sent s

abbrev pub port_sent : Port → Sent (List ℕ)
port_sent port.None = not_sent
port_sent (port.Number n) = sent (bytes_of n)

-- as bodies
abbrev body_sent : Sent (List ℕ) → List (List ℕ)
body_sent not_sent = []
body_sent (sent b) = b ∷ []

first_body : (x : Sent (List ℕ)) → first_sent (body_sent x ++ []) ≡ x
first_body not_sent = refl
first_body (sent b) = refl

one_body : (x : Sent (List ℕ)) → length (body_sent x ++ []) ≤ 1
one_body not_sent = omega arith
one_body (sent b) = omega arith

abbrev kept_bodies : Bool → List (List ℕ)
kept_bodies k = cond k ([] ∷ []) []

some_kept : (k : Bool) → some (kept_bodies k ++ []) ≡ k
some_kept true = refl
some_kept false = refl

module _ (x : Plan) (s : List ℕ) (utf8 : well_formed s ≡ true) (l : List (List ℕ)) where
  server_noted : (y : NameLength) → Noted (reply.reader Usual) (server_record y s) (λ k. cond (eqb 6 k) (body_sent (server_sent y s)) [])
  unfolding shape_of act_by asks_of is_final shape_in knows allows row_of reply.act
  server_noted name.None = noted_map (reply.reader Usual) 6 (record_with 6) [] tt
  server_noted (name.Bytes n) = one_noted 6 s (omega arith) (reply.reader Usual) Name refl utf8 refl

  port_noted : (y : Port) → Noted (reply.reader Usual) (port_record y) (λ k. cond (eqb 7 k) (body_sent (port_sent y)) [])
  unfolding shape_of bytes_of act_by asks_of is_final shape_in knows allows row_of reply.act
  port_noted port.None = noted_map (reply.reader Usual) 7 (record_with 7) [] tt
  port_noted (port.Number n) = one_noted 7 (bytes_of n) (omega arith) (reply.reader Usual) Number refl refl refl

  kept_noted : (y : Bool) → Noted (reply.reader Usual) (if_asked y (record_with 8 [])) (λ k. cond (eqb 8 k) (kept_bodies y) [])
  unfolding shape_of act_by asks_of is_final shape_in knows allows row_of reply.act
  kept_noted true = one_noted 8 [] (omega arith) (reply.reader Usual) Skipped refl tt refl
  kept_noted false = noted_map (reply.reader Usual) 8 (record_with 8) [] tt

  cookies_noted : Noted (reply.reader Usual) (map (record_with 5) l) (λ k. cond (eqb 5 k) l [])
  unfolding shape_of act_by asks_of is_final shape_in knows allows row_of reply.act
  cookies_noted =
      noted_map (reply.reader Usual) 5 (record_with 5) l (each_all (λ b. notes_written 5 b (omega arith) (reply.reader Usual) Bytes refl tt refl) l)

  abbrev reply_bodies : ℕ → List (List ℕ)
  reply_bodies k =
      cond (eqb 1 k) (bytes_of x.protocol.0 ∷ []) []
      ++ (cond (eqb 4 k) (bytes_of x.algorithm.0 ∷ []) []
      ++ (cond (eqb 6 k) (body_sent (server_sent x.name s)) []
      ++ (cond (eqb 7 k) (body_sent (port_sent x.port)) []
      ++ (cond (eqb 8 k) (kept_bodies x.keep_alive) []
      ++ cond (eqb 5 k) l []))))

  reply_noted : Noted (reply.reader Usual) (reply_records x s l) reply_bodies
  unfolding shape_of bytes_of act_by asks_of is_final shape_in knows allows row_of reply.act
  reply_noted =
      noted_append (reply.reader Usual) (one_noted 1 (bytes_of x.protocol.0) (omega arith) (reply.reader Usual) Numbers refl refl refl)
      (noted_append (reply.reader Usual) (one_noted 4 (bytes_of x.algorithm.0) (omega arith) (reply.reader Usual) Numbers refl refl refl)
      (noted_append (reply.reader Usual) (server_noted x.name)
      (noted_append (reply.reader Usual) (port_noted x.port) (noted_append (reply.reader Usual) (kept_noted x.keep_alive) cookies_noted))))

  reply_once : (k : ℕ) → reply.once k ≡ true → length (reply_bodies k) ≤ 1
  reply_once k o =
      reply_kinds (λ j. length (reply_bodies j) ≤ 1) k o (omega arith) (omega arith) (one_body (server_sent x.name s))
      (one_body (port_sent x.port))

  reply_decided : (y : Terms) → 1 ≤ length l → length l ≤ y.room → y.protocols x.protocol.0 ≡ true → y.algorithms x.algorithm.0 ≡ true
      → reply.decide y (λ (b : List ℕ). b) reply_bodies
      ≡ yes (reply.reply (bytes_of x.protocol.0) (bytes_of x.algorithm.0) (server_sent x.name s) (port_sent x.port) x.keep_alive l)
  unfolding reply.decide bytes_of
  reply_decided y h g op oa =
      let p = ap y.protocols (number_of_lem x.protocol.0) ∙ op in
      let a = ap y.algorithms (number_of_lem x.algorithm.0) ∙ oa in
      rw (p, a, ne_eqb (length l) 0 (λ e. omega arith), le-ltb y.room (length l) g, first_body (server_sent x.name s), first_body (port_sent x.port), some_kept x.keep_alive)

  -- a key-exchange reply as it is written, whatever follows it and under every limit that holds it, is accepted by the reply reader, if its protocol and
  -- its algorithm were offered, it has a cookie and the table room for all of them: and the reader shows the plan's protocol and algorithm, the server's name if one is
  -- planned, the port if one is planned, keep-alive as planned, and the cookies in their order
  pub reply_read : (t : List ℕ) (n : ℕ) (y : Terms) → 1 ≤ length l → length l ≤ y.room → y.protocols x.protocol.0 ≡ true → y.algorithms x.algorithm.0 ≡ true
      → length (message_of (reply_records x s l)) ≤ n
      → (q : reply.Form Sighting)
      × (reply_of Usual (message_of (reply_records x s l) ++ t) n y ≡ accepted q)
      × (reply.map_form (body_in (message_of (reply_records x s l) ++ t)) q
      ≡ reply.reply (bytes_of x.protocol.0) (bytes_of x.algorithm.0) (server_sent x.name s) (port_sent x.port) x.keep_alive l)
  unfolding reply_of shape_of act_by asks_of is_final shape_in knows allows row_of reply.act
  reply_read t n y h g op oa f =
      message_shows (reply.reader Usual) reply.judging (reply_lawful Usual) (record { profile = Usual; limit = n; terms = y }) (reply_records x s l) t reply_bodies reply_noted reply_once refl refl f refl _
      (reply_decided y h g op oa)

  -- where the protocol was not offered, or it was and the algorithm was not, it is refusal 17 with just that number, at the end record's place
  unfoldable pub unoffered : Terms → Beside → Type 0
  unoffered y b = reply.decide y (λ (c : List ℕ). c) reply_bodies ≡ no 17 b

  pub protocol_unoffered : (y : Terms) → y.protocols x.protocol.0 ≡ false → unoffered y (protocol x.protocol.0)
  unfolding unoffered reply.decide bytes_of
  protocol_unoffered y op =
      let e = number_of_lem x.protocol.0 in
      let p = ap y.protocols e ∙ op in
      rw p (ap (λ (n : ℕ). no 17 (protocol n)) e)

  pub algorithm_unoffered : (y : Terms) → y.protocols x.protocol.0 ≡ true → y.algorithms x.algorithm.0 ≡ false → unoffered y (algorithm x.algorithm.0)
  unfolding unoffered reply.decide bytes_of
  algorithm_unoffered y op oa =
      let e = number_of_lem x.algorithm.0 in
      let p = ap y.protocols (number_of_lem x.protocol.0) ∙ op in
      let a = ap y.algorithms e ∙ oa in
      rw (p, a) (ap (λ (n : ℕ). no 17 (algorithm n)) e)

  pub reply_unoffered : (t : List ℕ) (n : ℕ) (y : Terms) (b : Beside) → unoffered y b → length (message_of (reply_records x s l)) ≤ n
      → reply_of Usual (message_of (reply_records x s l) ++ t) n y ≡ refused (record { number = 17; beside = b; place = length (flat (reply_records x s l)) })
  unfolding reply_of unoffered shape_of act_by asks_of is_final shape_in knows allows row_of reply.act
  reply_unoffered t n y b e f =
      message_refused (reply.reader Usual) reply.judging (reply_lawful Usual) (record { profile = Usual; limit = n; terms = y }) (reply_records x s l) t reply_bodies reply_noted reply_once refl refl f refl 17 b e

-- ---- a request

cells_even : (l : List ℕ) → length (cell_bytes l) % 2 ≡ 0
cells_even l = omega (arith, length_cells l)

each_name : (l : List (List ℕ)) → all_utf8 l ≡ true → Each (λ b. Notes (request.reader Usual) 13 b (record_with 13 b)) l
unfolding shape_of act_by asks_of is_final shape_in knows allows row_of request.act
each_name [] h = tt
each_name (b ∷ l) h = (
  notes_written 13 b (omega arith) (request.reader Usual) Name refl (and_left (well_formed b) (all_utf8 l) h) refl,
  each_name l (and_right (well_formed b) (all_utf8 l) h),
)

module _ (protocols algorithms : List ℕ) (names : List (List ℕ)) (utf8 : all_utf8 names ≡ true) where
  abbrev request_bodies : ℕ → List (List ℕ)
  request_bodies k =
      cond (eqb 1 k) (cell_bytes protocols ∷ []) [] ++ (cond (eqb 4 k) (cell_bytes algorithms ∷ []) [] ++ cond (eqb 13 k) names [])

  request_noted : Noted (request.reader Usual) (request_records protocols algorithms names) request_bodies
  unfolding shape_of act_by asks_of is_final shape_in knows allows row_of request.act
  request_noted =
      noted_append (request.reader Usual) (one_noted 1 (cell_bytes protocols) (omega arith) (request.reader Usual) Numbers refl (cells_even protocols) refl)
      (noted_append (request.reader Usual)
      (one_noted 4 (cell_bytes algorithms) (omega arith) (request.reader Usual) Numbers refl (cells_even algorithms) refl)
      (noted_map (request.reader Usual) 13 (record_with 13) names (each_name names utf8)))

  request_once : (k : ℕ) → request.once k ≡ true → length (request_bodies k) ≤ 1
  unfolding request.once
  request_once k o =
      let X : ℕ → Type 0 = λ j. length (request_bodies j) ≤ 1 in
      among X k 14 (eqb k 1 || eqb k 4 || eqb k 9 || eqb k 10 || eqb k 12) o (omega arith)
      (λ p. among X k 12 (eqb k 1 || eqb k 4 || eqb k 9 || eqb k 10) p (omega arith)
      (λ q. among X k 10 (eqb k 1 || eqb k 4 || eqb k 9) q (omega arith)
      (λ r. among X k 9 (eqb k 1 || eqb k 4) r (omega arith)
      (λ s. among X k 4 (eqb k 1) s (omega arith) (λ t. rw (eqb-true k 1 t) (omega arith))))))

  request_decided : (room : ℕ) → length names ≤ room
      → request.decide room (λ (b : List ℕ). b) request_bodies ≡ yes (request.key_exchange (cell_bytes protocols) (cell_bytes algorithms) names)
  unfolding request.decide
  request_decided room g = rw (le-ltb room (length names) g)

  -- a key-exchange request as it is written, whatever follows it and under every limit that holds it, is accepted by the request reader as a
  -- key-exchange request, if its names are UTF-8 and the table has room for all of them: and the reader shows the protocols, the algorithms
  -- and the denied names, each in their order
  pub request_read : (t : List ℕ) (n room : ℕ) → length names ≤ room → length (message_of (request_records protocols algorithms names)) ≤ n
      → (q : request.Form Sighting)
      × (request.request Usual (message_of (request_records protocols algorithms names) ++ t) n room ≡ accepted q)
      × (request.map_form (body_in (message_of (request_records protocols algorithms names) ++ t)) q
      ≡ request.key_exchange (cell_bytes protocols) (cell_bytes algorithms) names)
  unfolding request.request shape_of act_by asks_of is_final shape_in knows allows row_of
  request_read t n room g f =
      message_shows (request.reader Usual) request.judging (request_lawful Usual) (record { profile = Usual; limit = n; terms = room_for room }) (request_records protocols algorithms names) t request_bodies
      request_noted request_once refl refl f refl _ (request_decided room g)

-- ---- the other replies

module _ (t : List ℕ) (n : ℕ) (y : Terms) where
  abbrev asked : Under
  asked = record { profile = Usual; limit = n; terms = y }

  -- the reply that no protocol is agreed on is refusal 13, at its end record's place
  pub no_protocol_read : length (message_of no_protocol_records) ≤ n
      → reply_of Usual (message_of no_protocol_records ++ t) n y ≡ refused (record { number = 13; beside = nothing; place = 4 })
  unfolding reply_of record_of header bytes_of shape_of act_by asks_of is_final shape_in knows allows row_of reply.act reply.decide
  no_protocol_read f =
      let l : ℕ → List (List ℕ) = λ k. cond (eqb 1 k) ([] ∷ []) [] in
      message_refused (reply.reader Usual) reply.judging (reply_lawful Usual) asked no_protocol_records t l
      (one_noted 1 [] (omega arith) (reply.reader Usual) Numbers refl refl refl)
      (λ k o. reply_kinds (λ j. length (l j) ≤ 1) k o (omega arith) (omega arith) (omega arith) (omega arith))
      refl refl f refl 13 nothing refl

  -- the reply that no algorithm is agreed on, with whatever protocol, is refusal 14, at its end record's place
  pub no_algorithm_read : (p : ℕ) → length (message_of (no_algorithm_records p)) ≤ n
      → reply_of Usual (message_of (no_algorithm_records p) ++ t) n y ≡ refused (record { number = 14; beside = nothing; place = 10 })
  unfolding reply_of record_of header bytes_of shape_of act_by asks_of is_final shape_in knows allows row_of reply.act reply.decide
  no_algorithm_read p f =
      let l : ℕ → List (List ℕ) = λ k. cond (eqb 1 k) (bytes_of p ∷ []) [] ++ cond (eqb 4 k) ([] ∷ []) [] in
      message_refused (reply.reader Usual) reply.judging (reply_lawful Usual) asked (no_algorithm_records p) t l
      (noted_append (reply.reader Usual) (one_noted 1 (bytes_of p) (omega arith) (reply.reader Usual) Numbers refl refl refl)
      (one_noted 4 [] (omega arith) (reply.reader Usual) Numbers refl refl refl))
      (λ k o. reply_kinds (λ j. length (l j) ≤ 1) k o (omega arith) (omega arith) (omega arith) (omega arith))
      refl refl f refl 14 nothing refl

  -- an error reply is refusal 11 with its code, at the error record, which is the first
  pub error_read : (c : ℕ) → length (message_of (error_records c)) ≤ n
      → reply_of Usual (message_of (error_records c) ++ t) n y ≡ refused (record { number = 11; beside = code c; place = 0 })
  unfolding reply_of shape_of bytes_of act_by asks_of is_final shape_in knows allows row_of reply.act
  error_read c f =
      let u = record_with 2 (bytes_of c) in
      let a = act_written 2 (bytes_of c) (omega arith) (reply.reader Usual) ∙ ap (λ (k : ℕ). refuses 11 (code k)) (number_back c []) in
      rw (append-nil, append_assoc)
      (read_refused (reply.reader Usual) reply.judging asked [] u (end_record ++ t) 11 (code c) tt tt (whole_written 2 (bytes_of c))
      (faultless_written 2 (bytes_of c) (omega arith) (reply.reader Usual) Number refl refl) a (omega (arith, length-append (u ++ []) end_record, length-append u [])))
