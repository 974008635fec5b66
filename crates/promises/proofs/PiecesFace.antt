-- 02, order 1, in every profile (order 5), for the calls that a host links: a read that is fed in pieces answers alike however its bytes are cut, and demand 3 holds for the joined bytes. The statements are
-- specs/Pieces.antt and specs/FedCells.antt, over the functions' own contracts, for calls of both functions on one line.
-- Assumes nothing.
use mathlib.Core.Path.{◌≡◌, refl, sym, ap, subst, ◌∙◌}
use mathlib.Core.List.{List, [], ◌∷◌}
use mathlib.Core.Bool.{Bool, true, false, cond, true≢false}
use Prim.Native.Nat.{ℕ, ◌≤◌, ◌<◌}
use native.Mathlib.Omega.{arith}
use lib.ListN.{length}
use lib.Dec.{eqb}
use borrow.Author.Tests.{ne_eqb}
use Rattle.utf8.proofs.Tests as test
use Rattle.wire.specs.Bytes.{number_at}
use Rattle.wire.proofs.Bytes.{Small}
use Rattle.nts.specs.Refusal.{nothing, Refused}
use Rattle.layout.specs.Profile.{shape_in}
use Rattle.layout.specs.declared.Profile.{Profile}
use Rattle.layout.specs.declared.Profile.TheVariants.{Usual, Strict}
use Rattle.walk.specs.Walk.{Sighting}
use Rattle.walk.specs.Shown.{slot_of}
use Rattle.walk.proofs.Looking.{slot_below}
use Rattle.walk.specs.Judge as judge
use Rattle.walk.specs.Judge.{Terms, Under, body_in, part_of, read_by}
use Rattle.walk.specs.Message.{contents}
use Rattle.request.specs.Request as requests
use Rattle.request.specs.declared.Request.TheVariants.{KeyExchange, FixedKey, Support}
use Rattle.request.proofs.Numbered.{request_numbered}
use Rattle.request.proofs.Order as request_order
use Rattle.reply.specs.Reply as replies
use Rattle.reply.specs.declared.KeyExchangeResponse.{KeyExchangeResponse}
use Rattle.reply.specs.declared.Server.{Server}
use Rattle.reply.specs.declared.Server.TheVariants as server
use Rattle.reply.specs.declared.Port.{Port}
use Rattle.reply.specs.declared.Port.TheVariants as port
use Rattle.reply.proofs.Numbered.{reply_numbered}
use Rattle.reply.proofs.Order as reply_order
use Rattle.cells.specs.Cells as given
use Rattle.cells.specs.Cells.{Given, returned, word, unplaced, cell}
use Rattle.cells.proofs.Lent.{word_some}
use Rattle.reading.specs.Read.{request_given, reply_given}
use Rattle.pieces.specs.Pieces.{Line, started, Brought, Read, Fed, none, answers, answer_of, is_pending, line_after, buffer_after, table_after, Says, says, says_of, held}
use Rattle.pieces.specs.Reads.{request_read, reply_read}
use Rattle.feeding.specs.Fed.{line_cells, is_connection, line_in, fed_word, fed_cells, says_in, Feeds}
use Rattle.feeding.proofs.ntske_connection_new.Reads as connection_new
use Rattle.feeding.proofs.ntske_connection_new_strict.Reads as connection_new_strict
use Rattle.feeding.proofs.Answering.{Eighteenth, barred_eighteenth, Host, host_request, host_reply, word_waits, line_unmoved, buffer_unmoved, table_unmoved}
use Rattle.promises.specs.Handed as hand
use Rattle.promises.specs.HandedReply as hand_reply
use Rattle.promises.specs.Cells.{request_in_hand, reply_in_hand}
use Rattle.promises.specs.Demand3.{Demand3}
use Rattle.promises.specs.Pieces.{Feeder, made_by, OnLine, joined_reader}
use Rattle.promises.specs.FedCells.{HostCall, unheld, connection_in, said_in, request_told, reply_told, host_feeder, Either, feeds, closes, HostFeedRequest, HostCloseRequest, request_call, request_by_host, HostFeedReply, HostCloseReply, reply_call, reply_by_host, host_calls, cells_in, OnCells, Holds, CutByHost}
use Rattle.promises.specs.Offered.{Answers}
use Rattle.promises.proofs.Offered.{answers_by}
use Rattle.promises.proofs.Steady.{by_calls}
use Rattle.promises.proofs.Demand3.{request_demand, reply_demand}
use Rattle.promises.proofs.Cutting.{Local, Meets, however_cut}
use Rattle.promises.proofs.Locals.{request_local, reply_local}
use Rattle.promises.proofs.Joined.{Handing, joined_answering}
use Rattle.promises.proofs.Spoken.{request_speech, reply_speech}
use Rattle.promises.proofs.HostedRequest.{flag_back}
use Rattle.promises.proofs.FedLines.{Plain, refusal_back, line_holds, line_forth, started_plain, Numbering, Slots, after_plain, unheld_answer, unheld_quiet, answer_plain}

-- ---- what is asked of a sort of read: f gives cells for what is told, and `tells` reads them back

record Faced (X : Read) (f : X.Told → Given) (tells : List ℕ → X.Told) (refusing : Refused → X.Told) : Type 0 where
  pub host : Host X f
  pub numbering : Numbering X
  pub slots : Slots X
  pub refused_is : (m : List ℕ) (y : Refused) → X.tells m (judge.refused y) ≡ refusing y
  pub back : (m lent : List ℕ) (q : X.judging.Q Sighting) → tells (given.held (f (X.tells m (judge.accepted q))) lent) ≡ X.tells m (judge.accepted q)
  pub apart : (c : List ℕ) (y : Refused) → tells c ≡ refusing y → ⊥

module _ {X : Read} {f : X.Told → Given} {tells : List ℕ → X.Told} {refusing : Refused → X.Told} (P : Faced X f tells refusing) where
  -- ---- what word and cells tell is read back

  refused_back : (y : Refused) (c : List ℕ) → Plain y → said_in tells refusing (word y) c ≡ says (refusing y)
  refused_back y c p =
      rw (ne_eqb (word y) 65535 (word_waits y p.high), ne_eqb (word y) 0 (word_some y p.low))
      (ap (λ (x : Refused). says (refusing x)) (refusal_back y p))

  abbrev Back : List ℕ → Given → Says X.Told
  Back lent g = said_in tells refusing (returned g) (given.held g lent)

  said_back : (m lent : List ℕ) (a : Fed X.judging.Q) → ((y : Refused) → a ≡ answers (judge.refused y) → Plain y)
      → said_in tells refusing (fed_word f (says_of X m a)) (fed_cells f (says_of X m a) lent) ≡ says_of X m a
  said_back m lent none h = refl
  said_back m lent (answers (judge.refused y)) h = ap (Back lent) (P.host.refuse m y) ∙ refused_back y lent (h y refl) ∙ ap says (sym (P.refused_is m y))
  said_back m lent (answers (judge.accepted q)) h =
      let k = P.host.accept m q in
      ap (Back lent) k.1 ∙ ap (λ (g : Given). says (tells (given.held g lent))) (sym k.1) ∙ ap says (P.back m lent q)

  -- ---- one call

  -- what a contract says, of the connection l that the cells hold
  record Means (l : Line) (b : List ℕ) (h : Brought) (u : Terms) (t lent : List ℕ) (r : ℕ) (l' : Line) (b' t' after : List ℕ) : Type 0 where
    pub word : r ≡ fed_word f (says_in X l b h u)
    pub line : l' ≡ line_after X l b h u
    pub buffer : b' ≡ buffer_after X l b h
    pub table : t' ≡ table_after X l b h u t
    pub answer : after ≡ fed_cells f (says_in X l b h u) lent

  module _ {c b : List ℕ} {h : Brought} {u : Terms} {t lent : List ℕ} {r : ℕ} {c' b' t' after : List ℕ} (p : Feeds X f c b h u t lent r c' b' t' after) (sb : Small b) (sp : Small h.piece) where
    abbrev l : Line
    l = connection_in c

    abbrev m : List ℕ
    m = held (line_after X unheld b h u) (buffer_after X unheld b h)

    by_held : is_connection c ≡ true → Means (line_in c) b h u t lent r (connection_in c') b' t' after
    by_held i = record {
      word = rw i at p.word;
      line = ap connection_in (rw i at p.connection) ∙ line_forth (line_after X (line_in c) b h u) (after_plain X P.numbering P.slots c b h u sb sp i);
      buffer = rw i at p.buffer;
      table = rw i at p.table;
      answer = rw i at p.answer;
    }

    nine : says_in X unheld b h u ≡ says (X.tells m (judge.refused (unplaced 9 nothing)))
    nine = ap (says_of X m) (unheld_answer X b h u)

    quiet : is_pending unheld b ≡ false
    quiet = unheld_quiet X b h u

    by_none : is_connection c ≡ false → Means unheld b h u t lent r (connection_in c') b' t' after
    by_none i = record {
      word = (rw i at p.word) ∙ sym (ap (fed_word f) nine ∙ ap returned (P.host.refuse m (unplaced 9 nothing)));
      line = ap connection_in (rw i at p.connection) ∙ ap (λ (s : Bool). cond s (line_in c) unheld) i ∙ sym (line_unmoved X unheld b h u quiet);
      buffer = (rw i at p.buffer) ∙ sym (buffer_unmoved X unheld b h quiet);
      table = (rw i at p.table) ∙ sym (table_unmoved X unheld b h u t quiet);
      answer = (rw i at p.answer) ∙ sym (ap (λ (s : Says X.Told). fed_cells f s lent) nine ∙ ap (λ (g : Given). given.held g lent) (P.host.refuse m (unplaced 9 nothing)));
    }

    means : Means l b h u t lent r (connection_in c') b' t' after
    means =
        test.on (is_connection c)
        (λ i. subst (λ (s : Bool). Means (cond s (line_in c) unheld) b h u t lent r (connection_in c') b' t' after) (sym i) (by_held i))
        (λ i. subst (λ (s : Bool). Means (cond s (line_in c) unheld) b h u t lent r (connection_in c') b' t' after) (sym i) (by_none i))

    -- what word and cells say is what the definition says
    said_is : said_in tells refusing r after ≡ says_in X l b h u
    said_is =
        (λ j. said_in tells refusing (means.word j) (means.answer j))
        ∙ said_back (held (line_after X l b h u) (buffer_after X l b h)) lent (answer_of X l b h u) (answer_plain X P.numbering P.slots c b h u sb sp)

    fed_said : said_in tells refusing r after ≡ says_of X (held (connection_in c') b') (answer_of X l b h u)
    fed_said = said_is ∙ sym (λ j. says_of X (held (means.line j) (means.buffer j)) (answer_of X l b h u))

    fed_word_lem : r ≡ fed_word f (said_in tells refusing r after)
    fed_word_lem = means.word ∙ ap (fed_word f) (sym said_is)

    fed_answer : after ≡ fed_cells f (said_in tells refusing r after) lent
    fed_answer = means.answer ∙ ap (λ (s : Says X.Told). fed_cells f s lent) (sym said_is)

    -- cells that hold a connection hold one afterwards, and are its cells
    fed_holds : is_connection c ≡ true → Holds c'
    fed_holds i =
        let e : c' ≡ line_cells (line_after X (line_in c) b h u) = rw i at p.connection in
        (ap is_connection e ∙ line_holds (line_after X (line_in c) b h u) (after_plain X P.numbering P.slots c b h u sb sp i), e ∙ ap line_cells (sym (by_held i).line))

  -- ---- functions whose calls meet the contract

  abbrev Met : HostCall → Type 0
  Met x =
      Feeds X f x.lent.connection x.lent.buffer x.brought x.terms x.lent.table x.lent.answer x.word x.left.connection x.left.buffer x.left.table x.left.answer
      × Small x.lent.buffer
      × Small x.brought.piece

  module _ {C : Type 1} {S : Type 0} (of : C → HostCall) (met : (c : C) → Met (of c)) (in_hand : X.judging.Q (List ℕ) → S) (show : List ℕ → List ℕ → List ℕ → S) where
    abbrev F : Feeder X S
    F = host_feeder X of tells refusing show

    meets : (c : C) → Meets X (F.made c)
    meets c =
        let k = met c in
        let m = means k.0 k.1 k.2 in
        record { answer = fed_said k.0 k.1 k.2; line = m.line; buffer = m.buffer; table = m.table }

    word_is : (c : C) → (of c).word ≡ fed_word f (F.made c).said
    word_is c = let k = met c in fed_word_lem k.0 k.1 k.2

    answer_is : (c : C) → (of c).left.answer ≡ fed_cells f (F.made c).said (of c).lent.answer
    answer_is c = let k = met c in fed_answer k.0 k.1 k.2

    -- ---- on one line

    online : (Q : Profile) (n : ℕ) (b : List ℕ) (xs : List C) → n ≤ 65535 → OnCells Q n b (host_calls of xs) → OnLine Q n b (made_by F xs)
    online Q n b [] l o = tt
    online Q n b (x ∷ []) l o = (ap connection_in o.0 ∙ line_forth (started Q n) (started_plain Q n l), o.1, tt)
    online Q n b (x ∷ y ∷ xs) l o = (ap connection_in o.0, o.1, online Q n b (y ∷ xs) l o.2)

    holds : (Q : Profile) (n : ℕ) (b : List ℕ) (xs : List C) → n ≤ 65535 → OnCells Q n b (host_calls of xs) → Holds (cells_in Q n (host_calls of xs))
    holds Q n b [] l o = (line_holds (started Q n) (started_plain Q n l), ap line_cells (sym (line_forth (started Q n) (started_plain Q n l))))
    holds Q n b (x ∷ xs) l o = let k = met x in fed_holds k.0 k.1 k.2 (ap is_connection o.0 ∙ (holds Q n b xs l o.2).0)

    cut_by_host : Local X → CutByHost F of f
    cut_by_host L = record { online = online; cut = however_cut X L F meets; holds = holds; word = word_is; answer = answer_is }

    -- ---- what is in hand

    abbrev gathered : C → List ℕ
    gathered c = held (F.made c).after (F.made c).left

    host_handing : (L : Local X)
        → ((m lent table filled : List ℕ) (u : Under) (q : X.judging.Q Sighting) → read_by X.reader X.judging m u ≡ judge.accepted q → filled ≡ X.fills (judge.accepted q) table
        → show m filled (given.held (f (X.tells m (judge.accepted q))) lent) ≡ in_hand (contents X.judging m q))
        → Handing X L F in_hand
    host_handing L shown = record {
      meets = meets;
      accepts = λ c u q w e t. (
        word_is c ∙ ap (fed_word f) e ∙ ap returned (P.host.accept (gathered c) q).1,
        ap (show (gathered c) (of c).left.table) (answer_is c ∙ ap (λ (s : Says X.Told). fed_cells f s (of c).lent.answer) e)
            ∙ shown (gathered c) (of c).lent.answer (of c).lent.table (of c).left.table u q w t,
      );
      accepted_by = λ c s h.
          (tells (of c).left.answer, ap (λ (r : ℕ). said_in tells refusing r (of c).left.answer) h.0, λ m y e. P.apart (of c).left.answer y (e ∙ P.refused_is m y));
      one = λ c s s' h h'. sym h.1 ∙ h'.1;
      refuses = λ c m y e t. (
        word_is c ∙ ap (fed_word f) e ∙ ap returned (P.host.refuse m y),
        t ∙ P.host.keep y (of c).lent.table,
        answer_is c ∙ ap (λ (s : Says X.Told). fed_cells f s (of c).lent.answer) e ∙ ap (λ (g : Given). given.held g (of c).lent.answer) (P.host.refuse m y),
      );
    }

-- ---- a line's first cells

pub ntske_connection_new_starts : (κs : _) (a : _) (r : _) (e : _) → connection_new.Learnt κs a r e → (r ≡ 0) × (e.1.0.now ≡ cells_in Usual a.0 [])
ntske_connection_new_starts κs a r e p = (p.says, p.left)

pub ntske_connection_new_strict_starts : (κs : _) (a : _) (r : _) (e : _) → connection_new_strict.Learnt κs a r e → (r ≡ 0) × (e.1.0.now ≡ cells_in Strict a.0 [])
ntske_connection_new_strict_starts κs a r e p = (p.says, p.left)

-- fifteen kinds are told apart, in every profile
slots_in : (Q : Profile) (k j : ℕ) → j ≡ slot_of (shape_in Q) k → j < 16
slots_in Q k j e = omega (arith, slot_below (record { profile = Q; entries = [] }) j k e)

-- ---- requests

abbrev is_accepted : requests.Told → Bool
is_accepted (requests.key_exchange_is p a n) = true
is_accepted (requests.fixed_key_is u c s a p k) = true
is_accepted (requests.support_is u p a k) = true
is_accepted (requests.refused_with y) = false

either_accepted : (t : Bool) (x y : requests.Told) → is_accepted x ≡ true → is_accepted y ≡ true → is_accepted (cond t x y) ≡ true
either_accepted true x y p q = p
either_accepted false x y p q = q

request_apart : (c : List ℕ) (y : Refused) → request_told c ≡ requests.refused_with y → ⊥
request_apart c y e =
    true≢false (sym (either_accepted (eqb (cell c 0) 1) _ _ refl (either_accepted (eqb (cell c 0) 2) _ _ refl refl)) ∙ ap is_accepted e)

request_back : (m lent : List ℕ) (q : requests.Form Sighting) → request_told (given.held (request_given (requests.told_form m q)) lent) ≡ requests.told_form m q
request_back m lent (requests.key_exchange p a d) = refl
request_back m lent (requests.fixed_key u x a p k) = rw flag_back
request_back m lent (requests.support u p a k) = simp flag_back

request_face : Faced request_read request_given request_told requests.refused_with
unfolding requests.request
request_face = record {
  host = host_request;
  numbering = λ Q s n x y e. request_numbered Eighteenth (omega arith) Q (barred_eighteenth Q) s n x.room y (sym (request_order.room_alone s (record { profile = Q; limit = n; terms = x })) ∙ e);
  slots = λ Q k. slots_in Q k _ refl;
  refused_is = λ m y. refl;
  back = request_back;
  apart = request_apart;
}

request_shown : (m lent table filled : List ℕ) (u : Under) (q : requests.Form Sighting) → read_by requests.reader requests.judging m u ≡ judge.accepted q → filled ≡ requests.table_after (judge.accepted q) table
    → request_in_hand m filled (given.held (request_given (requests.told_form m q)) lent) ≡ hand.in_hand (contents requests.judging m q)
request_shown m lent table filled u (requests.key_exchange p a d) w f = request_speech.shown m table filled (KeyExchange (part_of p) (part_of a) (length d)) u _ w refl f
request_shown m lent table filled u (requests.fixed_key v x a p k) w f =
    rw flag_back (request_speech.shown m table filled (FixedKey (part_of v) (requests.first_half x) (requests.second_half x) (record { 0 = number_at (body_in m a) 0 }) (record { 0 = number_at (body_in m p) 0 }) k) u _ w refl f)
request_shown m lent table filled u (requests.support v p a k) w f = simp flag_back (request_speech.shown m table filled (Support (part_of v) p a k) u _ w refl f)

request_met : (c : Either HostFeedRequest HostCloseRequest) → Met request_face (request_call c)
request_met (feeds c) = (c.met, c.buffer, c.piece)
request_met (closes c) = (c.met, c.buffer, λ i. omega arith)

request_handing : Handing request_read request_local request_by_host hand.in_hand
request_handing = host_handing request_face request_call request_met hand.in_hand request_in_hand request_local request_shown

pub ntske_feed_request_however : CutByHost request_by_host request_call request_given
ntske_feed_request_however = cut_by_host request_face request_call request_met hand.in_hand request_in_hand request_local

pub ntske_feed_request_demand : Demand3 (joined_reader request_by_host)
unfolding requests.request
ntske_feed_request_demand =
    by_calls request_order.reading request_order.shows (joined_reader request_by_host) hand.in_hand
    (joined_answering request_read request_local request_by_host hand.in_hand request_handing) request_demand

-- ---- replies

reply_apart : (c : List ℕ) (y : Refused) → reply_told c ≡ replies.refused_with y → ⊥
reply_apart c y e = let z : ◌≡◌ {A = ℕ} 0 1 = cc in omega arith

reply_back : (m lent : List ℕ) (q : replies.Form Sighting) → reply_told (given.held (reply_given (replies.told_form m q)) lent) ≡ replies.told_form m q
reply_back m lent (replies.reply p a replies.not_sent replies.not_sent k c) = rw flag_back
reply_back m lent (replies.reply p a replies.not_sent (replies.sent t) k c) = rw flag_back
reply_back m lent (replies.reply p a (replies.sent s) replies.not_sent k c) = rw flag_back
reply_back m lent (replies.reply p a (replies.sent s) (replies.sent t) k c) = rw flag_back

reply_face : Faced reply_read reply_given reply_told replies.refused_with
unfolding replies.reply_of
reply_face = record {
  host = host_reply;
  numbering = λ Q s n x y e. reply_numbered Eighteenth (omega arith) Q (barred_eighteenth Q) s n x y e;
  slots = λ Q k. slots_in Q k _ refl;
  refused_is = λ m y. refl;
  back = reply_back;
  apart = reply_apart;
}

abbrev response : List ℕ → Sighting → Sighting → Server → Port → Bool → ℕ → KeyExchangeResponse
response m p a s t k n = record {
  protocol = record { 0 = number_at (body_in m p) 0 };
  algorithm = record { 0 = number_at (body_in m a) 0 };
  server = s;
  port = t;
  keep_alive = k;
  cookies = n;
}

reply_shown : (m lent table filled : List ℕ) (u : Under) (q : replies.Form Sighting) → read_by replies.reader replies.judging m u ≡ judge.accepted q → filled ≡ replies.table_after (judge.accepted q) table
    → reply_in_hand m filled (given.held (reply_given (replies.told_form m q)) lent) ≡ hand_reply.in_hand (contents replies.judging m q)
reply_shown m lent table filled u (replies.reply p a replies.not_sent replies.not_sent k c) w f =
    rw flag_back (reply_speech.shown m table filled (response m p a server.NotSent port.NotSent k (length c)) u _ w refl f)
reply_shown m lent table filled u (replies.reply p a replies.not_sent (replies.sent t) k c) w f =
    rw flag_back (reply_speech.shown m table filled (response m p a server.NotSent (port.Sent (number_at (body_in m t) 0)) k (length c)) u _ w refl f)
reply_shown m lent table filled u (replies.reply p a (replies.sent s) replies.not_sent k c) w f =
    rw flag_back (reply_speech.shown m table filled (response m p a (server.Sent (part_of s)) port.NotSent k (length c)) u _ w refl f)
reply_shown m lent table filled u (replies.reply p a (replies.sent s) (replies.sent t) k c) w f =
    rw flag_back (reply_speech.shown m table filled (response m p a (server.Sent (part_of s)) (port.Sent (number_at (body_in m t) 0)) k (length c)) u _ w refl f)

reply_met : (c : Either HostFeedReply HostCloseReply) → Met reply_face (reply_call c)
reply_met (feeds c) = (c.met, c.buffer, c.piece)
reply_met (closes c) = (c.met, c.buffer, λ i. omega arith)

reply_handing : Handing reply_read reply_local reply_by_host hand_reply.in_hand
reply_handing = host_handing reply_face reply_call reply_met hand_reply.in_hand reply_in_hand reply_local reply_shown

pub ntske_feed_reply_however : CutByHost reply_by_host reply_call reply_given
ntske_feed_reply_however = cut_by_host reply_face reply_call reply_met hand_reply.in_hand reply_in_hand reply_local

pub ntske_feed_reply_demand : Demand3 (joined_reader reply_by_host)
unfolding replies.reply_of
ntske_feed_reply_demand =
    by_calls reply_order.reading reply_order.shows (joined_reader reply_by_host) hand_reply.in_hand
    (joined_answering reply_read reply_local reply_by_host hand_reply.in_hand reply_handing) reply_demand

-- what it accepts was offered, by the lists that the call which answered was lent
pub ntske_feed_reply_answers : Answers (joined_reader reply_by_host)
unfolding replies.reply_of
ntske_feed_reply_answers = answers_by (joined_reader reply_by_host) (joined_answering reply_read reply_local reply_by_host hand_reply.in_hand reply_handing)
