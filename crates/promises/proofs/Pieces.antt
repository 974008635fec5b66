-- 02, order 1: a read that is fed in pieces answers alike however its bytes are cut, and demand 3 holds for the joined bytes. The statements are specs/Pieces.antt, of every
-- function that feeds a read (specs/Fed.antt), over its own contract. Messages to which they apply, computed by the checker: ExamplesPieces.antt.
-- Assumes nothing.
use mathlib.Core.Path.{◌≡◌, refl, sym, ap, subst, ◌∙◌}
use mathlib.Core.List.{List}
use mathlib.Core.Bool.{false}
use Prim.Native.Nat.{ℕ}
use mathlib.Core.Logic.{inl, inr}
use Rattle.request.specs.Request as request_form
use Rattle.request.proofs.Order as request_order
use Rattle.reply.specs.Reply as reply_form
use Rattle.reply.proofs.Order as reply_order
use Rattle.walk.specs.Judge.{Terms}
use Rattle.pieces.specs.Pieces.{Line, Brought, Read, Says, says_of, held, answer_of, Hands, is_pending, line_after, buffer_after, table_after, told_connection}
use Rattle.pieces.proofs.Apart.{connection_apart}
use Rattle.pieces.proofs.feed_request.Reads as feed_request
use Rattle.pieces.proofs.feed_reply.Reads as feed_reply
use Rattle.pieces.specs.Reads.{request_read, told_request, reply_read, told_reply, of_request, of_reply, HandsOver}
use Rattle.pieces.specs.declared.Connection.{Connection}
use Rattle.pieces.specs.declared.Expected.{Expected}
use Rattle.pieces.specs.declared.Expected.TheVariants as expected
use Rattle.pieces.specs.declared.RequestAnswer.{RequestAnswer}
use Rattle.pieces.specs.declared.RequestAnswer.TheVariants as asked
use Rattle.pieces.specs.declared.ReplyAnswer.{ReplyAnswer}
use Rattle.pieces.specs.declared.ReplyAnswer.TheVariants as replied
use Rattle.pieces.specs.declared.Handed.{Handed}
use Rattle.pieces.specs.declared.Answer.{Answer}
use Rattle.pieces.specs.declared.Answer.TheVariants as answer
use Rattle.promises.specs.Handed as requests
use Rattle.promises.specs.HandedReply as replies
use Rattle.promises.specs.Demand3.{Demand3}
use Rattle.promises.specs.Pieces.{HoweverCut, joined_reader}
use Rattle.promises.specs.Fed.{HandCall, HandOverCall, Over, handed, handed_over, made_over, said_request, said_reply, lent_request, lent_reply, request_fed, reply_fed, request_handed, reply_handed, request_handed_over, reply_handed_over}
use Rattle.promises.specs.Offered.{Answers}
use Rattle.promises.proofs.Offered.{answers_by}
use Rattle.promises.proofs.Steady.{by_calls}
use Rattle.promises.proofs.Demand3.{request_demand, reply_demand}
use Rattle.promises.proofs.Cutting.{Meets, however_cut}
use Rattle.promises.proofs.Locals.{request_local, reply_local}
use Rattle.promises.proofs.Joined.{Handing, joined_answering}
use Rattle.promises.proofs.Spoken.{request_speech, reply_speech, One, Spoken, spoken_handing}

-- ---- what the answers say

asked_spoken : Spoken request_form.told_request request_form.refused_with told_request asked.Accepted asked.Refused
asked_spoken = record { view = λ a. go a; told_accepts = λ y. refl; told_refuses = λ x. refl; accepts_one = λ y y' e. cc }
  where
    go : (a : RequestAnswer) → One told_request asked.Accepted asked.Refused a
    go asked.Waiting = inl refl
    go (asked.Accepted y) = inr (inl (y, refl))
    go (asked.Refused x) = inr (inr (x, refl))

replied_spoken : Spoken reply_form.told_reply reply_form.refused_with told_reply replied.Accepted replied.Refused
replied_spoken = record { view = λ a. go a; told_accepts = λ y. refl; told_refuses = λ x. refl; accepts_one = λ y y' e. cc }
  where
    go : (a : ReplyAnswer) → One told_reply replied.Accepted replied.Refused a
    go replied.Waiting = inl refl
    go (replied.Accepted y) = inr (inl (y, refl))
    go (replied.Refused x) = inr (inr (x, refl))

request_spoken : Spoken request_form.told_request request_form.refused_with said_request answer.Request answer.Refused
request_spoken = record { view = λ a. go a; told_accepts = λ y. refl; told_refuses = λ x. refl; accepts_one = λ y y' e. cc }
  where
    go : (a : Answer) → One said_request answer.Request answer.Refused a
    go answer.Waiting = inl refl
    go (answer.Request y) = inr (inl (y, refl))
    go (answer.Reply y) = inl refl
    go (answer.Refused x) = inr (inr (x, refl))

reply_spoken : Spoken reply_form.told_reply reply_form.refused_with said_reply answer.Reply answer.Refused
reply_spoken = record { view = λ a. go a; told_accepts = λ y. refl; told_refuses = λ x. refl; accepts_one = λ y y' e. cc }
  where
    go : (a : Answer) → One said_reply answer.Reply answer.Refused a
    go answer.Waiting = inl refl
    go (answer.Request y) = inl refl
    go (answer.Reply y) = inr (inl (y, refl))
    go (answer.Refused x) = inr (inr (x, refl))

-- ---- what the contracts of `hand` and `hand_over` say of a call

said_request_lem : (a : RequestAnswer) → told_request a ≡ said_request (of_request a)
said_request_lem asked.Waiting = refl
said_request_lem (asked.Accepted y) = refl
said_request_lem (asked.Refused x) = refl

said_reply_lem : (a : ReplyAnswer) → told_reply a ≡ said_reply (of_reply a)
said_reply_lem replied.Waiting = refl
said_reply_lem (replied.Accepted y) = refl
said_reply_lem (replied.Refused x) = refl

abbrev Handed-by : Over → Expected → Type 0
Handed-by o w = HandsOver o.connection w o.piece o.closed o.protocols o.algorithms o.buffer o.table o.handed o.left o.filled

-- what was handed is a connection and an answer, of which `said` says what the contract does, under what `lent` says
over_meets : (X : Read) (said : Answer → Says X.Told) (lent : Over → Terms) (o : Over) (told : Says X.Told) (c : Connection) (a : Answer) → o.handed ≡ record { connection = c; answer = a } → told ≡ said a
    → Hands X (told_connection o.connection) o.buffer (record { piece = o.piece; closed = o.closed }) (lent o) o.table told (told_connection c) o.left o.filled
    → Meets X (made_over X said lent o)
over_meets X said lent o told c a e s p = record {
  answer = ap (λ (h : Handed). said h.answer) e ∙ sym s ∙ p.answer ∙ ap (λ (h : Handed). says_of X (held (told_connection h.connection) o.left) (answer_of X (told_connection o.connection) o.buffer (record { piece = o.piece; closed = o.closed }) (lent o))) (sym e);
  line = ap (λ (h : Handed). told_connection h.connection) e ∙ p.line;
  buffer = p.buffer;
  table = p.table;
}

request_meets : (o : Over) → Handed-by o expected.Request → Meets request_read (made_over request_read said_request lent_request o)
request_meets o p = over_meets request_read said_request lent_request o (told_request p.0.answer) p.0.connection (of_request p.0.answer) p.2 (said_request_lem p.0.answer) p.1

reply_meets : (o : Over) → Handed-by o expected.Reply → Meets reply_read (made_over reply_read said_reply lent_reply o)
reply_meets o p = over_meets reply_read said_reply lent_reply o (told_reply p.0.answer) p.0.connection (of_reply p.0.answer) p.2 (said_reply_lem p.0.answer) p.1

handed_by : {w : Expected} (c : HandCall w) → Handed-by (handed c) w
handed_by c = subst (Handed-by (handed c)) c.expects c.met

handed_over_by : {w : Expected} (c : HandOverCall w) → Handed-by (handed_over c) w
handed_over_by c = subst (Handed-by (handed_over c)) c.expects c.met

-- ---- so each function hands out what its definition shows

fed_request : Handing request_read request_local request_fed requests.in_hand
fed_request = spoken_handing request_local request_speech asked_spoken (λ c. c.met) (λ c. refl)

fed_reply : Handing reply_read reply_local reply_fed replies.in_hand
fed_reply = spoken_handing reply_local reply_speech replied_spoken (λ c. c.met) (λ c. refl)

handed_request : Handing request_read request_local request_handed requests.in_hand
handed_request = spoken_handing request_local request_speech request_spoken (λ c. request_meets (handed c) (handed_by c)) (λ c. refl)

handed_reply : Handing reply_read reply_local reply_handed replies.in_hand
handed_reply = spoken_handing reply_local reply_speech reply_spoken (λ c. reply_meets (handed c) (handed_by c)) (λ c. refl)

handed_over_request : Handing request_read request_local request_handed_over requests.in_hand
handed_over_request = spoken_handing request_local request_speech request_spoken (λ c. request_meets (handed_over c) (handed_over_by c)) (λ c. refl)

handed_over_reply : Handing reply_read reply_local reply_handed_over replies.in_hand
handed_over_reply = spoken_handing reply_local reply_speech reply_spoken (λ c. reply_meets (handed_over c) (handed_over_by c)) (λ c. refl)

-- ---- however cut

-- every such function of requests
request_cut : {F : _} → Handing request_read request_local F requests.in_hand → HoweverCut F
request_cut {F} g = however_cut request_read request_local F g.meets

reply_cut : {F : _} → Handing reply_read reply_local F replies.in_hand → HoweverCut F
reply_cut {F} g = however_cut reply_read reply_local F g.meets

pub feed_request_however : HoweverCut request_fed
feed_request_however = request_cut fed_request

pub feed_reply_however : HoweverCut reply_fed
feed_reply_however = reply_cut fed_reply

pub hand_request_however : HoweverCut request_handed
hand_request_however = request_cut handed_request

pub hand_reply_however : HoweverCut reply_handed
hand_reply_however = reply_cut handed_reply

pub hand_over_request_however : HoweverCut request_handed_over
hand_over_request_however = request_cut handed_over_request

pub hand_over_reply_however : HoweverCut reply_handed_over
hand_over_reply_however = reply_cut handed_over_reply

-- ---- "Demand 3 holds for the joined bytes, if the buffer has room through the end record"

request_joined : {F : _} → Handing request_read request_local F requests.in_hand → Demand3 (joined_reader F)
unfolding request_form.request
request_joined {F} g =
    by_calls request_order.reading request_order.shows (joined_reader F) requests.in_hand (joined_answering request_read request_local F requests.in_hand g) request_demand

reply_joined : {F : _} → Handing reply_read reply_local F replies.in_hand → Demand3 (joined_reader F)
unfolding reply_form.reply_of
reply_joined {F} g =
    by_calls reply_order.reading reply_order.shows (joined_reader F) replies.in_hand (joined_answering reply_read reply_local F replies.in_hand g) reply_demand

pub feed_request_demand : Demand3 (joined_reader request_fed)
feed_request_demand = request_joined fed_request

pub feed_reply_demand : Demand3 (joined_reader reply_fed)
feed_reply_demand = reply_joined fed_reply

pub hand_request_demand : Demand3 (joined_reader request_handed)
hand_request_demand = request_joined handed_request

pub hand_reply_demand : Demand3 (joined_reader reply_handed)
hand_reply_demand = reply_joined handed_reply

pub hand_over_request_demand : Demand3 (joined_reader request_handed_over)
hand_over_request_demand = request_joined handed_over_request

pub hand_over_reply_demand : Demand3 (joined_reader reply_handed_over)
hand_over_reply_demand = reply_joined handed_over_reply

-- ---- what it accepts was offered, by the lists that the call which answered was lent

reply_offered : {F : _} → Handing reply_read reply_local F replies.in_hand → Answers (joined_reader F)
unfolding reply_form.reply_of
reply_offered {F} g = answers_by (joined_reader F) (joined_answering reply_read reply_local F replies.in_hand g)

pub feed_reply_answers : Answers (joined_reader reply_fed)
feed_reply_answers = reply_offered fed_reply

pub hand_reply_answers : Answers (joined_reader reply_handed)
hand_reply_answers = reply_offered handed_reply

pub hand_over_reply_answers : Answers (joined_reader reply_handed_over)
hand_over_reply_answers = reply_offered handed_over_reply

-- ---- 9, "first and changing nothing"; and "Once an answer exists, later calls change nothing": connection, buffer and table are as they were. That 9 is given exactly to a
-- connection which counts too many bytes: ExactFed.antt

quiet : (X : Read) {c : Line} {b : List ℕ} {h : Brought} {room : Terms} {t : List ℕ} {r : Says X.Told} {c' : Line} {b' t' : List ℕ} → Hands X c b h room t r c' b' t'
    → is_pending c b ≡ false → (c' ≡ c) × (b' ≡ b) × (t' ≡ t)
unfolding line_after buffer_after table_after
quiet X p q = (p.line ∙ rw q, p.buffer ∙ rw q, p.table ∙ rw q)

pub feed_request_quiet : (κs : _) (a : _) (r : _) (e : _) → feed_request.Learnt κs a r e → is_pending (told_connection a.0) a.1.1.1.0.now ≡ false
    → (r.connection ≡ a.0) × (e.1.1.1.0.now ≡ a.1.1.1.0.now) × (e.1.1.1.1.0.now ≡ a.1.1.1.1.0.now)
feed_request_quiet κs a r e p q = let s = quiet request_read p q in (connection_apart r.connection a.0 s.0, s.1, s.2)

pub feed_reply_quiet : (κs : _) (a : _) (r : _) (e : _) → feed_reply.Learnt κs a r e → is_pending (told_connection a.0) a.1.1.1.1.1.0.now ≡ false
    → (r.connection ≡ a.0) × (e.1.1.1.1.1.0.now ≡ a.1.1.1.1.1.0.now) × (e.1.1.1.1.1.1.0.now ≡ a.1.1.1.1.1.1.0.now)
feed_reply_quiet κs a r e p q = let s = quiet reply_read p q in (connection_apart r.connection a.0 s.0, s.1, s.2)

-- by which message is expected
over_quiet : (o : Over) (w : Expected) → Handed-by o w → is_pending (told_connection o.connection) o.buffer ≡ false
    → (o.handed.connection ≡ o.connection) × (o.left ≡ o.buffer) × (o.filled ≡ o.table)
over_quiet o expected.Request p q =
    let s = quiet request_read p.1 q in
    (ap (λ (h : Handed). h.connection) p.2 ∙ connection_apart p.0.connection o.connection s.0, s.1, s.2)
over_quiet o expected.Reply p q =
    let s = quiet reply_read p.1 q in
    (ap (λ (h : Handed). h.connection) p.2 ∙ connection_apart p.0.connection o.connection s.0, s.1, s.2)

pub hand_quiet : {w : Expected} (c : HandCall w) → is_pending (told_connection (handed c).connection) (handed c).buffer ≡ false
    → ((handed c).handed.connection ≡ (handed c).connection) × ((handed c).left ≡ (handed c).buffer) × ((handed c).filled ≡ (handed c).table)
hand_quiet {w} c q = over_quiet (handed c) w (handed_by c) q

pub hand_over_quiet : {w : Expected} (c : HandOverCall w) → is_pending (told_connection (handed_over c).connection) (handed_over c).buffer ≡ false
    → ((handed_over c).handed.connection ≡ (handed_over c).connection) × ((handed_over c).left ≡ (handed_over c).buffer) × ((handed_over c).filled ≡ (handed_over c).table)
hand_over_quiet {w} c q = over_quiet (handed_over c) w (handed_over_by c) q
