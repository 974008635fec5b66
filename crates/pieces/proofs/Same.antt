-- Any two results that meet a public function's contract are the same, and so are buffer and table after it: one theorem a function, over the contract itself.
-- Assumes nothing.
use mathlib.Core.Path.{◌≡◌, sym, ap, ◌∙◌}
use mathlib.Core.List.{List}
use mathlib.Core.Bool.{Bool}
use Prim.Native.Nat.{ℕ}
use Rattle.walk.specs.Judge.{Terms}
use Rattle.pieces.specs.Pieces.{Line, Brought, Hands, told_connection}
use Rattle.pieces.specs.Reads.{request_read, told_request, reply_read, told_reply, of_request, of_reply, HandsOver}
use Rattle.pieces.specs.declared.Connection.{Connection}
use Rattle.pieces.specs.declared.FedRequest.{FedRequest}
use Rattle.pieces.specs.declared.FedReply.{FedReply}
use Rattle.pieces.specs.declared.Expected.{Expected}
use Rattle.pieces.specs.declared.Expected.TheVariants as expected
use Rattle.pieces.specs.declared.Handed.{Handed}
use Rattle.pieces.proofs.Apart.{connection_apart, asked_apart, replied_apart}
use Rattle.pieces.proofs.Feeding.{hands_same}
use Rattle.pieces.proofs.Connection.start.Reads as start
use Rattle.pieces.proofs.feed_request.Reads as feed_request
use Rattle.pieces.proofs.feed_reply.Reads as feed_reply
use Rattle.pieces.proofs.hand.Reads as hand
use Rattle.pieces.proofs.InPlace as hand_over

pub Connection-start_same : (κs : _) (a : _) (r r' : _) (e e' : _) → start.Learnt κs a r e → start.Learnt κs a r' e' → r ≡ r'
Connection-start_same κs a r r' e e' p q = connection_apart r r' (p ∙ sym q)

-- ---- what a read's call gives

module _ {l : Line} {b : List ℕ} {h : Brought} {x : Terms} {t b' b'' t' t'' : List ℕ} where
  fed_request_same : (r r' : FedRequest) → Hands request_read l b h x t (told_request r.answer) (told_connection r.connection) b' t'
      → Hands request_read l b h x t (told_request r'.answer) (told_connection r'.connection) b'' t'' → (r ≡ r') × (b' ≡ b'') × (t' ≡ t'')
  fed_request_same r r' p q =
      let s = hands_same p q in
      let c = connection_apart r.connection r'.connection s.1 in
      let a = asked_apart r.answer r'.answer s.0 in
      (λ i. record { connection = c i; answer = a i }, s.2, s.3)

  fed_reply_same : (r r' : FedReply) → Hands reply_read l b h x t (told_reply r.answer) (told_connection r.connection) b' t'
      → Hands reply_read l b h x t (told_reply r'.answer) (told_connection r'.connection) b'' t'' → (r ≡ r') × (b' ≡ b'') × (t' ≡ t'')
  fed_reply_same r r' p q =
      let s = hands_same p q in
      let c = connection_apart r.connection r'.connection s.1 in
      let a = replied_apart r.answer r'.answer s.0 in
      (λ i. record { connection = c i; answer = a i }, s.2, s.3)

pub hands_over_same : (c : Connection) (w : Expected) (p : List ℕ) (closed : Bool) (ps qs b t : List ℕ) {r r' : Handed} {b' b'' t' t'' : List ℕ}
    → HandsOver c w p closed ps qs b t r b' t' → HandsOver c w p closed ps qs b t r' b'' t'' → (r ≡ r') × (b' ≡ b'') × (t' ≡ t'')
hands_over_same c expected.Request p closed ps qs b t x y =
    let s = fed_request_same x.0 y.0 x.1 y.1 in
    (x.2 ∙ ap (λ (f : FedRequest). record { connection = f.connection; answer = of_request f.answer }) s.0 ∙ sym y.2, s.1, s.2)
hands_over_same c expected.Reply p closed ps qs b t x y =
    let s = fed_reply_same x.0 y.0 x.1 y.1 in
    (x.2 ∙ ap (λ (f : FedReply). record { connection = f.connection; answer = of_reply f.answer }) s.0 ∙ sym y.2, s.1, s.2)

-- ---- the calls

pub feed_request_same : (κs : _) (a : _) (r r' : _) (e e' : _) → feed_request.Learnt κs a r e → feed_request.Learnt κs a r' e'
    → (r ≡ r') × (e.1.1.1.0.now ≡ e'.1.1.1.0.now) × (e.1.1.1.1.0.now ≡ e'.1.1.1.1.0.now)
feed_request_same κs a r r' e e' p q = fed_request_same r r' p q

pub feed_reply_same : (κs : _) (a : _) (r r' : _) (e e' : _) → feed_reply.Learnt κs a r e → feed_reply.Learnt κs a r' e'
    → (r ≡ r') × (e.1.1.1.1.1.0.now ≡ e'.1.1.1.1.1.0.now) × (e.1.1.1.1.1.1.0.now ≡ e'.1.1.1.1.1.1.0.now)
feed_reply_same κs a r r' e e' p q = fed_reply_same r r' p q

pub hand_same : (κs : _) (a : _) (r r' : _) (e e' : _) → hand.Learnt κs a r e → hand.Learnt κs a r' e'
    → (r ≡ r') × (e.1.1.1.1.1.1.0.now ≡ e'.1.1.1.1.1.1.0.now) × (e.1.1.1.1.1.1.1.0.now ≡ e'.1.1.1.1.1.1.1.0.now)
hand_same κs a r r' e e' p q = hands_over_same a.0 a.1.0 a.1.1.1.0.now a.1.1.0 a.1.1.1.1.0.now a.1.1.1.1.1.0.now a.1.1.1.1.1.1.0.now a.1.1.1.1.1.1.1.0.now p q

pub hand_over_same : (κs : _) (a : _) (r r' : _) (e e' : _) → hand_over.Learnt κs a r e → hand_over.Learnt κs a r' e'
    → (r ≡ r') × (e.0.now ≡ e'.0.now) × (e.1.1.1.1.1.1.0.now ≡ e'.1.1.1.1.1.1.0.now) × (e.1.1.1.1.1.1.1.0.now ≡ e'.1.1.1.1.1.1.1.0.now)
hand_over_same κs a r r' e e' p q =
    let s = hands_over_same a.0.now a.1.0 a.1.1.1.0.now a.1.1.0 a.1.1.1.1.0.now a.1.1.1.1.1.0.now a.1.1.1.1.1.1.0.now a.1.1.1.1.1.1.1.0.now p q in
    (ap (λ (h : Handed). h.answer) s.0, ap (λ (h : Handed). h.connection) s.0, s.1, s.2)
