-- What is told of an answer tells any two answers apart: it can be turned back into the answer.
-- Assumes nothing.
use mathlib.Core.Path.{◌≡◌, refl, ap}
use mathlib.Core.Bool.{false}
use Prim.Native.Nat.{ℕ}
use native.Mathlib.Omega.{arith}
use Rattle.nts.specs.Refusal.{told_refusal}
use Rattle.nts.proofs.Apart.{apart, refusal_apart}
use Rattle.layout.specs.declared.Part.{Part}
use Rattle.reply.specs.Reply.{Sent, sent, not_sent, Told, reply_is, refused_with, told_server, told_port, told_reply, told_answer}
use Rattle.reply.specs.declared.KeyExchangeResponse.{KeyExchangeResponse}
use Rattle.reply.specs.declared.Server.{Server}
use Rattle.reply.specs.declared.Server.TheVariants as server
use Rattle.reply.specs.declared.Port.{Port}
use Rattle.reply.specs.declared.Port.TheVariants as port
use Rattle.reply.specs.declared.Answer.{Answer}
use Rattle.reply.specs.declared.Answer.TheVariants.{Accepted, Refused}

server_from : Sent Part → Server
server_from (sent p) = server.Sent p
server_from not_sent = server.NotSent

server_back : (x : Server) → server_from (told_server x) ≡ x
unfolding server_from
server_back (server.Sent p) = refl
server_back server.NotSent = refl

port_from : Sent ℕ → Port
port_from (sent n) = port.Sent n
port_from not_sent = port.NotSent

port_back : (x : Port) → port_from (told_port x) ≡ x
unfolding port_from
port_back (port.Sent n) = refl
port_back port.NotSent = refl

reply_from : Told → KeyExchangeResponse
reply_from (reply_is p a s t k n) =
    record { protocol = record { 0 = p }; algorithm = record { 0 = a }; server = server_from s; port = port_from t; keep_alive = k; cookies = n }
reply_from (refused_with r) =
    record { protocol = record { 0 = 0 }; algorithm = record { 0 = 0 }; server = server.NotSent; port = port.NotSent; keep_alive = false; cookies = 0 }

reply_back : (x : KeyExchangeResponse) → reply_from (told_reply x) ≡ x
unfolding reply_from
reply_back x = λ i. record {
  protocol = x.protocol;
  algorithm = x.algorithm;
  server = server_back x.server i;
  port = port_back x.port i;
  keep_alive = x.keep_alive;
  cookies = x.cookies;
}

pub reply_apart : (x y : KeyExchangeResponse) → told_reply x ≡ told_reply y → x ≡ y
reply_apart = apart told_reply reply_from reply_back

pub answer_apart : (x y : Answer) → told_answer x ≡ told_answer y → x ≡ y
answer_apart (Accepted q) (Accepted w) e = ap Accepted (reply_apart q w e)
answer_apart (Accepted q) (Refused s) e = let o : ◌≡◌ {A = ℕ} 0 1 = cc in absurd (omega arith)
answer_apart (Refused r) (Accepted w) e = let o : ◌≡◌ {A = ℕ} 0 1 = cc in absurd (omega arith)
answer_apart (Refused r) (Refused s) e =
    let t : told_refusal r ≡ told_refusal s = cc in
    ap Refused (refusal_apart r s t)
