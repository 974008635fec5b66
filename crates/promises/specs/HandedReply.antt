-- What a caller gets in hand of an accepted reply: demand 3, "the answer's kind, numbers, names, keys and cookies".
use Rattle.std.specs.Prelude.{ℕ, List, Bool, length}
use Rattle.wire.specs.Bytes.{number_at}
use Rattle.places.specs.Places.{entries_from}
use Rattle.reply.specs.Reply as form
use Rattle.reply.specs.Reply.{Sent, map_sent, told_server, told_port}
use Rattle.reply.specs.declared.KeyExchangeResponse.{KeyExchangeResponse}
use Rattle.promises.specs.Handed.{bytes_at}

-- bytes and numbers, and no place: protocol, algorithm, the server's name and the port, each if sent, keep-alive, how many cookies there are, and
-- the cookies in their order
pub data Shown : Type 0 where
  reply : ℕ → ℕ → Sent (List ℕ) → Sent ℕ → Bool → ℕ → List (List ℕ) → Shown

-- of a message, the table after the call, and the reply that the call answered; the cookies as places::entry gives them
abbrev pub handed_out : List ℕ → List ℕ → KeyExchangeResponse → Shown
handed_out m table x =
    reply x.protocol.0 x.algorithm.0 (map_sent (bytes_at m) (told_server x.server)) (told_port x.port) x.keep_alive x.cookies
    (entries_from m table 0 x.cookies)

-- what is in hand, from the bodies that the definition shows (reply/specs/Reply.antt)
abbrev pub in_hand : form.Form (List ℕ) → Shown
in_hand (form.reply p a s t k c) = reply (number_at p 0) (number_at a 0) s (map_sent (λ (b : List ℕ). number_at b 0) t) k (length c) c
