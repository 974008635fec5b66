-- What a caller gets in hand of an accepted request: demand 3, "the answer's kind, numbers, names, keys and cookies".
use Rattle.std.specs.Prelude.{ℕ, ◌/◌, List, Bool, length, take, drop}
use Rattle.wire.specs.Bytes.{number_at, part_at}
use Rattle.layout.specs.declared.Part.{Part}
use Rattle.request.specs.Request as form
use Rattle.request.specs.declared.Request.{Request}
use Rattle.request.specs.declared.Request.TheVariants.{KeyExchange, FixedKey, Support}
use Rattle.places.specs.Places.{entries_from}

-- bytes and numbers, and no place; the case is the request's kind
pub data Shown : Type 0 where
  -- protocols, algorithms, how many names are denied, and the names in their order
  key_exchange : List ℕ → List ℕ → ℕ → List (List ℕ) → Shown
  -- authentication, the keys from client to server and from server to client, algorithm, protocol, and keep-alive
  fixed_key : List ℕ → List ℕ → List ℕ → ℕ → ℕ → Bool → Shown
  -- authentication, whether protocols and algorithms are wanted, and keep-alive
  support : List ℕ → Bool → Bool → Bool → Shown

-- a part of the message, as record::Part::of gives it
abbrev pub bytes_at : List ℕ → Part → List ℕ
bytes_at m p = part_at m p.start p.len

-- of a message, the table after the call, and the request that the call answered; the names as places::entry gives them
abbrev pub handed_out : List ℕ → List ℕ → Request → Shown
handed_out m table (KeyExchange p a d) = key_exchange (bytes_at m p) (bytes_at m a) d (entries_from m table 0 d)
handed_out m table (FixedKey u c s a p k) = fixed_key (bytes_at m u) (bytes_at m c) (bytes_at m s) a.0 p.0 k
handed_out m table (Support u p a k) = support (bytes_at m u) p a k

-- what is in hand, from the bodies that the definition shows (request/specs/Request.antt): the keys are the halves of the key record's body
abbrev pub in_hand : form.Form (List ℕ) → Shown
in_hand (form.key_exchange p a d) = key_exchange p a (length d) d
in_hand (form.fixed_key u x a p k) =
    fixed_key u (take (length x / 2) x) (take (length x / 2) (drop (length x / 2) x)) (number_at a 0) (number_at p 0) k
in_hand (form.support u p a k) = support u p a k
