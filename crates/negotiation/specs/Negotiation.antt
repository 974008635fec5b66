-- The choice of a protocol and an algorithm: 01, "Choosing and replying".
use Rattle.std.specs.Prelude.{ℕ, ◌%◌, List, [], ◌∷◌, Bool, false, cond, ◌||◌, length, eqb}
use Rattle.wire.specs.Bytes.{number_at}
use Rattle.nts.specs.Refusal.{number_of, Beside, nothing, beside_of}
use Rattle.negotiation.specs.declared.Choice.{Choice}
use Rattle.negotiation.specs.declared.Choice.TheVariants as choice
use Rattle.negotiation.specs.declared.ProtocolChoice.{ProtocolChoice}
use Rattle.negotiation.specs.declared.ProtocolChoice.TheVariants as protocol

-- a client's list is bytes, two a number, high byte first
abbrev pub numbers_of : List ℕ → List ℕ
numbers_of [] = []
numbers_of (a ∷ []) = []
numbers_of (a ∷ b ∷ s) = number_at (a ∷ b ∷ []) 0 ∷ numbers_of s

-- it has an odd byte length
unfoldable pub is_odd : List ℕ → Bool
is_odd s = eqb (length s % 2) 1

-- a list holds a number
abbrev pub holds : List ℕ → ℕ → Bool
holds [] n = false
holds (x ∷ l) n = eqb x n || holds l n

pub data Common : Type 0 where
  none : Common
  common : ℕ → Common

-- the first number in the client's list that the server's own list holds
abbrev pub first_common : List ℕ → List ℕ → Common
first_common [] own = none
first_common (n ∷ l) own = cond (holds own n) (common n) (first_common l own)

-- ---- what is answered

pub data Told : Type 0 where
  chosen : ℕ → ℕ → Told
  refused : ℕ → Beside → Told

-- the protocol is common: then the algorithm, and 14 where there is none
abbrev pub with_algorithm : ℕ → Common → Told
with_algorithm p none = refused 14 nothing
with_algorithm p (common a) = chosen p a

-- first the protocol, and 13 where there is none
abbrev pub with_protocol : Common → Common → Told
with_protocol none a = refused 13 nothing
with_protocol (common p) a = with_algorithm p a

-- after 9 for a client's list of an odd byte length
unfoldable pub choose : List ℕ → List ℕ → List ℕ → List ℕ → Told
choose protocols algorithms own_protocols own_algorithms =
    cond (is_odd protocols || is_odd algorithms)
    (refused 9 nothing)
    (with_protocol (first_common (numbers_of protocols) own_protocols) (first_common (numbers_of algorithms) own_algorithms))

-- what each case of the answer says
abbrev pub told_choice : Choice → Told
told_choice (choice.Chosen x) = chosen x.protocol.0 x.algorithm.0
told_choice (choice.Refused e) = refused (number_of e) (beside_of e)

-- ---- the protocol alone, which a reply without an algorithm names

pub data Protocol : Type 0 where
  agreed : ℕ → Protocol
  refused_with : ℕ → Beside → Protocol

abbrev pub protocol_from : Common → Protocol
protocol_from none = refused_with 13 nothing
protocol_from (common p) = agreed p

-- after 9 for a client's list of an odd byte length
unfoldable pub choose_protocol : List ℕ → List ℕ → Protocol
choose_protocol protocols own = cond (is_odd protocols) (refused_with 9 nothing) (protocol_from (first_common (numbers_of protocols) own))

abbrev pub told_protocol : ProtocolChoice → Protocol
told_protocol (protocol.Chosen p) = agreed p.0
told_protocol (protocol.Refused e) = refused_with (number_of e) (beside_of e)
