-- What strictness gives a plant: 02, order 5. Of a message that the strict reader accepts: it is what RFC 8915 allows, in its words, with its sections; and how the usual reader
-- reads it, which is alike unless it holds a record of a kind that is not the RFC's. proofs/Strictness.antt proves it of requests and of replies.
use Rattle.std.specs.Prelude.{ℕ, ◌+◌, ◌≤◌, ◌≡◌, List, ◌∷◌, ◌++◌, Bool, true, not, ◌&&◌, ◌⊎◌, length, take}
use Rattle.utf8.specs.Ascii.{is_ascii}
use Rattle.nts.specs.Refusal.{Refused}
use Rattle.layout.specs.Profile.{knows}
use Rattle.layout.specs.declared.Profile.TheVariants.{Usual, Strict}
use Rattle.record.specs.Record.{kind, critical, there}
use Rattle.walk.specs.Walk.{Sighting}
use Rattle.walk.specs.Judge.{Answer, refused, accepted}
use Rattle.walk.specs.Message.{Record, End, Each, flat, Parts}
use Rattle.request.specs.Request as requests
use Rattle.reply.specs.Reply as replies

-- ---- what RFC 8915 allows

-- of a message m inside the limit n, as records and an end record
pub record Allowed (m : List ℕ) (n : ℕ) (p : Parts Record End m n) : Type 0 where
  -- 4.1.2, 4.1.3, 4.1.4: "critical": the bit of kinds 1, 2 and 3 is set
  pub bits : Each (λ c. kind c ≤ 3 → critical c ≡ true) p.front
  -- 4.1.7: a server name is ASCII
  pub names : Each (λ c. kind c ≡ 6 → is_ascii (there c) ≡ true) p.front
  -- 4.1.1: the end record's bit is set, its body is empty, and it is the final one: no byte follows it inside the limit
  pub end_bit : critical p.last ≡ true
  pub end_empty : length p.last ≡ 4
  pub end_final : length (take n m) ≡ length (flat p.front) + length p.last

-- ---- kinds that are not the RFC's

-- those that the usual profile knows and the strict one does not: 8, 9, 10, 12, 13 and 14
unfoldable pub is_own : ℕ → Bool
is_own k = knows Usual k && not (knows Strict k)

-- at a place of a message stands a record of such a kind
pub record OwnAt (cs : List (List ℕ)) (place : ℕ) : Type 0 where
  pub before : List (List ℕ)
  pub one : List ℕ
  pub after : List (List ℕ)
  pub front : cs ≡ before ++ (one ∷ after)
  pub own : is_own (kind one) ≡ true
  pub stands : place ≡ length (flat before)

-- the numbers that are told at such a record: "bytes missing", "ill-formed" and "is 4"
abbrev pub AtOwn : ℕ → Type 0
AtOwn n = (n ≡ 1) ⊎ ((n ≡ 2) ⊎ (n ≡ 4))

-- ---- how the usual reader reads what the strict one accepts

-- a request with the lists p and a: refused at such a record; refused at its end record with 4, 5, 6 or 7; a key exchange with the same lists, and with denied names; or a
-- request with keys, with the same lists
pub data UsualRequest (cs : List (List ℕ)) (p a : Sighting) : Answer requests.Form → Type 0 where
  at_own : (r : Refused) → OwnAt cs r.place → AtOwn r.number → UsualRequest cs p a (refused r)
  at_end : (r : Refused) → r.place ≡ length (flat cs) → (4 ≤ r.number) × (r.number ≤ 7) → UsualRequest cs p a (refused r)
  exchange : (d : List Sighting) → UsualRequest cs p a (accepted (requests.key_exchange p a d))
  with_keys : (u x : Sighting) (k : Bool) → UsualRequest cs p a (accepted (requests.fixed_key u x a p k))

-- a reply: refused at such a record; or the same reply, which may tell keep-alive
pub data UsualReply (cs : List (List ℕ)) (p a : Sighting) (s t : replies.Sent Sighting) (c : List Sighting) : Answer replies.Form → Type 0 where
  at_own : (r : Refused) → OwnAt cs r.place → AtOwn r.number → UsualReply cs p a s t c (refused r)
  same : (k : Bool) → UsualReply cs p a s t c (accepted (replies.reply p a s t k c))
