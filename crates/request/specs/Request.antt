-- A request: 01, "From records to a request", in a profile: 02, order 5.
use Rattle.std.specs.Prelude.{ℕ, ◌+◌, ◌/◌, ◌≡◌, List, [], ◌∷◌, map, Bool, cond, ◌&&◌, ◌||◌, length, ltb, eqb}
use Rattle.wire.specs.Bytes.{number_at}
use Rattle.wire.specs.Over.{over}
use Rattle.nts.specs.Refusal.{nothing, code, Refused, told_refusal}
use Rattle.nts.specs.Algorithm.{Described, known, unknown, describe}
use Rattle.layout.specs.declared.Part.{Part}
use Rattle.layout.specs.declared.Profile.{Profile}
use Rattle.layout.specs.declared.Profile.TheVariants.{Usual}
use Rattle.walk.specs.Walk.{Act, passes, notes, refuses, Reader, Sighting}
use Rattle.walk.specs.Judge as judge
use Rattle.walk.specs.Judge.{Verdict, no, yes, room_for, Judge, some, with_first, body_in, part_of, read_by}
use Rattle.walk.specs.Table.{table_reader}
use Rattle.walk.specs.Rules as rule
use Rattle.walk.specs.Finding.{Found, found_by, same_found, told_finding}
use Rattle.places.specs.Places.{cells, room_of}
use Rattle.request.specs.declared.Request.{Request}
use Rattle.request.specs.declared.Request.TheVariants.{KeyExchange, FixedKey, Support}
use Rattle.request.specs.declared.Answer.{Answer}
use Rattle.request.specs.declared.Judged.{Judged}
use Rattle.request.specs.declared.Answer.TheVariants.{Accepted}
use Rattle.request.specs.declared.Answer.TheVariants as answer

-- ---- in record order

-- error, warning and cookie are 4; server and port are passed over; any other known record is noted
unfoldable pub act : ℕ → List ℕ → Act
act k b = cond (eqb k 2 || eqb k 3 || eqb k 5) (refuses 4 nothing) (cond (eqb k 6 || eqb k 7) passes notes)

-- a second protocol list, algorithm list, key record, supported list of one sort or authentication is 4
unfoldable pub once : ℕ → Bool
once k = eqb k 1 || eqb k 4 || eqb k 9 || eqb k 10 || eqb k 12 || eqb k 14

abbrev pub reader : Profile → Reader
reader = table_reader act once

-- the same as the table of a walk, by kind
abbrev pub rules : List ℕ
rules =
    rule.ending  -- 0 end
    ∷ rule.once  -- 1 protocols
    ∷ rule.refused  -- 2 error
    ∷ rule.refused  -- 3 warning
    ∷ rule.once  -- 4 algorithms
    ∷ rule.refused  -- 5 cookie
    ∷ rule.passed  -- 6 server
    ∷ rule.passed  -- 7 port
    ∷ rule.noted  -- 8 keep-alive
    ∷ rule.once  -- 9 supported protocols
    ∷ rule.once  -- 10 supported algorithms
    ∷ rule.refused  -- 11, which is unknown and not asked
    ∷ rule.once  -- 12 keys
    ∷ rule.noted  -- 13 denied
    ∷ rule.once  -- 14 authentication
    ∷ []

-- ---- after the end

-- an accepted request, over what stands for a body
pub data Form (A : Type 0) : Type 0 where
  -- protocols, algorithms, and the denied names in message order
  key_exchange : A → A → List A → Form A
  -- authentication, keys, the algorithm's list, the protocol's list, and keep-alive
  fixed_key : A → A → A → A → Bool → Form A
  -- authentication, whether protocols and algorithms are wanted, and keep-alive
  support : A → Bool → Bool → Bool → Form A

abbrev pub map_form : {A B : Type 0} → (A → B) → Form A → Form B
map_form f (key_exchange p a d) = key_exchange (f p) (f a) (map f d)
map_form f (fixed_key u x a p k) = fixed_key (f u) (f x) (f a) (f p) k
map_form f (support u p a k) = support (f u) p a k

-- algorithm 15 needs halves of 32 bytes and 17 halves of 64, otherwise 6; another algorithm is 5, with its number
unfoldable pub keyed : {A : Type 0} → Described → ℕ → ℕ → Form A → Verdict Form A
keyed unknown n half f = no 5 (code n)
keyed (known m size) n half f = cond (eqb half size) (yes f) (no 6 nothing)

-- 2. each list of one entry, otherwise 4; then the algorithm and the keys
unfoldable pub fixed_by : {A : Type 0} → (A → List ℕ) → A → A → A → A → Bool → Verdict Form A
fixed_by val u x a p k =
    cond (eqb (length (val p)) 2 && eqb (length (val a)) 2)
    (keyed (describe (number_at (val a) 0)) (number_at (val a) 0) (length (val x) / 2) (fixed_key u x a p k))
    (no 4 nothing)

-- 1. with either supported list: authentication, and no key, protocol or algorithm record
abbrev pub support_by : {A : Type 0} → (ℕ → List A) → Verdict Form A
support_by l =
    with_first (l 14) (no 4 nothing)
    (λ u. cond (some (l 12) || some (l 1) || some (l 4)) (no 4 nothing) (yes (support u (some (l 9)) (some (l 10)) (some (l 8)))))

-- 2. with keys x: authentication and both lists
abbrev pub keys_by : {A : Type 0} → (A → List ℕ) → (ℕ → List A) → A → Verdict Form A
keys_by val l x =
    with_first (l 14) (no 4 nothing)
    (λ u. with_first (l 1) (no 4 nothing)
    (λ p. with_first (l 4) (no 4 nothing)
    (λ a. fixed_by val u x a p (some (l 8)))))

-- 3. otherwise both lists, even empty ones; then 7 if there are more denied names than room
abbrev pub exchange_by : {A : Type 0} → ℕ → (ℕ → List A) → Verdict Form A
exchange_by room l =
    with_first (l 1) (no 4 nothing)
    (λ p. with_first (l 4) (no 4 nothing)
    (λ a. cond (ltb room (length (l 13))) (no 7 nothing) (yes (key_exchange p a (l 13)))))

unfoldable pub decide : ℕ → {A : Type 0} → (A → List ℕ) → (ℕ → List A) → Verdict Form A
decide room val l =
    cond (some (l 9) || some (l 10))
    (support_by l)
    (with_first (l 12) (exchange_by room l) (λ x. keys_by val l x))

abbrev pub judging : Judge
judging = record { Q = Form; map_q = λ {A} {B} f q. map_form f q; decide = λ u {A} val l. decide u.terms.room val l }

-- a message m read in a profile as if it were cut after n bytes, with a table that has room for so many names
unfoldable pub request : Profile → List ℕ → ℕ → ℕ → judge.Answer Form
request P m n room = read_by reader judging m (record { profile = P; limit = n; terms = room_for room })

-- ---- what is answered

pub data Told : Type 0 where
  key_exchange_is : Part → Part → ℕ → Told
  fixed_key_is : Part → Part → Part → ℕ → ℕ → Bool → Told
  support_is : Part → Bool → Bool → Bool → Told
  refused_with : Refused → Told

-- a key record's halves, client to server first
abbrev pub first_half : Sighting → Part
first_half x = record { start = x.start; len = x.len / 2 }

abbrev pub second_half : Sighting → Part
second_half x = record { start = x.start + x.len / 2; len = x.len / 2 }

abbrev pub told_form : List ℕ → Form Sighting → Told
told_form m (key_exchange p a d) = key_exchange_is (part_of p) (part_of a) (length d)
told_form m (fixed_key u x a p k) = fixed_key_is (part_of u) (first_half x) (second_half x) (number_at (body_in m a) 0) (number_at (body_in m p) 0) k
told_form m (support u p a k) = support_is (part_of u) p a k

abbrev pub told_by : List ℕ → judge.Answer Form → Told
told_by m (judge.refused r) = refused_with r
told_by m (judge.accepted q) = told_form m q

-- what each case of the answer says; bodies, names and keys are parts of the message
abbrev pub told_request : Request → Told
told_request (KeyExchange p a d) = key_exchange_is p a d
told_request (FixedKey u c s a p k) = fixed_key_is u c s a.0 p.0 k
told_request (Support u p a k) = support_is u p a k

abbrev pub told_answer : Answer → Told
told_answer (Accepted q) = told_request q
told_answer (answer.Refused r) = refused_with (told_refusal r)

-- ---- the table of names

-- only an accepted key-exchange request writes any
abbrev pub names_of : judge.Answer Form → List Sighting
names_of (judge.refused r) = []
names_of (judge.accepted (key_exchange p a d)) = d
names_of (judge.accepted (fixed_key u x a p k)) = []
names_of (judge.accepted (support u p a k)) = []

unfoldable pub table_after : judge.Answer Form → List ℕ → List ℕ
table_after x table = over (cells (names_of x)) table

-- ---- deciding from a finding: 02, order 2

-- 9, first of all, for a finding that is not what the walk gives over the message under the finding's own limit; otherwise the reader's answer under that
-- limit. Both are of the usual profile
unfoldable pub decided : Found → List ℕ → ℕ → judge.Answer Form
decided f m room =
    cond (same_found (found_by (reader Usual) m f.limit) f)
    (request Usual m f.limit room)
    (judge.refused (record { number = 9; beside = nothing; place = 0 }))

-- ---- the contracts

-- what is answered, and the table afterwards
pub record Answers (m : List ℕ) (x : judge.Answer Form) (table : List ℕ) (r : Answer) (table' : List ℕ) : Type 0 where
  pub says : told_answer r ≡ told_by m x
  pub left : table' ≡ table_after x table

-- by the reader: of a message cut after n bytes
abbrev pub Reads : Profile → List ℕ → ℕ → List ℕ → Answer → List ℕ → Type 0
Reads P m n table r table' = Answers m (request P m n (room_of table)) table r table'

-- by the second call: from a finding
abbrev pub Decides : Found → List ℕ → List ℕ → Answer → List ℕ → Type 0
Decides f m table r table' = Answers m (decided f m (room_of table)) table r table'

-- what is answered with room for so many names, and the finding
pub record Judges (P : Profile) (m : List ℕ) (n room : ℕ) (r : Judged) : Type 0 where
  pub says : told_answer r.answer ≡ told_by m (request P m n room)
  pub found : told_finding r.finding ≡ found_by (reader P) m n
