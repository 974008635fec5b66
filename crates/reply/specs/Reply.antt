-- A reply to a key-exchange request: 01, "Choosing and replying", "The reply reader goes in record order"; and 02, order 3, "a reply must answer what we asked", in a profile: order 5.
use Rattle.std.specs.Prelude.{ℕ, ◌≡◌, List, [], ◌∷◌, map, Bool, cond, not, ◌&&◌, ◌||◌, ◌⊎◌, length, take, ltb, eqb}
use Rattle.wire.specs.Bytes.{number_at, part_at}
use Rattle.wire.specs.Over.{over}
use Rattle.nts.specs.Refusal.{nothing, code, protocol, algorithm, Refused, told_refusal}
use Rattle.negotiation.specs.Negotiation.{holds}
use Rattle.layout.specs.declared.Part.{Part}
use Rattle.layout.specs.declared.Profile.{Profile}
use Rattle.walk.specs.Walk.{Act, notes, refuses, Reader, Sighting, walked}
use Rattle.walk.specs.Judge as judge
use Rattle.walk.specs.Judge.{Verdict, no, yes, Terms, Judge, some, with_first, body_in, part_of, read_by}
use Rattle.walk.specs.Table.{table_reader}
use Rattle.walk.specs.Rules as rule
use Rattle.walk.specs.Found.{place_of, entry_in}
use Rattle.walk.specs.Finding.{found_by}
use Rattle.places.specs.Places.{cells, room_of}
use Rattle.reply.specs.declared.KeyExchangeResponse.{KeyExchangeResponse}
use Rattle.reply.specs.declared.Server.{Server}
use Rattle.reply.specs.declared.Server.TheVariants as server
use Rattle.reply.specs.declared.Port.{Port}
use Rattle.reply.specs.declared.Port.TheVariants as port
use Rattle.reply.specs.declared.Answer.{Answer}
use Rattle.reply.specs.declared.Judged.{Judged}
use Rattle.reply.specs.declared.Named.{Named}
use Rattle.reply.specs.declared.Answer.TheVariants as answer

-- ---- in record order

-- 11 for an error and 12 for a warning, with its code; 4 for a list longer than one, and for kinds 9, 10, 12, 13, 14; any other known record
-- is noted
unfoldable pub act : ℕ → List ℕ → Act
act k b =
    cond (eqb k 2) (refuses 11 (code (number_at b 0)))
    (cond (eqb k 3) (refuses 12 (code (number_at b 0)))
    (cond ((eqb k 1 || eqb k 4) && ltb 2 (length b)) (refuses 4 nothing)
    (cond (eqb k 9 || eqb k 10 || eqb k 12 || eqb k 13 || eqb k 14) (refuses 4 nothing)
    notes)))

-- 4 for a second 1, 4, 6 or 7
unfoldable pub once : ℕ → Bool
once k = eqb k 1 || eqb k 4 || eqb k 6 || eqb k 7

abbrev pub reader : Profile → Reader
reader = table_reader act once

-- the same as the table of a walk, by kind
abbrev pub rules : List ℕ
rules =
    rule.ending  -- 0 end
    ∷ rule.single  -- 1 protocols
    ∷ rule.told  -- 2 error
    ∷ rule.told  -- 3 warning
    ∷ rule.single  -- 4 algorithms
    ∷ rule.noted  -- 5 cookie
    ∷ rule.once  -- 6 server
    ∷ rule.once  -- 7 port
    ∷ rule.noted  -- 8 keep-alive
    ∷ rule.refused  -- 9 supported protocols
    ∷ rule.refused  -- 10 supported algorithms
    ∷ rule.refused  -- 11, which is unknown and not asked
    ∷ rule.refused  -- 12 keys
    ∷ rule.refused  -- 13 denied
    ∷ rule.refused  -- 14 authentication
    ∷ []

-- ---- after the end

-- what may have been sent or not
pub data Sent (A : Type 0) : Type 0 where
  not_sent : Sent A
  sent : A → Sent A

abbrev pub map_sent : {A B : Type 0} → (A → B) → Sent A → Sent B
map_sent f not_sent = not_sent
map_sent f (sent x) = sent (f x)

abbrev pub first_sent : {A : Type 0} → List A → Sent A
first_sent [] = not_sent
first_sent (x ∷ l) = sent x

-- an accepted reply, over what stands for a body: the protocol's list, the algorithm's list, server and port, each if sent, whether keep-alive
-- was there, and the cookies in message order
pub data Form (A : Type 0) : Type 0 where
  reply : A → A → Sent A → Sent A → Bool → List A → Form A

abbrev pub map_form : {A B : Type 0} → (A → B) → Form A → Form B
map_form f (reply p a s t k c) = reply (f p) (f a) (map_sent f s) (map_sent f t) k (map f c)

-- no list 1 is 4, empty is 13, no list 4 is 4, empty is 14; 17 "for a protocol and then for an algorithm not offered, after 14 and before 15"; no cookie is 15, more
-- cookies than table room is 7
unfoldable pub decide : Terms → {A : Type 0} → (A → List ℕ) → (ℕ → List A) → Verdict Form A
decide x val l =
    with_first (l 1) (no 4 nothing)
    (λ p. cond (eqb (length (val p)) 0) (no 13 nothing)
    (with_first (l 4) (no 4 nothing)
    (λ a. cond (eqb (length (val a)) 0) (no 14 nothing)
    (cond (not (x.protocols (number_at (val p) 0))) (no 17 (protocol (number_at (val p) 0)))
    (cond (not (x.algorithms (number_at (val a) 0))) (no 17 (algorithm (number_at (val a) 0)))
    (cond (eqb (length (l 5)) 0) (no 15 nothing)
    (cond (ltb x.room (length (l 5))) (no 7 nothing)
    (yes (reply p a (first_sent (l 6)) (first_sent (l 7)) (some (l 8)) (l 5))))))))))

abbrev pub judging : Judge
judging = record { Q = Form; map_q = λ {A} {B} f q. map_form f q; decide = λ u {A} val l. decide u.terms val l }

-- a message m read in a profile as if it were cut after n bytes, under what is lent beside it
unfoldable pub reply_of : Profile → List ℕ → ℕ → Terms → judge.Answer Form
reply_of P m n x = read_by reader judging m (record { profile = P; limit = n; terms = x })

-- "the two offered lists, as 16-bit cells": a number is among those offered if the list holds it. The table has room for so many cookies
abbrev pub offering : List ℕ → List ℕ → ℕ → Terms
offering protocols algorithms room = record { room = room; protocols = holds protocols; algorithms = holds algorithms }

-- ---- what is answered

-- protocol, algorithm, the server's name as a part of the message and the port, each if sent, keep-alive, and the cookie count
pub data Told : Type 0 where
  reply_is : ℕ → ℕ → Sent Part → Sent ℕ → Bool → ℕ → Told
  refused_with : Refused → Told

abbrev pub told_form : List ℕ → Form Sighting → Told
told_form m (reply p a s t k c) =
    reply_is (number_at (body_in m p) 0) (number_at (body_in m a) 0) (map_sent part_of s) (map_sent (λ (x : Sighting). number_at (body_in m x) 0) t) k (length c)

abbrev pub told_by : List ℕ → judge.Answer Form → Told
told_by m (judge.refused r) = refused_with r
told_by m (judge.accepted q) = told_form m q

-- what each case of the answer says
abbrev pub told_server : Server → Sent Part
told_server (server.Sent p) = sent p
told_server server.NotSent = not_sent

abbrev pub told_port : Port → Sent ℕ
told_port (port.Sent n) = sent n
told_port port.NotSent = not_sent

abbrev pub told_reply : KeyExchangeResponse → Told
told_reply x = reply_is x.protocol.0 x.algorithm.0 (told_server x.server) (told_port x.port) x.keep_alive x.cookies

abbrev pub told_answer : Answer → Told
told_answer (answer.Accepted x) = told_reply x
told_answer (answer.Refused r) = refused_with (told_refusal r)

-- decided before what was offered is asked: a refusal other than 15 and 7
abbrev pub Early : Refused → Type 0
Early r = (r.number ≡ 15 → ⊥) × (r.number ≡ 7 → ⊥)

-- decided after that: 15, 7 or a reply
abbrev pub Late : Told → Type 0
Late t = (r : Refused) → t ≡ refused_with r → (r.number ≡ 15) ⊎ (r.number ≡ 7)

-- ---- the table of cookies

-- only an accepted reply writes any
abbrev pub cookies_of : judge.Answer Form → List Sighting
cookies_of (judge.refused r) = []
cookies_of (judge.accepted (reply p a s t k c)) = c

unfoldable pub table_after : judge.Answer Form → List ℕ → List ℕ
table_after x table = over (cells (cookies_of x)) table

-- ---- the numbers that a reply names, whatever was offered

-- in the first body of a kind that the walk met; 0 where there is none
unfoldable pub named_by : Profile → ℕ → List ℕ → ℕ → ℕ
named_by P k m n = number_at (part_at m (entry_in (found_by (reader P) m n).cells k).start (entry_in (found_by (reader P) m n).cells k).len) 0

-- ---- the contracts

-- what is answered under x, and the place at which the walk stopped
pub record Judges (P : Profile) (m : List ℕ) (n : ℕ) (x : Terms) (r : Judged) : Type 0 where
  pub says : told_answer r.answer ≡ told_by m (reply_of P m n x)
  pub stopped : r.place ≡ place_of (walked (reader P) (take n m))

-- what the reader answers to one that offered these protocols and algorithms, and the table afterwards
pub record Reads (P : Profile) (m : List ℕ) (n : ℕ) (protocols algorithms table : List ℕ) (r : Answer) (table' : List ℕ) : Type 0 where
  pub says : told_answer r ≡ told_by m (reply_of P m n (offering protocols algorithms (room_of table)))
  pub left : table' ≡ table_after (reply_of P m n (offering protocols algorithms (room_of table))) table

-- the two numbers that a reply names
abbrev pub Names : Profile → List ℕ → ℕ → Named → Type 0
Names P m n r = (r.protocol.0 ≡ named_by P 1 m n) × (r.algorithm.0 ≡ named_by P 4 m n)
