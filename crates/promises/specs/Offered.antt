-- A reply answers what was asked: 02, order 3, "RFC 8915 wants a reply's protocols among those requested and its algorithm among those offered", of any reader of replies, as its
-- caller sees it (Demand3.antt). Proved of calls by their own contracts: proofs/Offered.antt of the whole reader and of the call that a host links, Pieces.antt and
-- PiecesFace.antt of a read fed in pieces.
use Rattle.std.specs.Prelude.{ℕ, ◌≡◌, List, [], true, false, take}
use Rattle.nts.specs.Refusal.{Beside, protocol, algorithm, Refused}
use Rattle.layout.specs.declared.Profile.{Profile}
use Rattle.walk.specs.Walk.{walk}
use Rattle.walk.specs.Found.{place_of}
use Rattle.walk.specs.Judge.{Terms, room_for}
use Rattle.reply.specs.Reply.{reader, Told, refused_with, told_by, reply_of, Early, Late, named_by}
use Rattle.promises.specs.HandedReply.{Shown, reply}
use Rattle.promises.specs.Demand3.{Reader}

-- what is in hand of an accepted reply names a protocol and an algorithm
abbrev pub protocol_in : Shown → ℕ
protocol_in (reply p a s t k n c) = p

abbrev pub algorithm_in : Shown → ℕ
algorithm_in (reply p a s t k n c) = a

-- and both are among those that were offered, by the lists that the call which accepted was lent
pub record Answers (R : Reader Shown) : Type 1 where
  pub protocol : (c : R.Call) (s : Shown) → R.Accepts c s → (R.under c).terms.protocols (protocol_in s) ≡ true
  pub algorithm : (c : R.Call) (s : Shown) → R.Accepts c s → (R.under c).terms.algorithms (algorithm_in s) ≡ true

-- ---- what the order changes, in every profile

-- a message m, read in the profile P, cut after n bytes and under x; and by one to whom every number was offered, which is as 01 reads it
abbrev pub said : Profile → List ℕ → ℕ → Terms → Told
said P m n x = told_by m (reply_of P m n x)

abbrev pub before : Profile → List ℕ → ℕ → Terms → Told
before P m n x = told_by m (reply_of P m n (room_for x.room))

-- 17 with what is beside it, at the place of the end record
abbrev pub seventeen : Profile → List ℕ → ℕ → Beside → Told
seventeen P m n b = refused_with (record { number = 17; beside = b; place = place_of (walk (reader P) [] 0 0 (take n m)) })

pub data Corrected (P : Profile) (m : List ℕ) (n : ℕ) (x : Terms) : Type 0 where
  -- what is decided before 17 is as it was, whatever was offered
  early : (r : Refused) → Early r → before P m n x ≡ refused_with r → said P m n x ≡ refused_with r → Corrected P m n x
  -- where both numbers that the reply names were offered, the answer is as it was
  offered : x.protocols (named_by P 1 m n) ≡ true → x.algorithms (named_by P 4 m n) ≡ true → said P m n x ≡ before P m n x → Corrected P m n x
  -- where it was 15, 7 or a reply: 17 with the protocol that was not offered; or that was, and 17 with the algorithm that was not
  no_protocol : Late (before P m n x) → x.protocols (named_by P 1 m n) ≡ false → said P m n x ≡ seventeen P m n (protocol (named_by P 1 m n)) → Corrected P m n x
  no_algorithm : Late (before P m n x) → x.protocols (named_by P 1 m n) ≡ true → x.algorithms (named_by P 4 m n) ≡ false
      → said P m n x ≡ seventeen P m n (algorithm (named_by P 4 m n)) → Corrected P m n x
