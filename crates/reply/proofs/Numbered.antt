-- A reply is refused with 1, 2, 3, 4, 7, 11, 12, 13, 14, 15, 17, in the strict profile with 18 too, and no other number; 11, 12 and 17 alone have a number beside them, of sixteen bits, where the message is bytes.
-- Assumes nothing.
use mathlib.Core.Path.{◌≡◌, refl}
use mathlib.Core.List.{List}
use mathlib.Core.Bool.{true, not, ◌&&◌, ◌||◌}
use Prim.Native.Nat.{ℕ, ◌<◌}
use lib.ListN.{length}
use lib.Dec.{ltb, eqb}
use Rattle.wire.specs.Bytes.{number_at}
use Rattle.wire.proofs.Bytes.{Small, small_part, number_small}
use Rattle.nts.specs.Refusal.{nothing, code, Refused}
use Rattle.layout.specs.declared.Profile.{Profile}
use Rattle.walk.specs.Walk.{notes, Sighting}
use Rattle.walk.specs.Judge.{Terms, body_in, refused}
use Rattle.walk.proofs.Numbered.{coded, Numbered, bare, ActBy, VerdictBy, Barred, act_if, act_by_lem, final_by, verdict_if, verdict_first, refused_numbered}
use Rattle.reply.specs.Reply.{act, reader, decide, judging, reply_of}

-- P says of a number that it may be told: what holds of these eleven, and of 18 where the profile has it, holds of the number of every refusal
module _ (P : ℕ → Type 0) (p : P 1 × P 2 × P 3 × P 4 × P 7 × P 11 × P 12 × P 13 × P 14 × P 15 × P 17) where
  act_numbered : (k : ℕ) (b : List ℕ) → ActBy P b (act k b)
  unfolding act
  act_numbered k b =
      act_if P b (eqb k 2) _ _ (told 11 refl p.5)
      (act_if P b (eqb k 3) _ _ (told 12 refl p.6)
      (act_if P b ((eqb k 1 || eqb k 4) && ltb 2 (length b)) _ _ four
      (act_if P b (eqb k 9 || eqb k 10 || eqb k 12 || eqb k 13 || eqb k 14) _ notes four tt)))
    where
      four : Numbered P b 4 nothing
      four = bare P b 4 refl p.3

      told : (n : ℕ) → coded n ≡ true → P n → Numbered P b n (code (number_at b 0))
      told n f q = record { one = q; fits = f; beside = number_small b }

  decide_numbered : (m : List ℕ) (x : Terms) (l : ℕ → List Sighting) → VerdictBy P m (decide x (body_in m) l)
  unfolding decide
  decide_numbered m x l =
      verdict_first P m (l 1) _ _ (bare P m 4 refl p.3)
      (λ q. verdict_if P m (eqb (length (body_in m q)) 0) _ _ (bare P m 13 refl p.7)
      (verdict_first P m (l 4) _ _ (bare P m 4 refl p.3)
      (λ a. verdict_if P m (eqb (length (body_in m a)) 0) _ _ (bare P m 14 refl p.8)
      (verdict_if P m (not (x.protocols (number_at (body_in m q) 0))) _ _ (record { one = p.10; fits = refl; beside = named q })
      (verdict_if P m (not (x.algorithms (number_at (body_in m a) 0))) _ _ (record { one = p.10; fits = refl; beside = named a })
      (verdict_if P m (eqb (length (l 5)) 0) _ _ (bare P m 15 refl p.9)
      (verdict_if P m (ltb x.room (length (l 5))) _ _ (bare P m 7 refl p.4) tt)))))))
    where
      named : (b : Sighting) → Small m → number_at (body_in m b) 0 < 65536
      named b h = number_small (body_in m b) (small_part m b.len b.start h)

  pub reply_numbered : (X : Profile) → Barred P X → (m : List ℕ) (n : ℕ) (x : Terms) (r : Refused) → reply_of X m n x ≡ refused r → Numbered P m r.number r.beside
  unfolding reply_of
  reply_numbered X y m n x r e =
      refused_numbered P (p.0, p.1, p.3) (reader X) (act_by_lem P p.2 X y act act_numbered) (final_by P X y) judging m (record { profile = X; limit = n; terms = x }) (λ l. decide_numbered m x l) r e
