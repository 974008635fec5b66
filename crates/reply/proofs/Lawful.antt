-- The reply reader keeps the two laws that demand 3 asks of a reader, ends no message by itself, and notes every cookie.
-- Assumes nothing.
use mathlib.Core.Path.{◌≡◌, refl}
use mathlib.Core.List.{List, [], ◌∷◌, map}
use mathlib.Core.Bool.{Bool, true, false, cond, not, ◌&&◌, ◌||◌}
use Prim.Native.Nat.{ℕ}
use native.Mathlib.Omega.{arith}
use lib.ListN.{length, length-map}
use lib.Dec.{ltb, eqb}
use Rattle.wire.specs.Bytes.{number_at}
use Rattle.nts.specs.Refusal.{Beside, nothing, code}
use Rattle.layout.specs.declared.Profile.{Profile}
use Rattle.walk.specs.Walk.{ends, notes, refuses}
use Rattle.walk.specs.Judge.{Terms}
use Rattle.walk.proofs.Laws.{map_verdict, Lawful}
use Rattle.walk.proofs.Verdicts.{some_length, some_map, if_map, first_map}
use Rattle.reply.specs.Reply.{act, once, reader, map_sent, first_sent, decide, judging}

-- ---- kind 0 alone ends a message

refuses_not : (n : ℕ) (b : Beside) → refuses n b ≡ ends → ⊥
refuses_not n b e = let z : ◌≡◌ {A = ℕ} 0 1 = cc in omega arith

pub reply_goes : (k : ℕ) (b : List ℕ) → act k b ≡ ends → ⊥
unfolding act
reply_goes k b h = go (eqb k 2) (eqb k 3) ((eqb k 1 || eqb k 4) && ltb 2 (length b)) (eqb k 9 || eqb k 10 || eqb k 12 || eqb k 13 || eqb k 14) h
  where
    go : (e w l o : Bool) → cond e (refuses 11 (code (number_at b 0))) (cond w (refuses 12 (code (number_at b 0))) (cond l (refuses 4 nothing) (cond o (refuses 4 nothing) notes))) ≡ ends → ⊥
    go true w l o q = refuses_not 11 (code (number_at b 0)) q
    go false true l o q = refuses_not 12 (code (number_at b 0)) q
    go false false true o q = refuses_not 4 nothing q
    go false false false true q = refuses_not 4 nothing q
    go false false false false q = let z : ◌≡◌ {A = ℕ} 0 1 = cc in omega arith

-- ---- a verdict over bodies, and the same over what stands for them

sent_map : {A : Type 0} (f : A → List ℕ) (l : List A) → map_sent f (first_sent l) ≡ first_sent (map f l)
sent_map f [] = refl
sent_map f (x ∷ l) = refl

module _ {A : Type 0} (f : A → List ℕ) where
  decide_map : (x : Terms) (l : ℕ → List A) → map_verdict judging f (decide x f l) ≡ decide x (λ (b : List ℕ). b) (λ k. map f (l k))
  unfolding decide
  decide_map x l =
      simp (some_map f, length-map)
      (first_map judging f (l 1) _ _ _ _ refl
      (λ p. if_map judging f (eqb (length (f p)) 0) _ _ _ _ refl
      (first_map judging f (l 4) _ _ _ _ refl
      (λ a. if_map judging f (eqb (length (f a)) 0) _ _ _ _ refl
      (if_map judging f (not (x.protocols (number_at (f p) 0))) _ _ _ _ refl
      (if_map judging f (not (x.algorithms (number_at (f a) 0))) _ _ _ _ refl
      (if_map judging f (eqb (length (l 5)) 0) _ _ _ _ refl
      (if_map judging f (ltb x.room (length (l 5))) _ _ _ _ refl (rw (sent_map f (l 6), sent_map f (l 7)))))))))))

-- ---- the laws

pub reply_lawful : (P : Profile) → Lawful (reader P) judging
unfolding decide once
reply_lawful P = record {
  natural = λ u f l. decide_map f u.terms l;
  stable = λ u l l' h n. rw (h 1 refl, h 4 refl, h 5 refl, h 6 refl, h 7 refl, some_length (l 8) (l' 8) (n 8));
}
