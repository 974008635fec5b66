-- The request reader keeps the two laws that demand 3 asks of a reader, and ends no message by itself: kind 0 does.
-- Assumes nothing.
use mathlib.Core.Path.{◌≡◌, refl}
use mathlib.Core.List.{List, map}
use mathlib.Core.Bool.{Bool, true, false, cond, ◌&&◌, ◌||◌}
use Prim.Native.Nat.{ℕ, ◌/◌}
use native.Mathlib.Omega.{arith}
use lib.ListN.{length, length-map}
use lib.Dec.{ltb, eqb}
use Rattle.wire.specs.Bytes.{number_at}
use Rattle.nts.specs.Refusal.{nothing}
use Rattle.nts.specs.Algorithm.{Described, known, unknown, describe}
use Rattle.layout.specs.declared.Profile.{Profile}
use Rattle.walk.specs.Walk.{ends, passes, notes, refuses}
use Rattle.walk.specs.Judge.{Verdict, no, yes, some}
use Rattle.walk.proofs.Laws.{map_verdict, Lawful}
use Rattle.walk.proofs.Verdicts.{some_length, some_map, if_map, first_map}
use Rattle.request.specs.Request.{act, once, reader, Form, fixed_key, map_form, keyed, fixed_by, decide, judging}

-- ---- kind 0 alone ends a message

pub request_goes : (k : ℕ) (b : List ℕ) → act k b ≡ ends → ⊥
unfolding act
request_goes k b h = go (eqb k 2 || eqb k 3 || eqb k 5) (eqb k 6 || eqb k 7) h
  where
    go : (r p : Bool) → cond r (refuses 4 nothing) (cond p passes notes) ≡ ends → ⊥
    go true p e = let z : ◌≡◌ {A = ℕ} 0 1 = cc in omega arith
    go false true e = let z : ◌≡◌ {A = ℕ} 0 1 = cc in omega arith
    go false false e = let z : ◌≡◌ {A = ℕ} 0 1 = cc in omega arith

-- ---- a verdict over bodies, and the same over what stands for them

module _ {A : Type 0} (f : A → List ℕ) where
  abbrev over_bytes : Verdict Form A → Verdict Form (List ℕ)
  over_bytes v = map_verdict judging f v

  keyed_map : (d : Described) (n half : ℕ) (q : Form A) → over_bytes (keyed d n half q) ≡ keyed d n half (map_form f q)
  unfolding keyed
  keyed_map unknown n half q = refl
  keyed_map (known m size) n half q = if_map judging f (eqb half size) (yes q) (no 6 nothing) _ _ refl refl

  fixed_map : (u x a p : A) (k : Bool) → over_bytes (fixed_by f u x a p k) ≡ fixed_by (λ (b : List ℕ). b) (f u) (f x) (f a) (f p) k
  unfolding fixed_by
  fixed_map u x a p k =
      if_map judging f (eqb (length (f p)) 2 && eqb (length (f a)) 2) _ _ _ _
      (keyed_map (describe (number_at (f a) 0)) (number_at (f a) 0) (length (f x) / 2) (fixed_key u x a p k))
      refl

  decide_map : (room : ℕ) (l : ℕ → List A) → over_bytes (decide room f l) ≡ decide room (λ (b : List ℕ). b) (λ k. map f (l k))
  unfolding decide
  decide_map room l =
      simp (some_map f, length-map)
      (if_map judging f (some (l 9) || some (l 10)) _ _ _ _
      (first_map judging f (l 14) _ _ _ _ refl (λ u. if_map judging f (some (l 12) || some (l 1) || some (l 4)) _ _ _ _ refl refl))
      (first_map judging f (l 12) _ _ _ _
      (first_map judging f (l 1) _ _ _ _ refl (λ p. first_map judging f (l 4) _ _ _ _ refl (λ a. if_map judging f (ltb room (length (l 13))) _ _ _ _ refl refl)))
      (λ x. first_map judging f (l 14) _ _ _ _ refl
      (λ u. first_map judging f (l 1) _ _ _ _ refl
      (λ p. first_map judging f (l 4) _ _ _ _ refl
      (λ a. fixed_map u x a p (some (l 8))))))))

-- ---- the laws

pub request_lawful : (P : Profile) → Lawful (reader P) judging
unfolding decide once
request_lawful P = record {
  natural = λ u f l. decide_map f u.terms.room l;
  stable = λ u l l' h n. rw (h 1 refl, h 4 refl, h 9 refl, h 10 refl, h 12 refl, h 13 refl, h 14 refl, some_length (l 8) (l' 8) (n 8));
}
