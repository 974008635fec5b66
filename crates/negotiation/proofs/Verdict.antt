-- What is answered is what the protocol alone comes to, and then the algorithm; so a choice's protocol is the one chosen alone, and the reply
-- without an algorithm always has one.
-- Assumes nothing.
use mathlib.Core.Path.{◌≡◌, refl, ap}
use mathlib.Core.List.{List}
use mathlib.Core.Bool.{Bool, true, false, cond, ◌||◌}
use Prim.Native.Nat.{ℕ}
use native.Mathlib.Omega.{arith}
use Rattle.nts.specs.Refusal.{nothing}
use Rattle.negotiation.specs.Negotiation.{numbers_of, is_odd, Common, none, common, first_common, Told, chosen, refused, with_algorithm, with_protocol, choose, Protocol, agreed, refused_with, protocol_from, choose_protocol}

-- the protocol alone is judged: then the algorithm
abbrev pub after : Protocol → Common → Told
after (agreed p) a = with_algorithm p a
after (refused_with k b) a = refused k b

-- the two definitions, of whether a list is odd and of what is common
abbrev both : Bool → Bool → Common → Common → Told
both o q p a = cond (o || q) (refused 9 nothing) (with_protocol p a)

abbrev alone : Bool → Common → Protocol
alone o p = cond o (refused_with 9 nothing) (protocol_from p)

both_after : (o : Bool) (p a : Common) → after (alone o p) a ≡ both o false p a
both_after true p a = refl
both_after false none a = refl
both_after false (common p) a = refl

both_chosen : (o q : Bool) (x y : Common) (p a : ℕ) → both o q x y ≡ chosen p a → alone o x ≡ agreed p
both_chosen false false (common x) (common y) p a e = let s : x ≡ p = cc in ap agreed s
both_chosen false false (common x) none p a e = let z : ◌≡◌ {A = ℕ} 0 1 = cc in absurd (omega arith)
both_chosen false false none y p a e = let z : ◌≡◌ {A = ℕ} 0 1 = cc in absurd (omega arith)
both_chosen false true x y p a e = let z : ◌≡◌ {A = ℕ} 0 1 = cc in absurd (omega arith)
both_chosen true q x y p a e = let z : ◌≡◌ {A = ℕ} 0 1 = cc in absurd (omega arith)

both_fourteen : (o q : Bool) (x y : Common) → both o q x y ≡ refused 14 nothing → (n : ℕ) × (alone o x ≡ agreed n)
both_fourteen false false (common x) y e = (x, refl)
both_fourteen false false none y e = let z : ◌≡◌ {A = ℕ} 13 14 = cc in absurd (omega arith)
both_fourteen false true x y e = let z : ◌≡◌ {A = ℕ} 9 14 = cc in absurd (omega arith)
both_fourteen true q x y e = let z : ◌≡◌ {A = ℕ} 9 14 = cc in absurd (omega arith)

module _ (protocols algorithms own_protocols own_algorithms : List ℕ) where
  pub judged : (x : Protocol) → x ≡ choose_protocol protocols own_protocols → false ≡ is_odd algorithms
      → after x (first_common (numbers_of algorithms) own_algorithms) ≡ choose protocols algorithms own_protocols own_algorithms
  unfolding choose choose_protocol
  judged x h o = rw (h, ← o) (both_after (is_odd protocols) (first_common (numbers_of protocols) own_protocols) (first_common (numbers_of algorithms) own_algorithms))

  -- the protocol of a choice is the one chosen alone ..
  pub chosen_agreed : (p a : ℕ) → choose protocols algorithms own_protocols own_algorithms ≡ chosen p a → choose_protocol protocols own_protocols ≡ agreed p
  unfolding choose choose_protocol
  chosen_agreed p a e = both_chosen (is_odd protocols) (is_odd algorithms) (first_common (numbers_of protocols) own_protocols) (first_common (numbers_of algorithms) own_algorithms) p a e

  -- .. and where no algorithm is common there is one: the reply without an algorithm has its protocol
  pub fourteen_agreed : choose protocols algorithms own_protocols own_algorithms ≡ refused 14 nothing → (n : ℕ) × (choose_protocol protocols own_protocols ≡ agreed n)
  unfolding choose choose_protocol
  fourteen_agreed e = both_fourteen (is_odd protocols) (is_odd algorithms) (first_common (numbers_of protocols) own_protocols) (first_common (numbers_of algorithms) own_algorithms) e
