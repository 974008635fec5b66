-- The decision over the records that the cells tell: the same as over the records noted; and what it is, by the tests on the way.
-- Assumes nothing.
use mathlib.Core.Path.{◌≡◌, refl, sym, ap, ◌∙◌}
use mathlib.Core.List.{List}
use mathlib.Core.Bool.{Bool, true, false, cond, ◌&&◌, ◌||◌}
use Prim.Native.Nat.{ℕ, ◌+◌, ◌/◌, ◌<◌, ◌≤◌}
use native.Mathlib.Omega.{arith}
use native.Mathlib.Nat.{add-zero}
use borrow.Author.Tests.{eq-eqb, ne_eqb, eqb-true, lt-ltb, le-ltb}
use lib.ListN.{length, get_or, drop}
use lib.Dec.{ltb, eqb}
use Rattle.wire.specs.Bytes.{number_at}
use Rattle.wire.proofs.Bytes.{number_drop, number_take}
use Rattle.nts.specs.Refusal.{Beside, nothing, code}
use Rattle.nts.specs.Algorithm.{describe, told_description}
use Rattle.layout.specs.declared.Part.{Part}
use Rattle.nts.specs.declared.AlgorithmDescription.{AlgorithmDescription}
use Rattle.nts.specs.declared.Description.{Description}
use Rattle.nts.specs.declared.Description.TheVariants.{Known, Unknown}
use Rattle.walk.specs.Walk.{Sighting}
use Rattle.walk.specs.Judge.{Verdict, no, yes, some, with_first, body_in, part_of, placed}
use Rattle.walk.specs.Rules.{is_noted}
use Rattle.walk.specs.Found.{entry_in, first_in, told_in}
use Rattle.walk.specs.Code.{Fits}
use Rattle.walk.specs.declared.Seen.{Seen}
use Rattle.walk.proofs.Like.{Like, like_some, like_first, like_if, told_length, told_first, told_some, there_none, there_some}
use Rattle.walk.proofs.Verdicts.{taken, left}
use Rattle.places.proofs.Entries.{body_length}
use Rattle.request.specs.Request.{rules, Form, key_exchange, fixed_key, support, keyed, fixed_by, support_by, keys_by, exchange_by, decide, Told, key_exchange_is, fixed_key_is, support_is, refused_with, told_by}
use Rattle.request.specs.Code.{is_one, fixed_in, keys_are}

-- what is told of a verdict, and of a refusal, at the end record's place
abbrev told : List ℕ → ℕ → Verdict Form Sighting → Told
told m at v = told_by m (placed at v)

abbrev refused_at : ℕ → Beside → ℕ → Told
refused_at n b at = refused_with (record { number = n; beside = b; place = at })

-- ---- over the records noted

-- two lists for each kind that the table notes, alike
module _ (m : List ℕ) (at room : ℕ) (l l' : ℕ → List Sighting) (h : (k : ℕ) → k < 15 → eqb k 11 ≡ false → is_noted (get_or rules k 0) ≡ true → Like (l k) (l' k)) where
  alike : (k : ℕ) → k < 15 → eqb k 11 ≡ false → is_noted (get_or rules k 0) ≡ true → some (l k) ≡ some (l' k)
  alike k b n i = like_some (l k) (l' k) (h k b n i)

  like_support : told m at (support_by l) ≡ told m at (support_by l')
  unfolding is_noted
  like_support =
      like_first (told m at) (l 14) (l' 14) (h 14 (omega arith) refl refl) _ _ _ _ refl
      (λ u. like_if (told m at) (some (l 12) || some (l 1) || some (l 4)) (some (l' 12) || some (l' 1) || some (l' 4))
      (rw (alike 12 (omega arith) refl refl, alike 1 (omega arith) refl refl, alike 4 (omega arith) refl refl)) _ _ _ _ refl
      (rw (alike 9 (omega arith) refl refl, alike 10 (omega arith) refl refl, alike 8 (omega arith) refl refl)))

  like_exchange : told m at (exchange_by room l) ≡ told m at (exchange_by room l')
  unfolding is_noted
  like_exchange =
      let n = (h 13 (omega arith) refl refl).long in
      like_first (told m at) (l 1) (l' 1) (h 1 (omega arith) refl refl) _ _ _ _ refl
      (λ p. like_first (told m at) (l 4) (l' 4) (h 4 (omega arith) refl refl) _ _ _ _ refl
      (λ a. like_if (told m at) _ _ (ap (ltb room) n) _ _ _ _ refl (ap (key_exchange_is (part_of p) (part_of a)) n)))

  like_keys : (x : Sighting) → told m at (keys_by (body_in m) l x) ≡ told m at (keys_by (body_in m) l' x)
  unfolding is_noted
  like_keys x =
      like_first (told m at) (l 14) (l' 14) (h 14 (omega arith) refl refl) _ _ _ _ refl
      (λ u. like_first (told m at) (l 1) (l' 1) (h 1 (omega arith) refl refl) _ _ _ _ refl
      (λ p. like_first (told m at) (l 4) (l' 4) (h 4 (omega arith) refl refl) _ _ _ _ refl
      (λ a. ap (λ (k : Bool). told m at (fixed_by (body_in m) u x a p k)) (alike 8 (omega arith) refl refl))))

  pub decided_like : told_by m (placed at (decide room (body_in m) l)) ≡ told_by m (placed at (decide room (body_in m) l'))
  unfolding decide is_noted
  decided_like =
      like_if (told m at) (some (l 9) || some (l 10)) (some (l' 9) || some (l' 10)) (rw (alike 9 (omega arith) refl refl, alike 10 (omega arith) refl refl)) _ _ _ _
      like_support
      (like_first (told m at) (l 12) (l' 12) (h 12 (omega arith) refl refl) _ _ _ _ like_exchange (λ x. like_keys x))

-- ---- by whether a record of a kind was met

module _ (c : List ℕ) (k : ℕ) {A : Type 0} (z : A) (f : Sighting → A) where
  first_none : some (told_in c k) ≡ false → with_first (told_in c k) z f ≡ z
  first_none e = told_first c k z f ∙ go (eqb (entry_in c k).count 0) (sym (told_some c k) ∙ e)
    where
      go : (b : Bool) → cond b false true ≡ false → cond b z (f (first_in c k)) ≡ z
      go true h = refl
      go false h = let o : ◌≡◌ {A = ℕ} 0 1 = cc in absurd (omega arith)

  first_there : some (told_in c k) ≡ true → with_first (told_in c k) z f ≡ f (first_in c k)
  first_there e = told_first c k z f ∙ go (eqb (entry_in c k).count 0) (sym (told_some c k) ∙ e)
    where
      go : (b : Bool) → cond b false true ≡ true → cond b z (f (first_in c k)) ≡ f (first_in c k)
      go true h = let o : ◌≡◌ {A = ℕ} 0 1 = cc in absurd (omega arith)
      go false h = refl

-- ---- what the tests lead to

module _ (c : List ℕ) (at : ℕ) (m : List ℕ) where
  -- a supported list
  module _ (x : Seen) (e : x ≡ entry_in c 14) where
    pub support_none : x.count ≡ 0 → refused_at 4 nothing at ≡ told m at (support_by (told_in c))
    support_none z = sym (ap (told m at) (first_none c 14 _ _ (sym (there_none c 14 x e z))))

    module _ (h : x.count ≡ 0 → ⊥) where
      there : told m at (support_by (told_in c)) ≡ told m at (cond (some (told_in c 12) || some (told_in c 1) || some (told_in c 4)) (no 4 nothing) (yes (support (first_in c 14) (some (told_in c 9)) (some (told_in c 10)) (some (told_in c 8)))))
      there = ap (told m at) (first_there c 14 _ _ (sym (there_some c 14 x e h)))

      pub support_not : (some (told_in c 12) || some (told_in c 1) || some (told_in c 4)) ≡ true → refused_at 4 nothing at ≡ told m at (support_by (told_in c))
      support_not t = sym (there ∙ rw t)

      pub support_is_lem : (some (told_in c 12) || some (told_in c 1) || some (told_in c 4)) ≡ false → (b : Part) → b ≡ record { start = x.start; len = x.len }
          → support_is b (some (told_in c 9)) (some (told_in c 10)) (some (told_in c 8)) ≡ told m at (support_by (told_in c))
      support_is_lem t b q = rw (q, e) (sym (there ∙ rw t))

  -- neither that nor keys
  module _ (room : ℕ) (x y z : Seen) (ex : x ≡ entry_in c 1) (ey : y ≡ entry_in c 4) (ez : z ≡ entry_in c 13) where
    pub exchange_none : x.count ≡ 0 → refused_at 4 nothing at ≡ told m at (exchange_by room (told_in c))
    exchange_none n = sym (ap (told m at) (first_none c 1 _ _ (sym (there_none c 1 x ex n))))

    module _ (hx : x.count ≡ 0 → ⊥) where
      pub exchange_half : y.count ≡ 0 → refused_at 4 nothing at ≡ told m at (exchange_by room (told_in c))
      exchange_half n = sym (ap (told m at) (first_there c 1 _ _ (sym (there_some c 1 x ex hx))) ∙ ap (told m at) (first_none c 4 _ _ (sym (there_none c 4 y ey n))))

      module _ (hy : y.count ≡ 0 → ⊥) where
        both : told m at (exchange_by room (told_in c)) ≡ told m at (cond (ltb room (length (told_in c 13))) (no 7 nothing) (yes (key_exchange (first_in c 1) (first_in c 4) (told_in c 13))))
        both = ap (told m at) (first_there c 1 _ _ (sym (there_some c 1 x ex hx))) ∙ ap (told m at) (first_there c 4 _ _ (sym (there_some c 4 y ey hy)))

        many : length (told_in c 13) ≡ z.count
        many = told_length c 13 ∙ ap (λ (v : Seen). v.count) (sym ez)

        pub exchange_full : room < z.count → refused_at 7 nothing at ≡ told m at (exchange_by room (told_in c))
        exchange_full l = sym (both ∙ rw (many, lt-ltb room z.count l))

        pub exchange_is : z.count ≤ room → (p a : Part) → p ≡ record { start = x.start; len = x.len } → a ≡ record { start = y.start; len = y.len }
            → key_exchange_is p a z.count ≡ told m at (exchange_by room (told_in c))
        exchange_is l p a ep ea = rw (ep, ea, ex, ey) (sym (both ∙ rw (many, le-ltb room z.count l, many)))

  -- the three ways
  module _ (room : ℕ) where
    pub by_support : (some (told_in c 9) || some (told_in c 10)) ≡ true → told m at (support_by (told_in c)) ≡ told m at (decide room (body_in m) (told_in c))
    unfolding decide
    by_support t = ap (told m at) (taken _ _ _ t)

    pub by_keys : (some (told_in c 9) || some (told_in c 10)) ≡ false → some (told_in c 12) ≡ true
        → told m at (keys_by (body_in m) (told_in c) (first_in c 12)) ≡ told m at (decide room (body_in m) (told_in c))
    unfolding decide
    by_keys t h = ap (told m at) (sym (first_there c 12 _ _ h)) ∙ ap (told m at) (left _ _ _ t)

    pub by_exchange : (some (told_in c 9) || some (told_in c 10)) ≡ false → some (told_in c 12) ≡ false
        → told m at (exchange_by room (told_in c)) ≡ told m at (decide room (body_in m) (told_in c))
    unfolding decide
    by_exchange t h = ap (told m at) (sym (first_none c 12 _ _ h)) ∙ ap (told m at) (left _ _ _ t)

-- ---- fixed keys

one_number : (m : List ℕ) (x : Sighting) → x.len ≡ 2 → number_at (body_in m x) 0 ≡ number_at m x.start
one_number m x e = number_take (drop x.start m) x.len 0 (omega arith) ∙ number_drop m x.start 0 ∙ ap (number_at m) (add-zero x.start)

module _ (c : List ℕ) (at : ℕ) (m : List ℕ) (fit : Fits rules (length m) c) where
  long : (k : ℕ) → k < 15 → eqb k 11 ≡ false → is_noted (get_or rules k 0) ≡ true → length (body_in m (first_in c k)) ≡ (entry_in c k).len
  unfolding Fits
  long k l kn nt = body_length m (first_in c k) (fit k l kn nt)

  pub keys_by_lem : told m at (keys_by (body_in m) (told_in c) (first_in c 12))
      ≡ cond (some (told_in c 14)) (cond (is_one (entry_in c 1)) (cond (is_one (entry_in c 4)) (told m at (fixed_in (body_in m) c)) (refused_at 4 nothing at)) (refused_at 4 nothing at)) (refused_at 4 nothing at)
  unfolding is_one fixed_by is_noted
  keys_by_lem =
      rw (told_first c 14, told_first c 1, told_first c 4, told_some c 14, long 1 (omega arith) refl refl, long 4 (omega arith) refl refl)
      (go (eqb (entry_in c 14).count 0) (eqb (entry_in c 1).count 0) (eqb (entry_in c 4).count 0) (eqb (entry_in c 1).len 2) (eqb (entry_in c 4).len 2) _)
    where
      go : (u p a one two : Bool) (v : Verdict Form Sighting)
          → told m at (cond u (no 4 nothing) (cond p (no 4 nothing) (cond a (no 4 nothing) (cond (one && two) v (no 4 nothing)))))
          ≡ cond (cond u false true) (cond (cond p false one) (cond (cond a false two) (told m at (cond (one && two) v (no 4 nothing))) (refused_at 4 nothing at)) (refused_at 4 nothing at)) (refused_at 4 nothing at)
      go true p a one two v = refl
      go false true a one two v = refl
      go false false true true two v = refl
      go false false true false two v = refl
      go false false false true true v = refl
      go false false false true false v = refl
      go false false false false two v = refl

  -- a is the algorithm's number, and d what is known of it
  module _ (l1 : (entry_in c 1).len ≡ 2) (l4 : (entry_in c 4).len ≡ 2) (a : ℕ) (d : Description) (ea : a ≡ number_at m (entry_in c 4).start) (ed : told_description d ≡ describe a) where
    keyed_by : told m at (fixed_in (body_in m) c) ≡ told m at (keyed (told_description d) a ((entry_in c 12).len / 2) (fixed_key (first_in c 14) (first_in c 12) (first_in c 4) (first_in c 1) (some (told_in c 8))))
    unfolding fixed_by is_noted
    keyed_by =
        let n : number_at (body_in m (first_in c 4)) 0 ≡ a = one_number m (first_in c 4) l4 ∙ sym ea in
        rw (long 1 (omega arith) refl refl, long 4 (omega arith) refl refl, long 12 (omega arith) refl refl, eq-eqb (entry_in c 1).len 2 l1, eq-eqb (entry_in c 4).len 2 l4, n, ed)

    pub right_keys : (k : AlgorithmDescription) → d ≡ Known k → (entry_in c 12).len / 2 ≡ k.keysize → keys_are m c a ≡ told m at (fixed_in (body_in m) c)
    unfolding keyed
    right_keys k e h = sym (keyed_by ∙ rw (e, eq-eqb ((entry_in c 12).len / 2) k.keysize h, one_number m (first_in c 4) l4, one_number m (first_in c 1) l1, ea))

    pub wrong_keys : (k : AlgorithmDescription) → d ≡ Known k → ((entry_in c 12).len / 2 ≡ k.keysize → ⊥) → refused_at 6 nothing at ≡ told m at (fixed_in (body_in m) c)
    unfolding keyed
    wrong_keys k e h = sym (keyed_by ∙ rw (e, ne_eqb ((entry_in c 12).len / 2) k.keysize h))

    pub no_algorithm : d ≡ Unknown → refused_at 5 (code a) at ≡ told m at (fixed_in (body_in m) c)
    unfolding keyed
    no_algorithm e = sym (keyed_by ∙ rw e)

-- a list of one entry has two bytes
pub one_entry : (x : Seen) → is_one x ≡ true → x.len ≡ 2
unfolding is_one
one_entry x = go (eqb x.count 0)
  where
    go : (b : Bool) → cond b false (eqb x.len 2) ≡ true → x.len ≡ 2
    go true e = let o : ◌≡◌ {A = ℕ} 0 1 = cc in absurd (omega arith)
    go false e = eqb-true x.len 2 e

-- the fields as the code puts them together
pub keys_are_lem : (m c : List ℕ) (a : ℕ) (x y z : Seen) → x ≡ entry_in c 12 → y ≡ entry_in c 1 → z ≡ entry_in c 14 → (b : Part) → b ≡ record { start = z.start; len = z.len }
    → (p : ℕ) → p ≡ number_at m y.start → (k : Bool) → k ≡ some (told_in c 8)
    → fixed_key_is b (record { start = x.start; len = x.len / 2 }) (record { start = x.start + x.len / 2; len = x.len / 2 }) a p k ≡ keys_are m c a
keys_are_lem m c a x y z ex ey ez b eb p ep k ek = rw (eb, ep, ek, ex, ey, ez)
