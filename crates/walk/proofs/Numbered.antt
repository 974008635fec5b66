-- A reader refuses with no other numbers than 1, 2, 3, 4, 18 in the strict profile, and those of its acts and of its decision; 5, 11, 12 and 17 have a number beside them, and no other has; and that
-- has sixteen bits, where the message is bytes. A fault is 1 or 2, an unknown record with its bit set is 3, and a record that may stand once and stands there twice is 4.
-- Assumes nothing.
use mathlib.Core.Path.{◌≡◌, refl, sym}
use mathlib.Core.List.{List, [], ◌∷◌}
use mathlib.Core.Bool.{Bool, true, false, cond, not, ◌&&◌, ◌||◌, true≢false}
use Prim.Native.Nat.{ℕ, zero, suc, ◌+◌, ◌*◌, ◌/◌, ◌%◌, ◌<◌, ◌≤◌}
use native.Mathlib.Omega.{arith}
use borrow.Author.Tests.{leb-true}
use lib.ListN.{length, take}
use lib.Dec.{leb, ltb, eqb}
use Rattle.wire.proofs.Bytes.{Small, small_part, number_small}
use Rattle.nts.specs.Refusal.{Beside, nothing, code, protocol, algorithm, Refused}
use Rattle.layout.specs.declared.Shape.{Shape}
use Rattle.layout.specs.declared.Shape.TheVariants.{Skipped, Numbers, Number, Bytes, Name, Pairs, Halves, Unknown}
use Rattle.layout.specs.Table.{shape_of}
use Rattle.record.specs.Record.{kind, critical, size, there, short, uneven, not_number, not_halves, not_utf8, first_of, not_name, fault_of, fault, fault_by}
use Rattle.walk.specs.Walk.{Act, ends, passes, notes, refuses, Reader, fault_in, act_in, Sighting, Outcome, stopped, ended, Step, stops, goes, has, meet, judge, step, walk, behind, walked}
use Rattle.walk.specs.Judge.{Verdict, no, yes, Under, Judge, of_kind, with_first, body_in, refused, placed, finish, read_as}
use Rattle.layout.specs.Profile.{asks_of, is_final, knows, allows}
use Rattle.layout.specs.declared.Profile.{Profile}
use Rattle.layout.specs.declared.Profile.TheVariants.{Usual, Strict}
use Rattle.layout.proofs.Profiles.{usual_allows}
use Rattle.walk.specs.Table.{meaning, act_by}
use Rattle.walk.specs.Rules as rule
use Rattle.walk.specs.Rules.{Rules, entry_of, tell_act, rule_act, act_at, reader_of}

-- ---- a number beside a refusal

abbrev pub Sixteen : Beside → Type 0
Sixteen nothing = Unit {0}
Sixteen (code c) = c < 65536
Sixteen (protocol c) = c < 65536
Sixteen (algorithm c) = c < 65536

-- ---- a fault is at most 2

few : (t : Bool) (x y : ℕ) → x ≤ 2 → y ≤ 2 → cond t x y ≤ 2
few true x y p q = p
few false x y p q = q

short_few : (n m : ℕ) → short n m ≤ 2
unfolding short
short_few n m = few (ltb m n) 1 0 (omega arith) (omega arith)

uneven_few : (u n m : ℕ) → uneven u n m ≤ 2
unfolding uneven
uneven_few u n m = few (eqb (n % u) 0) (short n m) 1 (short_few n m) (omega arith)

utf8_few : (b : List ℕ) → not_utf8 b ≤ 2
unfolding not_utf8
utf8_few b = leb-true (not_utf8 b) 2 (rw test)
  where
    test : (t : Bool) → leb (cond t 0 2) 2 ≡ true
    test true = refl
    test false = refl

fault_few : (x : Shape) (n : ℕ) (b : List ℕ) → fault_of x n b ≤ 2
unfolding fault_of not_number not_halves not_name first_of
fault_few Skipped n b = short_few n (length b)
fault_few Numbers n b = uneven_few 2 n (length b)
fault_few Number n b = few (ltb (length b) 2) 1 (cond (eqb n 2) 0 2) (omega arith) (few (eqb n 2) 0 2 (omega arith) (omega arith))
fault_few Bytes n b = short_few n (length b)
fault_few Name n b = few (eqb (not_utf8 b) 0) (short n (length b)) (not_utf8 b) (short_few n (length b)) (utf8_few b)
fault_few Pairs n b = uneven_few 4 n (length b)
fault_few Halves n b = few (ltb (length b) (2 * (n / 2))) 1 (cond (eqb (n % 2) 0) 0 2) (omega arith) (few (eqb (n % 2) 0) 0 2 (omega arith) (omega arith))
fault_few Unknown n b = short_few n (length b)

pub record_few : (s : List ℕ) → fault s ≤ 2
unfolding fault_by
record_few s = few (ltb (length s) 4) 1 _ (omega arith) (fault_few (shape_of (kind s)) (size s) (there s))

-- ---- what is said of a refusal

-- 5, 11 and 12 are told with a number beside them, 17 with a protocol or an algorithm ..
abbrev pub coded : ℕ → Bool
coded n = eqb n 5 || eqb n 11 || eqb n 12

abbrev pub bare_number : ℕ → Bool
bare_number n = not (coded n || eqb n 17)

pub bare_not : (n : ℕ) → bare_number n ≡ true → (coded n ≡ false) × (eqb n 17 ≡ false)
bare_not n e = go (coded n) (eqb n 17) e
  where
    go : (a b : Bool) → not (a || b) ≡ true → (a ≡ false) × (b ≡ false)
    go true b q = absurd (true≢false (sym q))
    go false true q = absurd (true≢false (sym q))
    go false false q = (refl, refl)

-- .. and no other is
abbrev pub Fits : ℕ → Beside → Type 0
Fits n nothing = bare_number n ≡ true
Fits n (code c) = coded n ≡ true
Fits n (protocol c) = eqb n 17 ≡ true
Fits n (algorithm c) = eqb n 17 ≡ true

-- the number n, with b beside it, told of the bytes s: P says of a number that it may be told
pub record Numbered (P : ℕ → Type 0) (s : List ℕ) (n : ℕ) (b : Beside) : Type 0 where
  pub one : P n
  pub fits : Fits n b
  pub beside : Small s → Sixteen b

module _ (P : ℕ → Type 0) where
  pub bare : (s : List ℕ) (n : ℕ) → bare_number n ≡ true → P n → Numbered P s n nothing
  bare s n f p = record { one = p; fits = f; beside = λ h. tt }

  -- .. as an act, a verdict, a step or a walk refuses
  abbrev pub ActBy : List ℕ → Act → Type 0
  ActBy s ends = Unit {0}
  ActBy s passes = Unit {0}
  ActBy s notes = Unit {0}
  ActBy s (refuses n b) = Numbered P s n b

  abbrev pub VerdictBy : {Q : Type 0 → Type 0} {A : Type 0} → List ℕ → Verdict Q A → Type 0
  VerdictBy s (no n b) = Numbered P s n b
  VerdictBy s (yes q) = Unit {0}

  abbrev WalkBy : List ℕ → Outcome → Type 0
  WalkBy s (stopped r) = Numbered P s r.number r.beside
  WalkBy s (ended at next st) = Unit {0}

  abbrev StepBy : List ℕ → Step → Type 0
  StepBy s (stops o) = WalkBy s o
  StepBy s (goes st) = Unit {0}

  -- ---- by tests

  pub act_if : (s : List ℕ) (t : Bool) (a b : Act) → ActBy s a → ActBy s b → ActBy s (cond t a b)
  act_if s true a b p q = p
  act_if s false a b p q = q

  -- 18 is told in the strict profile alone
  abbrev pub Barred : Profile → Type 0
  Barred Usual = Unit {0}
  Barred Strict = P 18

  allowed_by : (X : Profile) → Barred X → (k : ℕ) (c : Bool) (b : List ℕ) (a : Act) → ActBy b a → ActBy b (cond (allows (asks_of X k) c b) a (refuses 18 nothing))
  allowed_by Usual x k c b a h = rw (usual_allows k c b) h
  allowed_by Strict x k c b a h = act_if b (allows (asks_of Strict k) c b) a _ h (bare b 18 refl x)

  meaning_by : P 3 → (known c : Bool) (b : List ℕ) (a : Act) → ActBy b a → ActBy b (meaning known c a)
  meaning_by three known c b a h = act_if b known a _ h (act_if b c _ passes (bare b 3 refl three) tt)

  -- a table over the known kinds, and the rule for the unknown ones
  pub act_by_lem : P 3 → (X : Profile) → Barred X → (f : ℕ → List ℕ → Act) → ((k : ℕ) (b : List ℕ) → ActBy b (f k b)) → (k : ℕ) (c : Bool) (b : List ℕ) → ActBy b (act_by X f k c b)
  unfolding act_by
  act_by_lem three X x f h k c b = allowed_by X x k c b _ (meaning_by three (knows X k) c b _ (act_if b (eqb k 0) ends _ tt (h k b)))

  pub final_by : (X : Profile) → Barred X → is_final X ≡ true → P 18
  unfolding is_final
  final_by Usual x e = absurd (true≢false (sym e))
  final_by Strict x e = x

  module _ {Q : Type 0 → Type 0} {A : Type 0} (s : List ℕ) where
    pub verdict_if : (t : Bool) (v w : Verdict Q A) → VerdictBy s v → VerdictBy s w → VerdictBy s (cond t v w)
    verdict_if true v w p q = p
    verdict_if false v w p q = q

    pub verdict_first : (l : List A) (v : Verdict Q A) (f : A → Verdict Q A) → VerdictBy s v → ((x : A) → VerdictBy s (f x)) → VerdictBy s (with_first l v f)
    verdict_first [] v f p q = p
    verdict_first (x ∷ l) v f p q = q x

  -- ---- a walk

  later : (b : ℕ) (s : List ℕ) (o : Outcome) → WalkBy s o → WalkBy (b ∷ s) o
  later b s (stopped r) h = record { one = h.one; fits = h.fits; beside = λ z. h.beside (λ i. z (suc i)) }
  later b s (ended at next st) h = tt

  module _ (p : P 1 × P 2 × P 4) (R : Reader) (acts : (k : ℕ) (c : Bool) (b : List ℕ) → ActBy b (R.act k c b)) (last : R.final ≡ true → P 18) where
    step_by : (st : List Sighting) (at : ℕ) (s : List ℕ) → StepBy s (step R st at s)
    unfolding step judge meet fault_by act_in there
    step_by st at s = by_fault (fault_in R s) (few (ltb (length s) 4) 1 _ (omega arith) (fault_few (R.shape (kind s)) (size s) (there s)))
      where
        noted : (t : Bool) (l : List Sighting) → StepBy s (cond t (stops (stopped (record { number = 4; beside = nothing; place = at }))) (goes l))
        noted true l = bare s 4 refl p.2
        noted false l = tt

        by_act : (a : Act) → ActBy (there s) a → StepBy s (meet R st at (kind s) (size s) a)
        by_act ends h = tt
        by_act passes h = tt
        by_act notes h = noted (R.once (kind s) && has (kind s) st) _
        by_act (refuses n b) h = record { one = h.one; fits = h.fits; beside = λ z. h.beside (small_part s (size s) 4 z) }

        by_fault : (f : ℕ) → f ≤ 2 → StepBy s (judge R st at s f)
        by_fault zero l = by_act (act_in R s) (acts (kind s) (critical s) (there s))
        by_fault (suc zero) l = bare s 1 refl p.0
        by_fault (suc (suc zero)) l = bare s 2 refl p.1
        by_fault (suc (suc (suc f))) l = absurd (omega arith)

    walk_by : (st : List Sighting) (at k : ℕ) (s : List ℕ) → WalkBy s (walk R st at k s)
    unfolding walk
    walk_by st at k [] = bare [] 1 refl p.0
    walk_by st at (suc k) (b ∷ s) = later b s (walk R st at k s) (walk_by st at k s)
    walk_by st at zero (b ∷ s) =
        go (step R st at (b ∷ s)) (step_by st at (b ∷ s)) (λ st'. walk_by st' (at + (4 + size (b ∷ s))) (3 + size (b ∷ s)) s)
      where
        go : (x : Step) → StepBy (b ∷ s) x → ((st' : List Sighting) → WalkBy s (walk R st' (at + (4 + size (b ∷ s))) (3 + size (b ∷ s)) s))
            → WalkBy (b ∷ s) (elim x as (λ (y : Step). Outcome) [ stops o ↦ o | goes st₁ ↦ walk R st₁ (at + (4 + size (b ∷ s))) (3 + size (b ∷ s)) s ])
        go (stops o) h ih = h
        go (goes st') h ih = later b s (walk R st' (at + (4 + size (b ∷ s))) (3 + size (b ∷ s)) s) (ih st')

    behind_by : (s : List ℕ) (o : Outcome) → WalkBy s o → WalkBy s (behind R s o)
    unfolding behind
    behind_by s (stopped r) h = h
    behind_by s (ended at next st) h = go R.final refl (ltb next (length s))
      where
        go : (b : Bool) → R.final ≡ b → (c : Bool) → WalkBy s (cond (b && c) (stopped (record { number = 18; beside = nothing; place = next })) (ended at next st))
        go true e true = bare s 18 refl (last e)
        go true e false = tt
        go false e c = tt

    walked_by : (s : List ℕ) → WalkBy s (walked R s)
    unfolding walked
    walked_by s = behind_by s (walk R [] 0 0 s) (walk_by [] 0 0 s)

    pub stopped_numbered : (s : List ℕ) (r : Refused) → walked R s ≡ stopped r → Numbered P s r.number r.beside
    stopped_numbered s r e = go (walked R s) (walked_by s) e
      where
        go : (o : Outcome) → WalkBy s o → o ≡ stopped r → Numbered P s r.number r.beside
        go (stopped x) h q = let z : r ≡ x = cc in rw z h
        go (ended at next st) h q = let z : ◌≡◌ {A = ℕ} 0 1 = cc in absurd (omega arith)

    -- ---- a reader

    pub refused_numbered : (D : Judge) (m : List ℕ) (u : Under) → ((l : ℕ → List Sighting) → VerdictBy m (D.decide u (body_in m) l))
        → (r : Refused) → read_as R D m u ≡ refused r → Numbered P m r.number r.beside
    unfolding read_as finish
    refused_numbered D m u decides r e = go (walked R (take u.limit m)) (walked_by (take u.limit m)) e
      where
        decided : (at : ℕ) (v : Verdict D.Q Sighting) → VerdictBy m v → placed at v ≡ refused r → Numbered P m r.number r.beside
        decided at (no n b) h q = let z : r ≡ record { number = n; beside = b; place = at } = cc in rw z h
        decided at (yes a) h q = let z : ◌≡◌ {A = ℕ} 0 1 = cc in absurd (omega arith)

        go : (o : Outcome) → WalkBy (take u.limit m) o → finish D u m o ≡ refused r → Numbered P m r.number r.beside
        go (stopped x) h q =
            let z : r ≡ x = cc in
            rw z (record { one = h.one; fits = h.fits; beside = λ s. h.beside (small_part m u.limit 0 s) })
        go (ended at next st) h q = decided at (D.decide u (body_in m) (λ k. of_kind k st)) (decides (λ k. of_kind k st)) q

  -- ---- the walk by a table

  module _ (p : P 1 × P 2 × P 3 × P 4 × P 11 × P 12) (rules : Rules) (x : Barred rules.profile) where
    tell_by : (k : ℕ) (b : List ℕ) → ActBy b (tell_act k b)
    unfolding tell_act
    tell_by k b =
        act_if b (eqb k 2) _ _ (record { one = p.4; fits = refl; beside = number_small b })
        (act_if b (eqb k 3) _ _ (record { one = p.5; fits = refl; beside = number_small b }) (bare b 4 refl p.3))

    rule_by : (r k : ℕ) (b : List ℕ) → ActBy b (rule_act r k b)
    unfolding rule_act
    rule_by r k b =
        act_if b (eqb r rule.ending) ends _ tt
        (act_if b (eqb r rule.passed) passes _ tt
        (act_if b (eqb r rule.noted || eqb r rule.once) notes _ tt
        (act_if b (eqb r rule.single) _ _ (act_if b (ltb 2 (length b)) _ notes (bare b 4 refl p.3) tt)
        (act_if b (eqb r rule.told) _ _ (tell_by k b) (bare b 4 refl p.3)))))

    rules_by : (k : ℕ) (c : Bool) (b : List ℕ) → ActBy b (act_at rules k c b)
    unfolding act_at
    rules_by k c b = allowed_by rules.profile x k c b _ (meaning_by p.2 (knows rules.profile k) c b _ (rule_by (entry_of rules k) k b))

    pub walk_numbered : (s : List ℕ) (r : Refused) → walked (reader_of rules) s ≡ stopped r → Numbered P s r.number r.beside
    walk_numbered = stopped_numbered (p.0, p.1, p.3) (reader_of rules) rules_by (final_by rules.profile x)
