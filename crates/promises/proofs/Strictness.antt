-- What strictness gives a plant (specs/Strictness.antt), of the definitions of a request and of a reply: the walks in both profiles go side by side over the records of a message that
-- the strict one accepts, and part at records of a kind alone that is not the RFC's.
-- Assumes nothing.
use mathlib.Core.Path.{◌≡◌, refl, sym, ap, subst, ◌∙◌}
use mathlib.Core.List.{List, [], ◌∷◌, ◌++◌, append_assoc}
use mathlib.Core.Bool.{Bool, true, false, cond, not, ◌&&◌, ◌||◌, and-false, true≢false}
use mathlib.Core.Logic.{◌⊎◌, inl, inr}
use Prim.Native.Nat.{ℕ, zero, suc, ◌+◌, ◌-◌, ◌/◌, ◌≤◌, ◌<◌}
use native.Mathlib.Omega.{arith}
use native.Mathlib.Nat.{add-zero}
use lib.ListN.{length, take, drop, length-append, length-drop}
use lib.Seq.{length-take-le}
use lib.Dec.{ltb, eqb}
use borrow.Author.Tests.{eqb-true, le-ltb, ltb-false}
use Rattle.utf8.specs.Ascii.{is_ascii}
use Rattle.utf8.proofs.Tests.{on}
use Rattle.nts.specs.Refusal.{Beside, nothing, code, Refused}
use Rattle.layout.specs.Profile.{asks_of, is_final, shape_in, knows, allows}
use Rattle.layout.specs.declared.Profile.{Profile}
use Rattle.layout.specs.declared.Profile.TheVariants.{Usual, Strict}
use Rattle.layout.specs.declared.Shape.{Shape}
use Rattle.layout.proofs.Profiles.{strict_far, strict_near, strict_usual, strict_shape, unknown_shape, unknown_allows, usual_allows, usual_shape}
use Rattle.record.specs.Record.{kind, critical, size, there, fault_by}
use Rattle.walk.specs.Walk.{Act, ends, passes, notes, refuses, Reader, fault_in, act_in, Sighting, Outcome, stopped, ended, Step, stops, goes, has, meet, judge, step, walk, walked}
use Rattle.walk.specs.Judge.{Terms, Under, Judge, Verdict, no, yes, room_for, some, with_first, of_kind, body_in, Answer, refused, accepted, placed, finish, read_as, read_by}
use Rattle.walk.specs.Message.{Whole, Record, End, Each, flat, Parts}
use Rattle.walk.specs.Table.{meaning, act_by, table_reader}
use Rattle.walk.proofs.Unroll.{after}
use Rattle.walk.proofs.Chunks.{unroll_chunk, each_map}
use Rattle.walk.proofs.Passing.{is_calm, is_notes, noted, reached, seen_in, sighting_at, Fine, grow, Tells, step_tells, step_fine, take_over}
use Rattle.walk.proofs.Behind.{follows, walked_ended, walked_alone, ended_walked, stopped_walked}
use Rattle.walk.proofs.Demand3.{zero_act, ends_zero}
use Rattle.walk.proofs.Numbered.{record_few}
use Rattle.wire.specs.Bytes.{number_at}
use Rattle.nts.specs.Algorithm.{Described, unknown, known, describe}
use Rattle.request.specs.Request as requests
use Rattle.request.proofs.Lawful.{request_goes}
use Rattle.request.proofs.Answering.{never_notes}
use Rattle.reply.specs.Reply as replies
use Rattle.reply.proofs.Lawful.{reply_goes}
use Rattle.walk.proofs.Unnoted.{walk_unnoted}
use Rattle.wire.proofs.Over.{over_none}
use Rattle.places.specs.Places.{room_of}
use Rattle.request.proofs.Order.{request_ordered}
use Rattle.promises.specs.Called.{ReadRequestStrict, request_host_strict, ReadReplyStrict, reply_host_strict}
use Rattle.cells.specs.Cells.{cell, flag, held}
use Rattle.reading.specs.Read.{reply_given}
use Rattle.reply.proofs.Order.{reply_ordered}
use Rattle.promises.specs.Strictness as spec
use Rattle.promises.specs.Strictness.{Allowed, is_own, OwnAt, AtOwn, UsualRequest, UsualReply}

-- ---- kinds

abbrev NotOwn : List ℕ → Type 0
NotOwn c = is_own (kind c) ≡ false

same_known : (k : ℕ) → is_own k ≡ false → knows Usual k ≡ knows Strict k
unfolding is_own
same_known k h = go (knows Usual k) refl (knows Strict k) refl h
  where
    go : (u : Bool) → knows Usual k ≡ u → (s : Bool) → knows Strict k ≡ s → (u && not s) ≡ false → u ≡ s
    go true e true f q = refl
    go true e false f q = absurd (true≢false q)
    go false e true f q = absurd (true≢false (sym (strict_usual k f) ∙ e))
    go false e false f q = refl

own_unknown : (k : ℕ) → is_own k ≡ true → knows Strict k ≡ false
unfolding is_own
own_unknown k h = go (knows Usual k) (knows Strict k) h
  where
    go : (u s : Bool) → (u && not s) ≡ true → s ≡ false
    go true true q = absurd (true≢false (sym q))
    go true false q = refl
    go false s q = absurd (true≢false (sym q))

own_known : (k : ℕ) → is_own k ≡ true → knows Usual k ≡ true
unfolding is_own
own_known k h = go (knows Usual k) (knows Strict k) h
  where
    go : (u s : Bool) → (u && not s) ≡ true → u ≡ true
    go true s q = refl
    go false s q = q

-- kinds below 8 are the RFC's
near_not : (k : ℕ) → k < 8 → is_own k ≡ false
unfolding is_own
near_not k l = rw (strict_near k l, and-false)

zero_not : is_own 0 ≡ false
zero_not = near_not 0 (omega arith)

one_not : is_own 1 ≡ false
one_not = near_not 1 (omega arith)

four_not : is_own 4 ≡ false
four_not = near_not 4 (omega arith)

same_shape : (k : ℕ) → is_own k ≡ false → shape_in Usual k ≡ shape_in Strict k
same_shape k h = go (knows Strict k) refl
  where
    go : (s : Bool) → knows Strict k ≡ s → shape_in Usual k ≡ shape_in Strict k
    go true e = sym (usual_shape k) ∙ sym (strict_shape k e)
    go false e = unknown_shape Usual k (same_known k h ∙ e) ∙ sym (unknown_shape Strict k e)

-- ---- what was noted

snoc_kind : (k : ℕ) (st : List Sighting) (x : Sighting) → of_kind k (st ++ (x ∷ [])) ≡ of_kind k st ++ of_kind k (x ∷ [])
snoc_kind k [] x = refl
snoc_kind k (y ∷ st) x = go (eqb y.of k) (snoc_kind k st x)
  where
    go : (t : Bool) → of_kind k (st ++ (x ∷ [])) ≡ of_kind k st ++ of_kind k (x ∷ [])
        → cond t (y ∷ of_kind k (st ++ (x ∷ []))) (of_kind k (st ++ (x ∷ []))) ≡ cond t (y ∷ of_kind k st) (of_kind k st) ++ of_kind k (x ∷ [])
    go true i = ap (λ (l : List Sighting). y ∷ l) i
    go false i = i

has_some : (k : ℕ) (st : List Sighting) → has k st ≡ some (of_kind k st)
unfolding has
has_some k [] = refl
has_some k (x ∷ st) = go (eqb x.of k) (has_some k st)
  where
    go : (t : Bool) → has k st ≡ some (of_kind k st) → (t || has k st) ≡ some (cond t (x ∷ of_kind k st) (of_kind k st))
    go true i = refl
    go false i = i

-- the same of the RFC's kinds
abbrev Alike : List Sighting → List Sighting → Type 0
Alike u s = (k : ℕ) → is_own k ≡ false → of_kind k u ≡ of_kind k s

alike_has : (u s : List Sighting) → Alike u s → (k : ℕ) → is_own k ≡ false → has k u ≡ has k s
alike_has u s r k h = has_some k u ∙ ap some (r k h) ∙ sym (has_some k s)

alike_more : (u s : List Sighting) (t : Bool) (x : Sighting) → Alike u s → Alike (cond t (u ++ (x ∷ [])) u) (cond t (s ++ (x ∷ [])) s)
alike_more u s true x r k h = snoc_kind k u x ∙ ap (λ (l : List Sighting). l ++ of_kind k (x ∷ [])) (r k h) ∙ sym (snoc_kind k s x)
alike_more u s false x r k h = r k h

append_none : (l : List Sighting) → l ++ [] ≡ l
append_none [] = refl
append_none (x ∷ l) = ap (λ (t : List Sighting). x ∷ t) (append_none l)

alike_own : (u s : List Sighting) (t : Bool) (x : Sighting) → is_own x.of ≡ true → Alike u s → Alike (cond t (u ++ (x ∷ [])) u) s
alike_own u s true x o r k h = snoc_kind k u x ∙ go (eqb x.of k) refl ∙ r k h
  where
    go : (t : Bool) → eqb x.of k ≡ t → of_kind k u ++ cond t (x ∷ []) [] ≡ of_kind k u
    go true e = absurd (true≢false (sym o ∙ ap is_own (eqb-true x.of k e) ∙ h))
    go false e = append_none (of_kind k u)
alike_own u s false x o r k h = r k h

-- ---- what is asked of a record

bit_set : (k : ℕ) (bit : Bool) (b : List ℕ) → k ≤ 3 → allows (asks_of Strict k) bit b ≡ true → bit ≡ true
unfolding asks_of allows
bit_set k true b l a = refl
bit_set zero false b l a = a
bit_set (suc zero) false b l a = a
bit_set (suc (suc zero)) false b l a = a
bit_set (suc (suc (suc zero))) false b l a = a
bit_set (suc (suc (suc (suc k)))) false b l a = absurd (let z : ⊥ = omega arith in z)

empty_set : (k : ℕ) (bit : Bool) (b : List ℕ) → k ≡ 0 → allows (asks_of Strict k) bit b ≡ true → length b ≡ 0
unfolding asks_of allows
empty_set zero true b z a = go (eqb (length b) 0) refl a
  where
    go : (t : Bool) → eqb (length b) 0 ≡ t → (t && true) ≡ true → length b ≡ 0
    go true e q = eqb-true (length b) 0 e
    go false e q = absurd (true≢false (sym q))
empty_set zero false b z a = absurd (true≢false (sym a))
empty_set (suc k) bit b z a = absurd (let y : ⊥ = omega (arith, z) in y)

ascii_set : (k : ℕ) (bit : Bool) (b : List ℕ) → k ≡ 6 → allows (asks_of Strict k) bit b ≡ true → is_ascii b ≡ true
unfolding asks_of allows
ascii_set k bit b z a = rw z at a

body_size : (e : List ℕ) → Whole e → length (there e) ≡ size e
unfolding there
body_size e w = length-take-le (size e) (drop 4 e) (omega (arith, w, length-drop 4 e))

alone_long : (R : Reader) (s : List ℕ) (next : ℕ) → R.final ≡ true → follows R s next ≡ false → length s ≤ next
alone_long R s next f h = ltb-false next (length s) (sym (ap (λ (t : Bool). t && ltb next (length s)) f) ∙ h)

-- ---- one record, in both profiles

module _ (f : ℕ → List ℕ → Act) (once : ℕ → Bool) (goes_on : (k : ℕ) (b : List ℕ) → f k b ≡ ends → ⊥) where
  abbrev U : Reader
  U = table_reader f once Usual

  abbrev S : Reader
  S = table_reader f once Strict

  same_fault : (c : List ℕ) → NotOwn c → fault_in U c ≡ fault_in S c
  unfolding fault_by
  same_fault c h = rw (same_shape (kind c) h)

  calm_allowed : (c : List ℕ) → is_calm (act_in S c) ≡ true → allows (asks_of Strict (kind c)) (critical c) (there c) ≡ true
  unfolding act_in act_by
  calm_allowed c h = go (allows (asks_of Strict (kind c)) (critical c) (there c)) refl h
    where
      go : (t : Bool) → allows (asks_of Strict (kind c)) (critical c) (there c) ≡ t
          → is_calm (cond t (meaning (knows Strict (kind c)) (critical c) (cond (eqb (kind c) 0) ends (f (kind c) (there c)))) (refuses 18 nothing)) ≡ true
          → allows (asks_of Strict (kind c)) (critical c) (there c) ≡ true
      go true e q = e
      go false e q = absurd (true≢false (sym q))

  same_act : (c : List ℕ) → NotOwn c → allows (asks_of Strict (kind c)) (critical c) (there c) ≡ true → act_in U c ≡ act_in S c
  unfolding act_in act_by
  same_act c h a = rw (usual_allows (kind c) (critical c) (there c), a, same_known (kind c) h)

  -- a record of another kind is passed over
  own_passes : (c : List ℕ) → is_own (kind c) ≡ true → is_calm (act_in S c) ≡ true → noted S c ≡ false
  unfolding act_in act_by
  own_passes c h q = go (critical c) (rw (unknown_allows Strict (kind c) (critical c) (there c) (own_unknown (kind c) h), own_unknown (kind c) h))
    where
      go : (b : Bool) → act_in S c ≡ cond b (refuses 3 nothing) passes → noted S c ≡ false
      go true e = ap is_notes e
      go false e = ap is_notes e

  -- an end record that ends is allowed, and none is passed
  ends_allowed : (c : List ℕ) → act_in S c ≡ ends → allows (asks_of Strict (kind c)) (critical c) (there c) ≡ true
  unfolding act_in act_by
  ends_allowed c h = go (allows (asks_of Strict (kind c)) (critical c) (there c)) refl h
    where
      go : (t : Bool) → allows (asks_of Strict (kind c)) (critical c) (there c) ≡ t
          → cond t (meaning (knows Strict (kind c)) (critical c) (cond (eqb (kind c) 0) ends (f (kind c) (there c)))) (refuses 18 nothing) ≡ ends
          → allows (asks_of Strict (kind c)) (critical c) (there c) ≡ true
      go true e q = e
      go false e q = let z : ◌≡◌ {A = ℕ} 0 1 = cc in absurd (omega arith)

  never_calm : (c : List ℕ) → kind c ≡ 0 → is_calm (act_in S c) ≡ true → ⊥
  never_calm c z h = go (allows (asks_of Strict (kind c)) (critical c) (there c)) (sym (ap is_calm (zero_act f once goes_on Strict c z)) ∙ h)
    where
      go : (t : Bool) → is_calm (cond t ends (refuses 18 nothing)) ≡ true → ⊥
      go true q = true≢false (sym q)
      go false q = true≢false (sym q)

  -- what the usual walk says of a record of another kind, where it does not pass it
  abbrev Says : ℕ → Step → Type 0
  Says at (goes st) = Unit {0}
  Says at (stops (ended p n st)) = ⊥
  Says at (stops (stopped r)) = (r.place ≡ at) × AtOwn r.number

  module _ (fours : (k : ℕ) (b : List ℕ) (n : ℕ) (x : Beside) → is_own k ≡ true → f k b ≡ refuses n x → n ≡ 4) where
    own_says : (st : List Sighting) (at : ℕ) (c : List ℕ) → is_own (kind c) ≡ true → Says at (step U st at c)
    unfolding step judge meet act_in act_by
    own_says st at c h = by_fault (fault_in U c) refl
      where
        few : fault_in U c ≤ 2
        few = subst (λ (n : ℕ). n ≤ 2) (ap (λ (x : ℕ → Shape). fault_by x c) (λ j k. usual_shape k j)) (record_few c)

        nonzero : kind c ≡ 0 → ⊥
        nonzero z = true≢false (sym h ∙ ap is_own z ∙ zero_not)

        by_f : (a : Act) → f (kind c) (there c) ≡ a → Says at (meet U st at (kind c) (size c) a)
        by_f ends e = goes_on (kind c) (there c) e
        by_f passes e = tt
        by_f notes e = go (once (kind c) && has (kind c) st)
          where
            go : (t : Bool) → Says at (cond t (stops (stopped (record { number = 4; beside = nothing; place = at }))) (goes (st ++ (record { of = kind c; start = at + 4; len = size c } ∷ []))))
            go true = (refl, inr (inr refl))
            go false = tt
        by_f (refuses n x) e = (refl, inr (inr (fours (kind c) (there c) n x h e)))

        by_kind : (z u : Bool) → eqb (kind c) 0 ≡ z → knows Usual (kind c) ≡ u → Says at (meet U st at (kind c) (size c) (meaning u (critical c) (cond z ends (f (kind c) (there c)))))
        by_kind true u e k = absurd (nonzero (eqb-true (kind c) 0 e))
        by_kind false true e k = by_f (f (kind c) (there c)) refl
        by_kind false false e k = absurd (true≢false (sym (own_known (kind c) h) ∙ k))

        by_fault : (n : ℕ) → fault_in U c ≡ n → Says at (judge U st at c n)
        by_fault zero e = rw (usual_allows (kind c) (critical c) (there c)) (by_kind (eqb (kind c) 0) (knows Usual (kind c)) refl refl)
        by_fault (suc zero) e = (refl, inl refl)
        by_fault (suc (suc zero)) e = (refl, inr (inl refl))
        by_fault (suc (suc (suc n))) e = absurd (let z : ⊥ = omega (arith, few, e) in z)

    -- ---- one record after the other

    -- the strict walk ended at a place with what it noted; the usual one is refused at a record of another kind, or ended there as well, with the same of the RFC's kinds,
    -- and with just the same where there is no other kind
    data Parting (cs : List (List ℕ)) (at : ℕ) (u s : List Sighting) (p next : ℕ) (st : List Sighting) (o : Outcome) : Type 0 where
      parted : (r : Refused) → o ≡ stopped r → (before after : List (List ℕ)) (one : List ℕ) → cs ≡ before ++ (one ∷ after) → is_own (kind one) ≡ true → r.place ≡ at + length (flat before) → AtOwn r.number
          → Parting cs at u s p next st o
      alike : (st' : List Sighting) → o ≡ ended p next st' → Alike st' st → (Each NotOwn cs → u ≡ s → st' ≡ st) → Parting cs at u s p next st o

    end_parts : (e t : List ℕ) → End e → (u s : List Sighting) (at p next : ℕ) (st : List Sighting) → Alike u s → walk S s at 0 (e ++ t) ≡ ended p next st
        → (p ≡ at) × Parting [] at u s p next st (walk U u at 0 (e ++ t))
    unfolding step judge meet
    end_parts e t h u s at p next st r w = go (step S s at e) (step_tells S s at e) refl
      where
        rolled : after (step S s at e) (λ st'. walk S st' (at + length e) 0 t) ≡ ended p next st
        rolled = sym (unroll_chunk e t h.0 S s at) ∙ w

        not : NotOwn e
        not = ap is_own h.1 ∙ zero_not

        by_end : fault_in S e ≡ 0 → act_in S e ≡ ends → (p ≡ at) × Parting [] at u s p next st (walk U u at 0 (e ++ t))
        by_end z a =
            let allowed : allows (asks_of Strict (kind e)) (critical e) (there e) ≡ true = ends_allowed e a in
            let strict : step S s at e ≡ stops (ended at (at + (4 + size e)) s) = rw (z, a) in
            let usual : step U u at e ≡ stops (ended at (at + (4 + size e)) u) = rw (same_fault e not ∙ z, same_act e not allowed ∙ a) in
            let same : ended at (at + (4 + size e)) s ≡ ended p next st = sym (ap (λ (x : Step). after x (λ st'. walk S st' (at + length e) 0 t)) strict) ∙ rolled in
            let at_is : at ≡ p = cc in
            let next_is : at + (4 + size e) ≡ next = cc in
            let st_is : s ≡ st = cc in (
              sym at_is,
              alike u (unroll_chunk e t h.0 U u at ∙ ap (λ (x : Step). after x (λ st'. walk U st' (at + length e) 0 t)) usual ∙ (λ j. ended (at_is j) (next_is j) u))
                  (λ k n. r k n ∙ ap (of_kind k) st_is) (λ n q. q ∙ st_is),
            )

        go : (x : Step) → Tells S s at e x → step S s at e ≡ x → (p ≡ at) × Parting [] at u s p next st (walk U u at 0 (e ++ t))
        go (stops o) y q =
            let o_is : o ≡ ended p next st = sym (ap (λ (x : Step). after x (λ st'. walk S st' (at + length e) 0 t)) q) ∙ rolled in
            let k = y (ap reached o_is) in
            by_end k.0 k.1
        go (goes st') y q = absurd (never_calm e h.1 y.0.calm)

    two_walks : (cs : List (List ℕ)) (e t : List ℕ) → Each Record cs → End e → (u s : List Sighting) (at p next : ℕ) (st : List Sighting) → Alike u s
        → walk S s at 0 (flat cs ++ (e ++ t)) ≡ ended p next st → (p ≡ at + length (flat cs)) × Parting cs at u s p next st (walk U u at 0 (flat cs ++ (e ++ t)))
    two_walks [] e t i h u s at p next st r w = let y = end_parts e t h u s at p next st r w in (y.0 ∙ sym (add-zero at), y.1)
    two_walks (c ∷ cs) e t i h u s at p next st r w = go (λ u' s' x y. two_walks cs e t i.1 h u' s' (at + length c) p next st x y) (step S s at c) (step_tells S s at c) refl
      where
        rest : List ℕ
        rest = flat cs ++ (e ++ t)

        joins : flat (c ∷ cs) ++ (e ++ t) ≡ c ++ rest
        joins = append_assoc c (flat cs) (e ++ t)

        far : at + length c + length (flat cs) ≡ at + length (flat (c ∷ cs))
        far = omega (arith, length-append c (flat cs))

        rolled : after (step S s at c) (λ st'. walk S st' (at + length c) 0 rest) ≡ ended p next st
        rolled = sym (unroll_chunk c rest i.0.0 S s at) ∙ ap (walk S s at 0) (sym joins) ∙ w

        usual : (x : Step) → step U u at c ≡ x → walk U u at 0 (flat (c ∷ cs) ++ (e ++ t)) ≡ after x (λ st'. walk U st' (at + length c) 0 rest)
        usual x q = ap (walk U u at 0) joins ∙ unroll_chunk c rest i.0.0 U u at ∙ ap (λ (y : Step). after y (λ st'. walk U st' (at + length c) 0 rest)) q

        -- from the records behind this one
        on_from : (u' s' : List Sighting) (o : Outcome) → (Each NotOwn (c ∷ cs) → u ≡ s → u' ≡ s') → o ≡ walk U u' (at + length c) 0 rest
            → (p ≡ at + length c + length (flat cs)) × Parting cs (at + length c) u' s' p next st (walk U u' (at + length c) 0 rest)
            → (p ≡ at + length (flat (c ∷ cs))) × Parting (c ∷ cs) at u s p next st o
        on_from u' s' o same o_is (q, parted x e₁ before after one front own place num) =
            (q ∙ far, parted x (o_is ∙ e₁) (c ∷ before) after one (ap (λ (l : List (List ℕ)). c ∷ l) front) own (omega (arith, place, length-append c (flat before))) num)
        on_from u' s' o same o_is (q, alike st' e₁ a b) = (q ∙ far, alike st' (o_is ∙ e₁) a (λ n m. b n.1 (same n m)))

        fine : ((u' s' : List Sighting) → Alike u' s' → walk S s' (at + length c) 0 rest ≡ ended p next st
            → (p ≡ at + length c + length (flat cs)) × Parting cs (at + length c) u' s' p next st (walk U u' (at + length c) 0 rest))
            → (st' : List Sighting) → Fine S (seen_in s) c → st' ≡ grow S s at c → walk S st' (at + length c) 0 rest ≡ ended p next st
            → (p ≡ at + length (flat (c ∷ cs))) × Parting (c ∷ cs) at u s p next st (walk U u at 0 (flat (c ∷ cs) ++ (e ++ t)))
        fine later st' y grown w' = on (is_own (kind c)) own rfc
          where
            own : is_own (kind c) ≡ true → (p ≡ at + length (flat (c ∷ cs))) × Parting (c ∷ cs) at u s p next st (walk U u at 0 (flat (c ∷ cs) ++ (e ++ t)))
            own o = by (step U u at c) (own_says u at c o) (step_tells U u at c) refl
              where
                still : st' ≡ s
                still = grown ∙ ap (λ (b : Bool). cond b (s ++ (sighting_at at c ∷ [])) s) (own_passes c o y.calm)

                by : (x : Step) → Says at x → Tells U u at c x → step U u at c ≡ x → (p ≡ at + length (flat (c ∷ cs))) × Parting (c ∷ cs) at u s p next st (walk U u at 0 (flat (c ∷ cs) ++ (e ++ t)))
                by (stops (ended p' n' s')) k l q = absurd k
                by (stops (stopped r')) k l q = (
                  (later s s (λ j n. refl) (ap (λ (z : List Sighting). walk S z (at + length c) 0 rest) (sym still) ∙ w')).0 ∙ far,
                  parted r' (usual _ q) [] cs c refl o (k.0 ∙ sym (add-zero at)) k.1,
                )
                by (goes u') k l q =
                    on_from u' s _ (λ n m. absurd (true≢false (sym o ∙ n.0))) (usual _ q)
                    (later u' s (subst (λ (z : List Sighting). Alike z s) (sym l.1) (alike_own u s (noted U c) (sighting_at at c) o r))
                    (ap (λ (z : List Sighting). walk S z (at + length c) 0 rest) (sym still) ∙ w'))

            rfc : is_own (kind c) ≡ false → (p ≡ at + length (flat (c ∷ cs))) × Parting (c ∷ cs) at u s p next st (walk U u at 0 (flat (c ∷ cs) ++ (e ++ t)))
            rfc n =
                let act : act_in U c ≡ act_in S c = same_act c n (calm_allowed c y.calm) in
                let fine_u : Fine U (seen_in u) c =
                record { faultless = same_fault c n ∙ y.faultless; calm = ap is_calm act ∙ y.calm; alone = (λ j. is_notes (act j) && (once (kind c) && alike_has u s r (kind c) n j)) ∙ y.alone } in
                let grown_u : grow U u at c ≡ cond (noted S c) (u ++ (sighting_at at c ∷ [])) u = ap (λ (x : Act). cond (is_notes x) (u ++ (sighting_at at c ∷ [])) u) act in
                on_from (cond (noted S c) (u ++ (sighting_at at c ∷ [])) u) (grow S s at c) _ (λ k m. ap (λ (z : List Sighting). cond (noted S c) (z ++ (sighting_at at c ∷ [])) z) m)
                (usual _ (step_fine U u at c fine_u ∙ ap goes grown_u))
                (later (cond (noted S c) (u ++ (sighting_at at c ∷ [])) u) (grow S s at c) (alike_more u s (noted S c) (sighting_at at c) r)
                (ap (λ (z : List Sighting). walk S z (at + length c) 0 rest) (sym grown) ∙ w'))

        go : ((u' s' : List Sighting) → Alike u' s' → walk S s' (at + length c) 0 rest ≡ ended p next st
            → (p ≡ at + length c + length (flat cs)) × Parting cs (at + length c) u' s' p next st (walk U u' (at + length c) 0 rest))
            → (x : Step) → Tells S s at c x → step S s at c ≡ x → (p ≡ at + length (flat (c ∷ cs))) × Parting (c ∷ cs) at u s p next st (walk U u at 0 (flat (c ∷ cs) ++ (e ++ t)))
        go later (stops o) y q =
            let o_is : o ≡ ended p next st = sym (ap (λ (x : Step). after x (λ st'. walk S st' (at + length c) 0 rest)) q) ∙ rolled in
            absurd (i.0.1 (ends_zero f once goes_on Strict c (y (ap reached o_is)).1))
        go later (goes st') y q = fine later st' y.0 y.1 (sym (ap (λ (x : Step). after x (λ st₁. walk S st₁ (at + length c) 0 rest)) q) ∙ rolled)

    -- the strict walk passed each record, and ended with the last
    strict_ran : (cs : List (List ℕ)) (e t : List ℕ) → Each Record cs → End e → (s : List Sighting) (at p next : ℕ) (st : List Sighting) → walk S s at 0 (flat cs ++ (e ++ t)) ≡ ended p next st
        → Each (λ c. is_calm (act_in S c) ≡ true) cs × (act_in S e ≡ ends) × (next ≡ at + length (flat cs) + length e)
    unfolding step judge meet
    strict_ran [] e t i h s at p next st w = go (step S s at e) (step_tells S s at e) refl
      where
        rolled : after (step S s at e) (λ st'. walk S st' (at + length e) 0 t) ≡ ended p next st
        rolled = sym (unroll_chunk e t h.0 S s at) ∙ w

        go : (x : Step) → Tells S s at e x → step S s at e ≡ x → Unit {0} × (act_in S e ≡ ends) × (next ≡ at + 0 + length e)
        go (stops o) y q =
            let o_is : o ≡ ended p next st = sym (ap (λ (x : Step). after x (λ st'. walk S st' (at + length e) 0 t)) q) ∙ rolled in
            let k = y (ap reached o_is) in
            let strict : step S s at e ≡ stops (ended at (at + (4 + size e)) s) = rw (k.0, k.1) in
            let same : ended at (at + (4 + size e)) s ≡ ended p next st = sym (ap (λ (x : Step). after x (λ st'. walk S st' (at + length e) 0 t)) strict) ∙ rolled in
            let next_is : at + (4 + size e) ≡ next = cc in
            (tt, k.1, omega (arith, next_is, h.0))
        go (goes st') y q = absurd (never_calm e h.1 y.0.calm)
    strict_ran (c ∷ cs) e t i h s at p next st w = go (λ s' x. strict_ran cs e t i.1 h s' (at + length c) p next st x) (step S s at c) (step_tells S s at c) refl
      where
        rest : List ℕ
        rest = flat cs ++ (e ++ t)

        rolled : after (step S s at c) (λ st'. walk S st' (at + length c) 0 rest) ≡ ended p next st
        rolled = sym (unroll_chunk c rest i.0.0 S s at) ∙ ap (walk S s at 0) (sym (append_assoc c (flat cs) (e ++ t))) ∙ w

        go : ((s' : List Sighting) → walk S s' (at + length c) 0 rest ≡ ended p next st
            → Each (λ c₁. is_calm (act_in S c₁) ≡ true) cs × (act_in S e ≡ ends) × (next ≡ at + length c + length (flat cs) + length e))
            → (x : Step) → Tells S s at c x → step S s at c ≡ x
            → Each (λ c₁. is_calm (act_in S c₁) ≡ true) (c ∷ cs) × (act_in S e ≡ ends) × (next ≡ at + length (flat (c ∷ cs)) + length e)
        go later (stops o) y q =
            let o_is : o ≡ ended p next st = sym (ap (λ (x : Step). after x (λ st'. walk S st' (at + length c) 0 rest)) q) ∙ rolled in
            absurd (i.0.1 (ends_zero f once goes_on Strict c (y (ap reached o_is)).1))
        go later (goes st') y q =
            let r = later st' (sym (ap (λ (x : Step). after x (λ st₁. walk S st₁ (at + length c) 0 rest)) q) ∙ rolled) in
            ((y.0.calm, r.0), r.1, omega (arith, r.2, length-append c (flat cs)))

    -- ---- a whole message

    module _ (m : List ℕ) (n : ℕ) (p : Parts Record End m n) where
      abbrev through : List ℕ
      through = flat p.front ++ p.last

      abbrev tail : List ℕ
      tail = take (n - length through) p.tail

      -- what the limit leaves of it
      cut : take n m ≡ flat p.front ++ (p.last ++ tail)
      cut =
          ap (take n) (p.joined ∙ sym (append_assoc (flat p.front) p.last p.tail))
          ∙ take_over n through p.tail (omega (arith, p.fits, length-append (flat p.front) p.last))
          ∙ append_assoc (flat p.front) p.last tail

      usual_walks : (at next : ℕ) (st : List Sighting) → walked S (take n m) ≡ ended at next st
          → (at ≡ length (flat p.front)) × Parting p.front 0 [] [] at next st (walked U (take n m))
      unfolding is_final
      usual_walks at next st w = go (two_walks p.front p.last tail p.each p.ends [] [] 0 at next st (λ k h. refl) (ap (walk S [] 0 0) (sym cut) ∙ walked_ended S (take n m) at next st w))
        where
          go : (at ≡ 0 + length (flat p.front)) × Parting p.front 0 [] [] at next st (walk U [] 0 0 (flat p.front ++ (p.last ++ tail)))
              → (at ≡ length (flat p.front)) × Parting p.front 0 [] [] at next st (walked U (take n m))
          go (z, parted r e b a c f o q k) = (omega (arith, z), parted r (stopped_walked U (take n m) r (ap (walk U [] 0 0) cut ∙ e)) b a c f o q k)
          go (z, alike st' e a b) = (omega (arith, z), alike st' (ended_walked U (take n m) at next st' (ap (walk U [] 0 0) cut ∙ e) refl) a b)

      -- ---- as a reader of it

      module _ (D : Judge) (x : Terms) (plain : (val : Sighting → List ℕ) (l : ℕ → List Sighting)
          → D.decide (record { profile = Usual; limit = n; terms = x }) val l ≡ D.decide (record { profile = Strict; limit = n; terms = x }) val l) where
        abbrev reads : Profile → Answer D.Q
        reads P = read_by (table_reader f once) D m (record { profile = P; limit = n; terms = x })

        abbrev decides : List Sighting → Verdict D.Q Sighting
        decides st = D.decide (record { profile = Strict; limit = n; terms = x }) (body_in m) (λ k. of_kind k st)

        -- what the usual reader answers, by what both noted
        data Usually (q : D.Q Sighting) : Type 0 where
          refusing : (r : Refused) → reads Usual ≡ refused r → OwnAt p.front r.place → AtOwn r.number → Usually q
          deciding : (st st' : List Sighting) (next : ℕ) → walked S (take n m) ≡ ended (length (flat p.front)) next st → decides st ≡ yes q → Alike st' st
              → reads Usual ≡ placed (length (flat p.front)) (decides st') → (Each NotOwn p.front → st' ≡ st) → Usually q

        usually : (q : D.Q Sighting) → reads Strict ≡ accepted q → Usually q
        unfolding read_as finish
        usually q e = go (walked S (take n m)) refl e
          where
            yes_of : (at : ℕ) (v : Verdict D.Q Sighting) → placed at v ≡ accepted q → v ≡ yes q
            yes_of at (no k b) h = let z : ◌≡◌ {A = ℕ} 0 1 = cc in absurd (omega arith)
            yes_of at (yes y) h = cc

            by : (at next : ℕ) (st : List Sighting) → walked S (take n m) ≡ ended at next st → decides st ≡ yes q
                → (at ≡ length (flat p.front)) × Parting p.front 0 [] [] at next st (walked U (take n m)) → Usually q
            by at next st w d (z, parted r o b a c g own k i) =
                refusing r (ap (finish D (record { profile = Usual; limit = n; terms = x }) m) o) (record { before = b; one = c; after = a; front = g; own = own; stands = omega (arith, k) }) i
            by at next st w d (z, alike st' o a b) =
                deciding st st' next (w ∙ ap (λ (k : ℕ). ended k next st) z) d a
                (ap (finish D (record { profile = Usual; limit = n; terms = x }) m) o ∙ ap (placed at) (plain (body_in m) (λ k. of_kind k st')) ∙ ap (λ (k : ℕ). placed k (decides st')) z)
                (λ h. b h refl)

            go : (o : Outcome) → walked S (take n m) ≡ o → finish D (record { profile = Strict; limit = n; terms = x }) m o ≡ accepted q → Usually q
            go (stopped r) w h = let z : ◌≡◌ {A = ℕ} 0 1 = cc in absurd (omega arith)
            go (ended at next st) w h = by at next st w (yes_of at (decides st) h) (usual_walks at next st w)

        -- without another kind it is read alike
        read_alike : (q : D.Q Sighting) → reads Strict ≡ accepted q → Each NotOwn p.front → reads Usual ≡ accepted q
        read_alike q e h = go (usually q e)
          where
            none_own : (before rest : List (List ℕ)) (one : List ℕ) → Each NotOwn (before ++ (one ∷ rest)) → is_own (kind one) ≡ true → ⊥
            none_own [] rest one i o = true≢false (sym o ∙ i.0)
            none_own (c ∷ before) rest one i o = none_own before rest one i.1 o

            go : Usually q → reads Usual ≡ accepted q
            go (refusing r u o k) = absurd (none_own o.before o.after o.one (subst (Each NotOwn) o.front h) o.own)
            go (deciding st st' next w d a u same) = u ∙ ap (λ (s : List Sighting). placed (length (flat p.front)) (decides s)) (same h) ∙ ap (placed (length (flat p.front))) d

        -- ---- and it is what the RFC allows

        ended_so : (q : D.Q Sighting) → reads Strict ≡ accepted q → (at : ℕ) × (next : ℕ) × (st : List Sighting) × (walked S (take n m) ≡ ended at next st) × (decides st ≡ yes q)
        unfolding read_as finish
        ended_so q e = go (walked S (take n m)) refl e
          where
            yes_so : (at : ℕ) (v : Verdict D.Q Sighting) → placed at v ≡ accepted q → v ≡ yes q
            yes_so at (no k b) h = let z : ◌≡◌ {A = ℕ} 0 1 = cc in absurd (omega arith)
            yes_so at (yes y) h = cc

            go : (o : Outcome) → walked S (take n m) ≡ o → finish D (record { profile = Strict; limit = n; terms = x }) m o ≡ accepted q
                → (at : ℕ) × (next : ℕ) × (st : List Sighting) × (walked S (take n m) ≡ ended at next st) × (decides st ≡ yes q)
            go (stopped r) w h = let z : ◌≡◌ {A = ℕ} 0 1 = cc in absurd (omega arith)
            go (ended at next st) w h = (at, next, st, w, yes_so at (decides st) h)

        sound : (q : D.Q Sighting) → reads Strict ≡ accepted q → Allowed m n p
        unfolding is_final
        sound q e =
            let w = ended_so q e in
            let o = walked_ended S (take n m) w.0 w.1 w.2 w.3 in
            let r = strict_ran p.front p.last tail p.each p.ends [] 0 w.0 w.1 w.2 (ap (walk S [] 0 0) (sym cut) ∙ o) in
            let each = each_map calm_allowed p.front r.0 in
            let end = ends_allowed p.last r.1 in
            let late : length (take n m) ≤ w.1 = alone_long S (take n m) w.1 refl (walked_alone S (take n m) w.0 w.1 w.2 w.3) in
            record {
              bits = each_map (λ c a k. bit_set (kind c) (critical c) (there c) k a) p.front each;
              names = each_map (λ c a k. ascii_set (kind c) (critical c) (there c) k a) p.front each;
              end_bit = bit_set (kind p.last) (critical p.last) (there p.last) (omega (arith, p.ends.1)) end;
              end_empty = p.ends.0 ∙ ap (λ (k : ℕ). 4 + k) (sym (body_size p.last p.ends.0) ∙ empty_set (kind p.last) (critical p.last) (there p.last) p.ends.1 end);
              end_final = omega (arith, r.2, late, ap length cut, length-append (flat p.front) (p.last ++ tail), length-append p.last tail);
            }

-- ---- requests

request_four : (k : ℕ) (b : List ℕ) (n : ℕ) (x : Beside) → is_own k ≡ true → requests.act k b ≡ refuses n x → n ≡ 4
unfolding requests.act
request_four k b n x o e = go (eqb k 2 || eqb k 3 || eqb k 5) (eqb k 6 || eqb k 7) e
  where
    go : (s t : Bool) → cond s (refuses 4 nothing) (cond t passes notes) ≡ refuses n x → n ≡ 4
    go true t h = cc
    go false true h = let z : ◌≡◌ {A = ℕ} 0 1 = cc in absurd (omega arith)
    go false false h = let z : ◌≡◌ {A = ℕ} 0 1 = cc in absurd (omega arith)

-- both lists were found
abbrev Lists : Sighting → Sighting → (ℕ → List Sighting) → Type 0
Lists a b l = ((xs : List Sighting) × (l 1 ≡ a ∷ xs)) × ((ys : List Sighting) × (l 4 ≡ b ∷ ys))

-- what is decided with both lists there
abbrev Decided : Sighting → Sighting → Verdict requests.Form Sighting → Type 0
Decided a b (no n x) = (4 ≤ n) × (n ≤ 7)
Decided a b (yes q) = ((d : List Sighting) × (q ≡ requests.key_exchange a b d)) ⊎ ((u : Sighting) × (x : Sighting) × (k : Bool) × (q ≡ requests.fixed_key u x b a k))

decided_with : (room : ℕ) (val : Sighting → List ℕ) (l : ℕ → List Sighting) (a b : Sighting) → Lists a b l → Decided a b (requests.decide room val l)
unfolding requests.decide requests.fixed_by requests.keyed
decided_with room val l a b h = rw (h.0.1, h.1.1) (go (some (l 9) || some (l 10)) (l 12) (l 14))
  where
    keyed : (t : Bool) (x : Described) (n half : ℕ) (u y : Sighting) (k : Bool) → Decided a b (cond t (requests.keyed x n half (requests.fixed_key u y b a k)) (no 4 nothing))
    keyed true unknown n half u y k = (omega arith, omega arith)
    keyed true (known s size) n half u y k = of (eqb half size)
      where
        of : (t : Bool) → Decided a b (cond t (yes (requests.fixed_key u y b a k)) (no 6 nothing))
        of true = inr (u, y, k, refl)
        of false = (omega arith, omega arith)
    keyed false x n half u y k = (omega arith, omega arith)

    support : (t : Bool) (u : Sighting) → Decided a b (cond (t || true || true) (no 4 nothing) (yes (requests.support u (some (l 9)) (some (l 10)) (some (l 8)))))
    support true u = (omega arith, omega arith)
    support false u = (omega arith, omega arith)

    exchange : (t : Bool) → Decided a b (cond t (no 7 nothing) (yes (requests.key_exchange a b (l 13))))
    exchange true = (omega arith, omega arith)
    exchange false = inl (l 13, refl)

    go : (t : Bool) (keys auth : List Sighting)
        → Decided a b (cond t (with_first auth (no 4 nothing) (λ u. cond (some (l 12) || true || true) (no 4 nothing) (yes (requests.support u (some (l 9)) (some (l 10)) (some (l 8))))))
        (with_first keys (cond (ltb room (length (l 13))) (no 7 nothing) (yes (requests.key_exchange a b (l 13))))
        (λ x. with_first auth (no 4 nothing) (λ u. cond (eqb (length (val a)) 2 && eqb (length (val b)) 2) (requests.keyed (describe (number_at (val b) 0)) (number_at (val b) 0) (length (val x) / 2) (requests.fixed_key u x b a (some (l 8)))) (no 4 nothing)))))
    go true keys [] = (omega arith, omega arith)
    go true keys (u ∷ auth) = support (some (l 12)) u
    go false [] auth = exchange (ltb room (length (l 13)))
    go false (x ∷ keys) [] = (omega arith, omega arith)
    go false (x ∷ keys) (u ∷ auth) = keyed (eqb (length (val a)) 2 && eqb (length (val b)) 2) (describe (number_at (val b) 0)) (number_at (val b) 0) (length (val x) / 2) u x (some (l 8))

-- a strict request has both lists, and denies no name
module _ (m : List ℕ) (n room : ℕ) where
  none_noted : (at next : ℕ) (st : List Sighting) → walked (requests.reader Strict) (take n m) ≡ ended at next st → (k : ℕ) → 8 ≤ k → of_kind k st ≡ []
  none_noted at next st w k h = walk_unnoted (requests.reader Strict) k (never_notes Strict k (strict_far k h)) [] 0 0 (take n m) at next st (walked_ended (requests.reader Strict) (take n m) at next st w)

  found_lists : (l : ℕ → List Sighting) (val : Sighting → List ℕ) (q : requests.Form Sighting) → l 9 ≡ [] → l 10 ≡ [] → l 12 ≡ [] → l 13 ≡ [] → requests.decide room val l ≡ yes q
      → (a : Sighting) × (b : Sighting) × (q ≡ requests.key_exchange a b []) × Lists a b l
  unfolding requests.decide
  found_lists l val q e9 e10 e12 e13 d = go (l 1) refl (l 4) refl (rw (e9, e10, e12, e13, le-ltb room 0 (omega arith)) at d)
    where
      go : (x : List Sighting) → l 1 ≡ x → (y : List Sighting) → l 4 ≡ y → ◌≡◌ {A = Verdict requests.Form Sighting} (with_first x (no 4 nothing) (λ p. with_first y (no 4 nothing) (λ a. yes (requests.key_exchange p a [])))) (yes q)
          → (a : Sighting) × (b : Sighting) × (q ≡ requests.key_exchange a b []) × Lists a b l
      go [] i y j h = let z : ◌≡◌ {A = ℕ} 0 1 = cc in absurd (omega arith)
      go (a ∷ x) i [] j h = let z : ◌≡◌ {A = ℕ} 0 1 = cc in absurd (omega arith)
      go (a ∷ x) i (b ∷ y) j h = let z : requests.key_exchange a b [] ≡ q = cc in (a, b, sym z, ((x, i), (y, j)))

  module _ (p : Parts Record End m n) where
    abbrev lent : Terms
    lent = room_for room

    -- what is found in both lists is what it tells
    listed : (q : requests.Form Sighting) → requests.request Strict m n room ≡ accepted q
        → (at : ℕ) × (next : ℕ) × (st : List Sighting) × (walked (requests.reader Strict) (take n m) ≡ ended at next st) × (requests.decide room (body_in m) (λ k. of_kind k st) ≡ yes q)
    unfolding requests.request
    listed q e = ended_so requests.act requests.once request_goes request_four m n p requests.judging lent (λ val l. refl) q e

    lists_of : (next at : ℕ) (st : List Sighting) (q : requests.Form Sighting) → walked (requests.reader Strict) (take n m) ≡ ended at next st → requests.decide room (body_in m) (λ k. of_kind k st) ≡ yes q
        → (a : Sighting) × (b : Sighting) × (q ≡ requests.key_exchange a b []) × Lists a b (λ k. of_kind k st)
    lists_of next at st q w d =
        let none = none_noted at next st w in
        found_lists (λ k. of_kind k st) (body_in m) q (none 9 (omega arith)) (none 10 (omega arith)) (none 12 (omega arith)) (none 13 (omega arith)) d

    -- it is a key exchange, and denies no name
    pub strict_request_exchange : (q : requests.Form Sighting) → requests.request Strict m n room ≡ accepted q → (a : Sighting) × (b : Sighting) × (q ≡ requests.key_exchange a b [])
    strict_request_exchange q e = let w = listed q e in let y = lists_of w.1 w.0 w.2 q w.3 w.4 in (y.0, y.1, y.2)

    -- it is what the RFC allows
    pub strict_request_sound : (q : requests.Form Sighting) → requests.request Strict m n room ≡ accepted q → Allowed m n p
    unfolding requests.request
    strict_request_sound q e = sound requests.act requests.once request_goes request_four m n p requests.judging lent (λ val l. refl) q e

    -- the usual reader reads it alike, unless it holds another kind
    pub strict_request_usual : (q : requests.Form Sighting) → requests.request Strict m n room ≡ accepted q → Each (λ c. is_own (kind c) ≡ false) p.front → requests.request Usual m n room ≡ accepted q
    unfolding requests.request
    strict_request_usual q e h = read_alike requests.act requests.once request_goes request_four m n p requests.judging lent (λ val l. refl) q e h

    -- .. and then so
    pub strict_request_other : (a b : Sighting) → requests.request Strict m n room ≡ accepted (requests.key_exchange a b []) → UsualRequest p.front a b (requests.request Usual m n room)
    unfolding requests.request
    strict_request_other a b e = go (usually requests.act requests.once request_goes request_four m n p requests.judging lent (λ val l. refl) (requests.key_exchange a b []) e)
      where
        alike_lists : (st st' : List Sighting) → Lists a b (λ k. of_kind k st) → Alike st' st → Lists a b (λ k. of_kind k st')
        alike_lists st st' h r = ((h.0.0, r 1 one_not ∙ h.0.1), (h.1.0, r 4 four_not ∙ h.1.1))

        same_lists : (a' b' : Sighting) (l : ℕ → List Sighting) → requests.key_exchange a b [] ≡ requests.key_exchange a' b' [] → Lists a' b' l → Lists a b l
        same_lists a' b' l q h = let x : a' ≡ a = cc in let y : b' ≡ b = cc in ((h.0.0, h.0.1 ∙ ap (λ (z : Sighting). z ∷ h.0.0) x), (h.1.0, h.1.1 ∙ ap (λ (z : Sighting). z ∷ h.1.0) y))

        by : (at : ℕ) (v : Verdict requests.Form Sighting) → at ≡ length (flat p.front) → Decided a b v → UsualRequest p.front a b (placed at v)
        by at (no k x) z d = spec.at_end (record { number = k; beside = x; place = at }) z d
        by at (yes q) z (inl d) = rw d.1 (spec.exchange d.0)
        by at (yes q) z (inr d) = rw d.3 (spec.with_keys d.0 d.1 d.2)

        go : Usually requests.act requests.once request_goes request_four m n p requests.judging lent (λ val l. refl) (requests.key_exchange a b []) → UsualRequest p.front a b (read_by requests.reader requests.judging m (record { profile = Usual; limit = n; terms = lent }))
        go (refusing r u o k) = rw u (spec.at_own r o k)
        go (deciding st st' next w d r u same) =
            let y = lists_of next (length (flat p.front)) st (requests.key_exchange a b []) w d in
            rw u (by (length (flat p.front)) (requests.decide room (body_in m) (λ k. of_kind k st')) refl
            (decided_with room (body_in m) (λ k. of_kind k st') a b (alike_lists st st' (same_lists y.0 y.1 (λ k. of_kind k st) y.2 y.3) r)))

-- ---- replies

reply_four : (k : ℕ) (b : List ℕ) (n : ℕ) (x : Beside) → is_own k ≡ true → replies.act k b ≡ refuses n x → n ≡ 4
unfolding replies.act
reply_four k b n x o e =
    go (eqb k 2) refl (eqb k 3) refl ((eqb k 1 || eqb k 4) && ltb 2 (length b)) (eqb k 9 || eqb k 10 || eqb k 12 || eqb k 13 || eqb k 14) e
  where
    never : (j : ℕ) → j < 8 → eqb k j ≡ true → ⊥
    never j l q = true≢false (sym o ∙ ap is_own (eqb-true k j q) ∙ near_not j l)

    go : (s : Bool) → eqb k 2 ≡ s → (t : Bool) → eqb k 3 ≡ t → (u v : Bool)
        → cond s (refuses 11 (code (number_at b 0))) (cond t (refuses 12 (code (number_at b 0))) (cond u (refuses 4 nothing) (cond v (refuses 4 nothing) notes))) ≡ refuses n x → n ≡ 4
    go true p t q u v h = absurd (never 2 (omega arith) p)
    go false p true q u v h = absurd (never 3 (omega arith) q)
    go false p false q true v h = cc
    go false p false q false true h = cc
    go false p false q false false h = let z : ◌≡◌ {A = ℕ} 0 1 = cc in absurd (omega arith)

-- what is accepted with the same records of the RFC's kinds is the same but for keep-alive
module _ (x : Terms) (val : Sighting → List ℕ) (l l' : ℕ → List Sighting) (same : (k : ℕ) → k < 8 → l' k ≡ l k) (p a : Sighting) (s t : replies.Sent Sighting) (k : Bool) (c : List Sighting) where
  abbrev Verdicts : Type 0
  Verdicts = Verdict replies.Form Sighting

  no_yes : (n : ℕ) (b : Beside) (q : replies.Form Sighting) → ◌≡◌ {A = Verdicts} (no n b) (yes q) → ⊥
  no_yes n b q e = let z : ◌≡◌ {A = ℕ} 0 1 = cc in omega arith

  abbrev To : Verdicts → Verdicts → Type 0
  To v w = v ≡ yes (replies.reply p a s t k c) → w ≡ yes (replies.reply p a s t (some (l' 8)) c)

  to_no : (n : ℕ) (b : Beside) → To (no n b) (no n b)
  to_no n b e = absurd (no_yes n b _ e)

  to_if : (b : Bool) (v w v' w' : Verdicts) → To v v' → To w w' → To (cond b v w) (cond b v' w')
  to_if true v w v' w' f g = f
  to_if false v w v' w' f g = g

  to_first : (y : List Sighting) (v v' : Verdicts) (f f' : Sighting → Verdicts) → To v v' → ((z : Sighting) → To (f z) (f' z)) → To (with_first y v f) (with_first y v' f')
  to_first [] v v' f f' g h = g
  to_first (z ∷ y) v v' f f' g h = h z

  to_same : (p' a' : Sighting) (s' t' : replies.Sent Sighting) (k' : Bool) (c' : List Sighting) → To (yes (replies.reply p' a' s' t' k' c')) (yes (replies.reply p' a' s' t' (some (l' 8)) c'))
  to_same p' a' s' t' k' c' e = cc

  reply_alike : To (replies.decide x val l) (replies.decide x val l')
  unfolding replies.decide
  reply_alike =
      rw (same 1 (omega arith), same 4 (omega arith), same 5 (omega arith), same 6 (omega arith), same 7 (omega arith))
      (to_first (l 1) _ _ _ _ (to_no 4 nothing)
      (λ p'. to_if (eqb (length (val p')) 0) _ _ _ _ (to_no 13 nothing)
      (to_first (l 4) _ _ _ _ (to_no 4 nothing)
      (λ a'. to_if (eqb (length (val a')) 0) _ _ _ _ (to_no 14 nothing)
      (to_if (not (x.protocols (number_at (val p') 0))) _ _ _ _ (to_no 17 _)
      (to_if (not (x.algorithms (number_at (val a') 0))) _ _ _ _ (to_no 17 _)
      (to_if (eqb (length (l 5)) 0) _ _ _ _ (to_no 15 nothing)
      (to_if (ltb x.room (length (l 5))) _ _ _ _ (to_no 7 nothing) (to_same p' a' _ _ _ _)))))))))

module _ (m : List ℕ) (n : ℕ) (x : Terms) (p : Parts Record End m n) where
  pub strict_reply_sound : (q : replies.Form Sighting) → replies.reply_of Strict m n x ≡ accepted q → Allowed m n p
  unfolding replies.reply_of
  strict_reply_sound q e = sound replies.act replies.once reply_goes reply_four m n p replies.judging x (λ val l. refl) q e

  pub strict_reply_usual : (q : replies.Form Sighting) → replies.reply_of Strict m n x ≡ accepted q → Each (λ c. is_own (kind c) ≡ false) p.front → replies.reply_of Usual m n x ≡ accepted q
  unfolding replies.reply_of
  strict_reply_usual q e h = read_alike replies.act replies.once reply_goes reply_four m n p replies.judging x (λ val l. refl) q e h

  pub strict_reply_other : (a b : Sighting) (s t : replies.Sent Sighting) (k : Bool) (c : List Sighting) → replies.reply_of Strict m n x ≡ accepted (replies.reply a b s t k c)
      → UsualReply p.front a b s t c (replies.reply_of Usual m n x)
  unfolding replies.reply_of
  strict_reply_other a b s t k c e = go (usually replies.act replies.once reply_goes reply_four m n p replies.judging x (λ val l. refl) (replies.reply a b s t k c) e)
    where
      go : Usually replies.act replies.once reply_goes reply_four m n p replies.judging x (λ val l. refl) (replies.reply a b s t k c)
          → UsualReply p.front a b s t c (read_by replies.reader replies.judging m (record { profile = Usual; limit = n; terms = x }))
      go (refusing r u o i) = rw u (spec.at_own r o i)
      go (deciding st st' next w d r u same) =
          rw (u ∙ ap (placed (length (flat p.front))) (reply_alike x (body_in m) (λ j. of_kind j st) (λ j. of_kind j st') (λ j l. r j (near_not j l)) a b s t k c d)) (spec.same (some (of_kind 8 st')))

  -- keep-alive is never told
  pub strict_reply_silent : (a b : Sighting) (s t : replies.Sent Sighting) (k : Bool) (c : List Sighting) → replies.reply_of Strict m n x ≡ accepted (replies.reply a b s t k c) → k ≡ false
  unfolding replies.reply_of act_by
  strict_reply_silent a b s t k c e =
      let w = ended_so replies.act replies.once reply_goes reply_four m n p replies.judging x (λ val l. refl) (replies.reply a b s t k c) e in
      let none : of_kind 8 w.2 ≡ [] = walk_unnoted (replies.reader Strict) 8 never_eight [] 0 0 (take n m) w.0 w.1 w.2 (walked_ended (replies.reader Strict) (take n m) w.0 w.1 w.2 w.3) in
      let y = reply_alike x (body_in m) (λ j. of_kind j w.2) (λ j. of_kind j w.2) (λ j l. refl) a b s t k c w.4 in
      let z : k ≡ some (of_kind 8 w.2) = cc in
      z ∙ ap some none
    where
      never_eight : (bit : Bool) (b : List ℕ) → (replies.reader Strict).act 8 bit b ≡ notes → ⊥
      never_eight bit b h = go bit (rw (unknown_allows Strict 8 bit b (strict_far 8 (omega arith)), strict_far 8 (omega arith)) at h)
        where
          go : (d : Bool) → cond d (refuses 3 nothing) passes ≡ notes → ⊥
          go true z = let o : ◌≡◌ {A = ℕ} 0 1 = cc in omega arith
          go false z = let o : ◌≡◌ {A = ℕ} 0 1 = cc in omega arith

-- ---- of the calls that a host links, whatever they are lent

-- the table of names is as it was, of a request that is accepted as well
pub strict_request_unwritten : (m : List ℕ) (n room : ℕ) (table : List ℕ) → requests.table_after (requests.request Strict m n room) table ≡ table
unfolding requests.request requests.table_after
strict_request_unwritten m n room table = go (requests.request Strict m n room) refl
  where
    go : (x : Answer requests.Form) → requests.request Strict m n room ≡ x → requests.table_after x table ≡ table
    go (refused r) e = over_none table
    go (accepted q) e =
        let y = strict_request_exchange m n room (request_ordered.accepted_is m (record { profile = Strict; limit = n; terms = room_for room }) q e) q e in
        ap (λ (z : requests.Form Sighting). requests.table_after (accepted z) table) y.2 ∙ over_none table

pub read_request_strict_unwritten : (c : ReadRequestStrict) → (request_host_strict c).filled ≡ (request_host_strict c).table
read_request_strict_unwritten c =
    c.met.left ∙ strict_request_unwritten (request_host_strict c).message (request_host_strict c).limit (room_of (request_host_strict c).table) (request_host_strict c).table

-- the cell that tells keep-alive is 0, or the cells are as they were lent, since it refused
pub read_reply_strict_silent : (c : ReadReplyStrict) → ((reply_host_strict c).after ≡ (reply_host_strict c).lent) ⊎ (cell (reply_host_strict c).after 7 ≡ 0)
unfolding replies.reply_of
read_reply_strict_silent c = go (replies.reply_of Strict (reply_host_strict c).message (reply_host_strict c).limit (replies.offering (reply_host_strict c).protocols (reply_host_strict c).algorithms (room_of (reply_host_strict c).table))) refl
  where
    go : (a : Answer replies.Form) → replies.reply_of Strict (reply_host_strict c).message (reply_host_strict c).limit (replies.offering (reply_host_strict c).protocols (reply_host_strict c).algorithms (room_of (reply_host_strict c).table)) ≡ a
        → ((reply_host_strict c).after ≡ (reply_host_strict c).lent) ⊎ (cell (reply_host_strict c).after 7 ≡ 0)
    go (refused r) e = inl (c.met.gives.left ∙ ap (λ (a : Answer replies.Form). held (reply_given (replies.told_by (reply_host_strict c).message a)) (reply_host_strict c).lent) e)
    go (accepted (replies.reply p a s t k d)) e =
        let u : Under = record { profile = Strict; limit = (reply_host_strict c).limit; terms = replies.offering (reply_host_strict c).protocols (reply_host_strict c).algorithms (room_of (reply_host_strict c).table) } in
        let z = strict_reply_silent (reply_host_strict c).message (reply_host_strict c).limit u.terms (reply_ordered.accepted_is (reply_host_strict c).message u (replies.reply p a s t k d) e) p a s t k d e in
        inr (ap (λ (l : List ℕ). cell l 7) (c.met.gives.left ∙ ap (λ (a : Answer replies.Form). held (reply_given (replies.told_by (reply_host_strict c).message a)) (reply_host_strict c).lent) e) ∙ ap flag z)
