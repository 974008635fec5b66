-- Demand 3 of a reader, from the laws of its definition: first of the definition, then of every call that answers as the definition does where there is room through the
-- end record.
-- Assumes nothing.
use mathlib.Core.Path.{◌≡◌, refl, sym, ap, subst, ◌∙◌}
use mathlib.Core.List.{List, [], ◌∷◌, ◌++◌, Permᴰ}
use mathlib.Core.Bool.{false, true≢false}
use Prim.Native.Nat.{ℕ, ◌+◌}
use lib.ListN.{length}
use Rattle.nts.specs.Refusal.{Refused}
use Rattle.walk.specs.Walk.{Sighting}
use Rattle.walk.specs.Judge.{Under, Answer, refused, accepted}
use Rattle.record.specs.Record.{kind}
use Rattle.walk.specs.Message.{Whole, Record, End, Each, flat, message, Parts}
use Rattle.layout.specs.Profile.{knows}
use Rattle.layout.specs.declared.Profile.{Profile}
use Rattle.layout.proofs.Profiles.{zero_known}
use Rattle.walk.proofs.Demand3.{Showing, Ordered}
use Rattle.promises.specs.Demand3.{Reader, Likewise, Steady, Demand3, Question, defined}

-- ---- records in another order, and one more

each_perm : (P : List ℕ → Type 0) {l m : List (List ℕ)} → Permᴰ l m → Each P l → Each P m
each_perm P Permᴰ.nil h = h
each_perm P (Permᴰ.cons {l₂ = l₂} e d) h = subst (λ (x : List ℕ). Each P (x ∷ l₂)) e (h.0, each_perm P d h.1)
each_perm P (Permᴰ.swap e₁ e₂) h = rw (← e₁, ← e₂) (h.1.0, (h.0, h.1.1))
each_perm P (Permᴰ.trans d₁ d₂) h = each_perm P d₂ (each_perm P d₁ h)

each_more : (P : List ℕ → Type 0) (xs ys : List (List ℕ)) (u : List ℕ) → Each P (xs ++ ys) → P u → Each P (xs ++ (u ∷ ys))
each_more P [] ys u h p = (p, h)
each_more P (x ∷ xs) ys u h p = (h.0, each_more P xs ys u h.1 p)

-- an unknown record does not end a message
unknown_record : (X : Profile) (u : List ℕ) → Whole u → knows X (kind u) ≡ false → Record u
unknown_record X u w k = (w, λ z. true≢false (sym (zero_known X) ∙ ap (knows X) (sym z) ∙ k))

-- the form Q of what the definition accepts, and what is shown of that
module _ {Q : Type 0 → Type 0} (reading : List ℕ → Under → Answer Q) (shows : List ℕ → Q Sighting → Q (List ℕ)) where
  -- ---- the definition

  module _ (L : Ordered reading shows) where
    abbrev D : Reader (Q (List ℕ))
    D = defined reading shows

    -- what is shown of a message is shown of a call that was asked likewise
    asked_likewise : (c d : Question) (cs : List (List ℕ)) (e t₀ t : List ℕ) (x : Q (List ℕ)) → Likewise D c d cs e t₀ t → Showing reading shows (message cs e t) c.under x → D.Accepts d x
    asked_likewise c d cs e t₀ t x l h = rw (l.asked, l.under) h

    module _ (c : Question) (x : Q (List ℕ)) (h : D.Accepts c x) (p : Parts Record End c.message c.under.limit) where
      again : reading (message p.front p.last p.tail) c.under ≡ accepted h.0
      again = ap (λ (m : List ℕ). reading m c.under) (sym p.joined) ∙ h.1

      shown_again : shows (message p.front p.last p.tail) h.0 ≡ x
      shown_again = ap (λ (m : List ℕ). shows m h.0) (sym p.joined) ∙ h.2

      -- the front in two, around the place of a record more
      module _ (xs ys : List (List ℕ)) (f : p.front ≡ xs ++ ys) where
        in_two : Each Record (xs ++ ys)
        in_two = subst (Each Record) f p.each

        again_in_two : reading (message (xs ++ ys) p.last p.tail) c.under ≡ accepted h.0
        again_in_two = ap (λ (l : List (List ℕ)). reading (message l p.last p.tail) c.under) (sym f) ∙ again

        shown_in_two : shows (message (xs ++ ys) p.last p.tail) h.0 ≡ x
        shown_in_two = ap (λ (l : List (List ℕ)). shows (message l p.last p.tail) h.0) (sym f) ∙ shown_again

      steady_by : Steady D c x p
      steady_by = record {
        reordered = λ cs t d l perm names cookies.
            let s = L.reordered c.under p.front cs p.last p.tail t h.0 p.each p.ends perm l.tail names cookies again in
            asked_likewise c d cs p.last p.tail t x l (s.0, s.1, s.2 ∙ shown_again);
        inserted = λ xs ys u t d l f w k fits b.
            let s = L.inserted c.under xs ys u p.last p.tail t h.0 (in_two xs ys f) p.ends l.tail w k b fits (again_in_two xs ys f) in
            asked_likewise c d (xs ++ (u ∷ ys)) p.last p.tail t x l (s.0, s.1, s.2 ∙ shown_in_two xs ys f);
        inserted_critical = λ xs ys u t d l f w k fits b.
            let s = L.inserted_critical c.under xs ys u p.last p.tail t h.0 (in_two xs ys f) p.ends w k b fits (again_in_two xs ys f) in
            rw (l.asked, l.under) s;
      }

    pub by_definition : Demand3 D
    by_definition = record {
      is = λ c x h. L.accepted_is c.message c.under h.0 h.1;
      steady = λ c x h p. steady_by c x h p;
    }

  -- ---- calls that answer as the definition does

  -- what is in hand is a function of the bodies shown
  pub record Faithful {S : Type 0} (R : Reader S) (in_hand : Q (List ℕ) → S) : Type 1 where
    pub accepted_by : (c : R.Call) (s : S) → R.Accepts c s
        → (q : Q Sighting) × (reading (R.asked c) (R.under c) ≡ accepted q) × (in_hand (shows (R.asked c) q) ≡ s)
    pub accepts : (c : R.Call) (q : Q Sighting) → reading (R.asked c) (R.under c) ≡ accepted q → R.Accepts c (in_hand (shows (R.asked c) q))
    pub refuses : (c : R.Call) (y : Refused) → reading (R.asked c) (R.under c) ≡ refused y → R.Refuses c y

  -- .. where the call's message is records, an end record and a tail, and it has room through the end record
  pub record Able {S : Type 0} (R : Reader S) (c : R.Call) : Type 0 where
    pub front : List (List ℕ)
    pub last : List ℕ
    pub tail : List ℕ
    pub asked : R.asked c ≡ message front last tail
    pub each : Each Record front
    pub ends : End last
    pub holds : R.Holds c (length (flat front) + length last)

  pub record Answering {S : Type 0} (R : Reader S) (in_hand : Q (List ℕ) → S) : Type 1 where
    pub accepted_by : (c : R.Call) (s : S) → R.Accepts c s
        → (q : Q Sighting) × (reading (R.asked c) (R.under c) ≡ accepted q) × (in_hand (shows (R.asked c) q) ≡ s)
    pub accepts : (c : R.Call) → Able R c → (q : Q Sighting) → reading (R.asked c) (R.under c) ≡ accepted q → R.Accepts c (in_hand (shows (R.asked c) q))
    pub refuses : (c : R.Call) → Able R c → (y : Refused) → reading (R.asked c) (R.under c) ≡ refused y → R.Refuses c y

  -- a reader of whole messages asks for no room
  pub of_whole : {S : Type 0} {R : Reader S} {in_hand : Q (List ℕ) → S} → Faithful R in_hand → Answering R in_hand
  of_whole F = record { accepted_by = F.accepted_by; accepts = λ c a q w. F.accepts c q w; refuses = λ c a y w. F.refuses c y w }

  module _ {S : Type 0} (R : Reader S) (in_hand : Q (List ℕ) → S) (F : Answering R in_hand) (T : Demand3 (defined reading shows)) where
    abbrev question : R.Call → Question
    question c = record { message = R.asked c; under = R.under c }

    likewise : (c d : R.Call) (cs : List (List ℕ)) (e t₀ t : List ℕ) → Likewise R c d cs e t₀ t → Likewise (defined reading shows) (question c) (question d) cs e t₀ t
    likewise c d cs e t₀ t l = record { asked = l.asked; tail = l.tail; under = l.under; holds = tt }

    able : (c d : R.Call) (cs : List (List ℕ)) (e t₀ t : List ℕ) → Likewise R c d cs e t₀ t → Each Record cs → End e → Able R d
    able c d cs e t₀ t l i h = record { front = cs; last = e; tail = t; asked = l.asked; each = i; ends = h; holds = l.holds }

    shown : (d : R.Call) → Able R d → (x : Q (List ℕ)) (s : S) → in_hand x ≡ s → Showing reading shows (R.asked d) (R.under d) x → R.Accepts d s
    shown d a x s e h = subst (R.Accepts d) (ap in_hand h.2 ∙ e) (F.accepts d a h.0 h.1)

    module _ (c : R.Call) (s : S) (h : R.Accepts c s) where
      by : (q : Q Sighting) × (reading (R.asked c) (R.under c) ≡ accepted q) × (in_hand (shows (R.asked c) q) ≡ s)
      by = F.accepted_by c s h

      abbrev x : Q (List ℕ)
      x = shows (R.asked c) by.0

      accepts_so : Showing reading shows (R.asked c) (R.under c) x
      accepts_so = (by.0, by.1, refl)

      module _ (p : Parts Record End (R.asked c) (R.under c).limit) where
        -- with a record more, of unknown kind
        able_more : (xs ys : List (List ℕ)) (u t : List ℕ) (d : R.Call) → Likewise R c d (xs ++ (u ∷ ys)) p.last p.tail t → p.front ≡ xs ++ ys → Whole u → knows (R.under c).profile (kind u) ≡ false → Able R d
        able_more xs ys u t d l f w k =
            able c d (xs ++ (u ∷ ys)) p.last p.tail t l (each_more Record xs ys u (subst (Each Record) f p.each) (unknown_record (R.under c).profile u w k)) p.ends

        carried_steady : Steady R c s p
        carried_steady =
            let i = T.steady (question c) x accepts_so p in
            record {
              reordered = λ cs t d l perm names cookies.
                  shown d (able c d cs p.last p.tail t l (each_perm Record perm p.each) p.ends) x s by.2
                  (i.reordered cs t (question d) (likewise c d cs p.last p.tail t l) perm names cookies);
              inserted = λ xs ys u t d l f w k fits b.
                  shown d (able_more xs ys u t d l f w k) x s by.2 (i.inserted xs ys u t (question d) (likewise c d (xs ++ (u ∷ ys)) p.last p.tail t l) f w k fits b);
              inserted_critical = λ xs ys u t d l f w k fits b.
                  F.refuses d (able_more xs ys u t d l f w k) _ (i.inserted_critical xs ys u t (question d) (likewise c d (xs ++ (u ∷ ys)) p.last p.tail t l) f w k fits b);
            }

    pub by_calls : Demand3 R
    by_calls = record {
      is = λ c s h. T.is (question c) (x c s h) (accepts_so c s h);
      steady = carried_steady;
    }
