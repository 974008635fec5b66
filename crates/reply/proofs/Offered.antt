-- What was offered changes the answer to a reply to 17 alone; so one that names what was offered is answered as if every number had been.
-- Assumes nothing.
use mathlib.Core.Path.{◌≡◌, refl, sym, ap, ◌∙◌}
use mathlib.Core.List.{List, [], ◌∷◌}
use mathlib.Core.Bool.{Bool, true, false, cond, not, true≢false}
use mathlib.Core.Logic.{◌⊎◌, inl, inr}
use Prim.Native.Nat.{ℕ, ◌<◌}
use native.Mathlib.Omega.{arith}
use lib.ListN.{take}
use lib.Dec.{ltb, eqb}
use borrow.Author.Tests.{eq-eqb}
use Rattle.nts.specs.Refusal.{Beside, nothing, protocol, algorithm, Refused}
use Rattle.walk.specs.Walk.{Reader, Sighting, Outcome, stopped, ended, walked}
use Rattle.walk.specs.Judge.{Terms, room_for, Under, finish, read_as}
use Rattle.walk.specs.Rules.{Rules, is_noted}
use Rattle.walk.specs.Found.{way_of, place_of, entry_in}
use Rattle.walk.specs.Finding.{found_by, told_finding}
use Rattle.walk.specs.declared.Stop.TheVariants as stop
use Rattle.walk.specs.declared.Finding.{Finding}
use Rattle.layout.specs.declared.Profile.{Profile}
use Rattle.layout.specs.declared.Profile.TheVariants.{Usual, Strict}
use Rattle.walk.proofs.Numbered.{Barred, walk_numbered}
use Rattle.walk.proofs.Answered.{told_ended, ended_fits}
use Rattle.negotiation.specs.Negotiation.{holds}
use Rattle.reply.specs.Reply.{reader, rules, judging, reply_of, offering, Told, refused_with, told_by, Early, Late, named_by, Names}
use Rattle.reply.specs.Code.{number_in, accepted_in, cookies_for}
use Rattle.reply.specs.declared.Named.{Named}
use Rattle.reply.proofs.Reader.{table_reader_lem}
use Rattle.reply.proofs.Decided.{decided_like, decided_is}

module _ (P : Profile) (m : List ℕ) (n : ℕ) where
  abbrev table : Rules
  table = record { profile = P; entries = rules }

  abbrev c : List ℕ
  c = (found_by (reader P) m n).cells

  abbrev refused_at : ℕ → ℕ → Beside → Told
  refused_at at k b = refused_with (record { number = k; beside = b; place = at })

  -- what is told where the walk ended at a place, by the tests of the two lists and by what is let in
  abbrev by_tests : ℕ → ℕ → Bool → Bool → Bool → Bool → Bool → Bool → Told
  by_tests at room t₁ t₂ t₃ t₄ p a =
      cond t₁ (refused_at at 4 nothing)
      (cond t₂ (refused_at at 13 nothing)
      (cond t₃ (refused_at at 4 nothing)
      (cond t₄ (refused_at at 14 nothing)
      (cond (not p) (refused_at at 17 (protocol (named_by P 1 m n)))
      (cond (not a) (refused_at at 17 (algorithm (named_by P 4 m n)))
      (cookies_for room at m c (named_by P 1 m n) (named_by P 4 m n)))))))

  abbrev by : ℕ → ℕ → Bool → Bool → Told
  by at room p a = by_tests at room (eqb (entry_in c 1).count 0) (eqb (entry_in c 1).len 0) (eqb (entry_in c 4).count 0) (eqb (entry_in c 4).len 0) p a

  ended_by : (at next : ℕ) (st : List Sighting) → walked (reader P) (take n m) ≡ ended at next st → (x : Terms)
      → told_by m (reply_of P m n x) ≡ by at x.room (x.protocols (named_by P 1 m n)) (x.algorithms (named_by P 4 m n))
  unfolding reply_of named_by number_in found_by is_noted
  ended_by at next st w x =
      let f : Finding = record { limit = n; cells = c; place = at; stop = stop.End } in
      let way = sym (ap way_of w) in
      let h : told_finding f ≡ found_by (reader P) m n = λ i. record { limit = n; cells = c; way = way i } in
      let u : Under = record { profile = P; limit = n; terms = x } in
      sym
      (decided_is m at x c (ended_fits table (reader P) (table_reader_lem P) m u f h refl) _ _ refl refl
      ∙ told_ended table (reader P) (table_reader_lem P) m u f h judging (told_by m)
      (λ l l' like. decided_like m at x l l' (like 1 (omega arith) refl refl) (like 4 (omega arith) refl refl) (like 5 (omega arith) refl refl)
      (like 6 (omega arith) refl refl) (like 7 (omega arith) refl refl) (like 8 (omega arith) refl refl)) refl)

  accepted_not : (p a k : ℕ) (r : Refused) → accepted_in m c p a k ≡ refused_with r → ⊥
  unfolding accepted_in
  accepted_not p a k r e = let z : ◌≡◌ {A = ℕ} 0 1 = cc in omega arith

  cookies_late : (room at p a : ℕ) → Late (cookies_for room at m c p a)
  unfolding cookies_for
  cookies_late room at p a r e = go (eqb (entry_in c 5).count 0) (ltb room (entry_in c 5).count) e
    where
      number_one : (k : ℕ) → refused_at at k nothing ≡ refused_with r → r.number ≡ k
      number_one k q = cc

      go : (s t : Bool) → cond s (refused_at at 15 nothing) (cond t (refused_at at 7 nothing) (accepted_in m c p a (entry_in c 5).count)) ≡ refused_with r → (r.number ≡ 15) ⊎ (r.number ≡ 7)
      go true t q = inl (number_one 15 q)
      go false true q = inr (number_one 7 q)
      go false false q = absurd (accepted_not p a (entry_in c 5).count r q)

  -- the tests of the two lists: one of them decides, whatever was offered, or none does
  data Tests (at room : ℕ) (t : Bool → Bool → Told) : Type 0 where
    one_decides : (r : Refused) → Early r → ((p a : Bool) → t p a ≡ refused_with r) → Tests at room t
    none_decides : Late (t true true) → ((a : Bool) → t false a ≡ refused_at at 17 (protocol (named_by P 1 m n))) → t true false ≡ refused_at at 17 (algorithm (named_by P 4 m n)) → Tests at room t

  tests_by : (at room : ℕ) (t₁ t₂ t₃ t₄ : Bool) → Tests at room (by_tests at room t₁ t₂ t₃ t₄)
  tests_by at room true t₂ t₃ t₄ = one_decides (record { number = 4; beside = nothing; place = at }) (λ q. omega arith, λ q. omega arith) (λ p a. refl)
  tests_by at room false true t₃ t₄ = one_decides (record { number = 13; beside = nothing; place = at }) (λ q. omega arith, λ q. omega arith) (λ p a. refl)
  tests_by at room false false true t₄ = one_decides (record { number = 4; beside = nothing; place = at }) (λ q. omega arith, λ q. omega arith) (λ p a. refl)
  tests_by at room false false false true = one_decides (record { number = 14; beside = nothing; place = at }) (λ q. omega arith, λ q. omega arith) (λ p a. refl)
  tests_by at room false false false false = none_decides (cookies_late room at (named_by P 1 m n) (named_by P 4 m n)) (λ a. refl) refl

  -- the walk's own refusals are early
  stopped_early : (r : Refused) → walked (reader P) (take n m) ≡ stopped r → Early r
  stopped_early r e =
      let l : (k : ℕ) → k < 7 → (k ≡ 15 → ⊥) × (k ≡ 7 → ⊥) = λ k h. (λ q. omega arith, λ q. omega arith) in
      (walk_numbered (λ k. (k ≡ 15 → ⊥) × (k ≡ 7 → ⊥)) (l 1 (omega arith), l 2 (omega arith), l 3 (omega arith), l 4 (omega arith), (λ q. omega arith, λ q. omega arith), (λ q. omega arith, λ q. omega arith)) table (barred P) (take n m) r
      (ap (λ (R : Reader). walked R (take n m)) (table_reader_lem P) ∙ e)).one
    where
      barred : (X : Profile) → Barred (λ k. (k ≡ 15 → ⊥) × (k ≡ 7 → ⊥)) X
      barred Usual = tt
      barred Strict = (λ q. omega arith, λ q. omega arith)

  -- what was offered changes an answer to 17 alone, with the number that was not, at the place of the end record; what is decided before 17 stays, and where 17 is given 15, 7 or
  -- a reply would have been answered
  module _ (x : Terms) where
    abbrev said : Told
    said = told_by m (reply_of P m n x)

    abbrev all : Told
    all = told_by m (reply_of P m n (room_for x.room))

    abbrev end : ℕ
    end = place_of (walked (reader P) (take n m))

    under_all : (at next : ℕ) (st : List Sighting) → walked (reader P) (take n m) ≡ ended at next st → all ≡ by at x.room true true
    under_all at next st e = ended_by at next st e (room_for x.room)

    pub told_cases : {A : Type 0}
        → ((r : Refused) → Early r → all ≡ refused_with r → said ≡ refused_with r → A)
        → (x.protocols (named_by P 1 m n) ≡ true → x.algorithms (named_by P 4 m n) ≡ true → said ≡ all → A)
        → (Late all → x.protocols (named_by P 1 m n) ≡ false → said ≡ refused_at end 17 (protocol (named_by P 1 m n)) → A)
        → (Late all → x.protocols (named_by P 1 m n) ≡ true → x.algorithms (named_by P 4 m n) ≡ false → said ≡ refused_at end 17 (algorithm (named_by P 4 m n)) → A)
        → A
    unfolding reply_of read_as finish
    told_cases {A} early both other another = go (walked (reader P) (take n m)) refl
      where
        by_offer : (at : ℕ) → at ≡ end → all ≡ by at x.room true true → (p a : Bool) → x.protocols (named_by P 1 m n) ≡ p → x.algorithms (named_by P 4 m n) ≡ a → said ≡ by at x.room p a
            → Tests at x.room (by at x.room) → A
        by_offer at z u p a ep ea s (one_decides r w f) = early r w (u ∙ f true true) (s ∙ f p a)
        by_offer at z u true true ep ea s (none_decides l f g) = both ep ea (s ∙ sym u)
        by_offer at z u false a ep ea s (none_decides l f g) = other (λ r q. l r (sym u ∙ q)) ep (s ∙ f a ∙ ap (λ (k : ℕ). refused_at k 17 (protocol (named_by P 1 m n))) z)
        by_offer at z u true false ep ea s (none_decides l f g) = another (λ r q. l r (sym u ∙ q)) ep ea (s ∙ g ∙ ap (λ (k : ℕ). refused_at k 17 (algorithm (named_by P 4 m n))) z)

        go : (o : Outcome) → walked (reader P) (take n m) ≡ o → A
        go (stopped r) e = early r (stopped_early r e) (rw e) (rw e)
        go (ended at next st) e =
            by_offer at (sym (ap place_of e)) (under_all at next st e) (x.protocols (named_by P 1 m n)) (x.algorithms (named_by P 4 m n)) refl refl (ended_by at next st e x)
            (tests_by at x.room (eqb (entry_in c 1).count 0) (eqb (entry_in c 1).len 0) (eqb (entry_in c 4).count 0) (eqb (entry_in c 4).len 0))

  pub told_any : (x : Terms) → x.protocols (named_by P 1 m n) ≡ true → x.algorithms (named_by P 4 m n) ≡ true → told_by m (reply_of P m n x) ≡ told_by m (reply_of P m n (room_for x.room))
  told_any x p a = told_cases x (λ r w e f. f ∙ sym e) (λ q z e. e) (λ l q e. absurd (true≢false (sym p ∙ q))) (λ l q z e. absurd (true≢false (sym a ∙ z)))

  -- so it is where a reply's own numbers are offered
  pub told_own : (r : Named) → Names P m n r → (room : ℕ)
      → told_by m (reply_of P m n (offering (r.protocol.0 ∷ []) (r.algorithm.0 ∷ []) room)) ≡ told_by m (reply_of P m n (room_for room))
  told_own r e room = told_any (offering (r.protocol.0 ∷ []) (r.algorithm.0 ∷ []) room) (own e.0) (own e.1)
    where
      own : {k j : ℕ} → k ≡ j → holds (k ∷ []) j ≡ true
      own {k} {j} q = rw (eq-eqb k j q)
