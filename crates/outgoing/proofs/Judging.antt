-- What the judging functions find, as the definitions say it: names that are UTF-8, a reply and a request.
-- Assumes nothing.
use mathlib.Core.Path.{◌≡◌, refl, sym, ap, ◌∙◌}
use mathlib.Core.Bool.{Bool, true, false, ◌&&◌, and_assoc}
use mathlib.Core.List.{List, [], ◌∷◌, ◌++◌}
use Prim.Native.Nat.{ℕ, ◌+◌, ◌*◌, ◌<◌, ◌≤◌}
use native.Mathlib.Omega.{arith}
use borrow.Author.Tests.{eq-eqb, ne_eqb}
use lib.ListN.{length}
use Rattle.wire.specs.Bytes.{number_at, part_at}
use Rattle.utf8.specs.Utf8.{well_formed}
use Rattle.nts.specs.Refusal.{Beside, nothing}
use Rattle.layout.specs.Write.{bytes, refused}
use Rattle.plan.specs.Tray.{fields, fields_in, cookies_in, names_in, bytes_in}
use Rattle.plan.specs.Code.{none, whole, counted}
use Rattle.plan.specs.Plan.{name_length, plan_length}
use Rattle.plan.specs.declared.Plan.{Plan}
use Rattle.plan.proofs.Standing.{same_bodies, Standing, standing_start, Next, standing_end, standing_on}
use Rattle.plan.proofs.Planned.{Planned, planned, unplanned, Names, names_of, names_broken}
use Rattle.messages.specs.Messages.{too_long, all_utf8, reply_checked, request_length, request_checked}

-- ---- names that are UTF-8

utf8_append : (a b : List (List ℕ)) → all_utf8 (a ++ b) ≡ (all_utf8 a && all_utf8 b)
utf8_append [] b = refl
utf8_append (x ∷ a) b = ap (λ (t : Bool). well_formed x && t) (utf8_append a b) ∙ sym (and_assoc (well_formed x) (all_utf8 a) (all_utf8 b))

abbrev pub Walked : List ℕ → ℕ → Type 0
Walked tray used = (tag : ℕ) × (l : List (List ℕ)) × (fields_in tag used tray ≡ fields l)

-- the bodies passed are UTF-8
pub record Checking (tray : List ℕ) (used at : ℕ) : Type 0 where
  pub tag : ℕ
  pub held : List (List ℕ)
  pub whole : fields_in tag used tray ≡ fields held
  pub done : List (List ℕ)
  pub standing : Standing tag used tray held at done
  pub passed : all_utf8 done ≡ true

pub checking_start : (tray : List ℕ) (used : ℕ) → Walked tray used → Checking tray used 0
checking_start tray used h = record {
  tag = h.0;
  held = h.1;
  whole = h.2;
  done = [];
  standing = standing_start h.0 used tray h.1 h.2;
  passed = refl;
}

module _ (tray : List ℕ) (used at : ℕ) (g : Checking tray used at) where
  pub checking_end : used ≤ at → (tag : ℕ) (l : List (List ℕ)) → fields_in tag used tray ≡ fields l → true ≡ all_utf8 l
  checking_end h tag l e =
      let d : g.done ≡ l = standing_end g.tag used tray g.held at g.done g.standing h ∙ same_bodies g.tag tag used tray g.held l g.whole e in
      sym g.passed ∙ ap all_utf8 d

  module _ (more : at < used) (n : ℕ) (read : n ≡ number_at tray (at + 1)) where
    abbrev body : List ℕ
    body = part_at tray (at + 3) n

    field : Next g.tag used tray g.held at g.done n
    field = standing_on g.tag used tray g.held at g.done g.standing more n read

    pub checking_on : well_formed (part_at tray (at + 3) n) ≡ true → Checking tray used (at + 3 + n)
    checking_on h = record {
      tag = g.tag;
      held = g.held;
      whole = g.whole;
      done = g.done ++ (body ∷ []);
      standing = field.next;
      passed = utf8_append g.done (body ∷ []) ∙ rw (g.passed, h);
    }

    pub checking_stop : well_formed (part_at tray (at + 3) n) ≡ false → (tag : ℕ) (l : List (List ℕ)) → fields_in tag used tray ≡ fields l → false ≡ all_utf8 l
    checking_stop h tag l e =
        let s : all_utf8 l ≡ all_utf8 (g.done ++ (body ∷ field.to_come)) = ap all_utf8 (same_bodies tag g.tag used tray l g.held e g.whole ∙ field.split) in
        let r : (all_utf8 g.done && (well_formed body && all_utf8 field.to_come)) ≡ false = rw (g.passed, h) in
        sym (s ∙ utf8_append g.done (body ∷ field.to_come) ∙ r)

-- ---- a reply

module _ (x : Plan) (tray server : List ℕ) where
  pub reply_broken : (k : ℕ) (b : Beside) → refused k b ≡ plan_length x tray → refused k b ≡ reply_checked x server (cookies_in x.used tray)
  reply_broken k b e =
      let u = unplanned x tray k b e in
      rw u.are u.says

  module _ (n : ℕ) (e : bytes n ≡ plan_length x tray) where
    plan : Planned x tray n
    plan = planned x tray n e

    pub reply_other : (m : ℕ) → m ≡ name_length x.name → (length server ≡ m → ⊥) → refused 9 nothing ≡ reply_checked x server (cookies_in x.used tray)
    reply_other m i h = rw (plan.are, ne_eqb (length server) (name_length x.name) (λ j. h (j ∙ sym i)))

    module _ (m : ℕ) (i : m ≡ name_length x.name) (j : length server ≡ m) where
      pub reply_ill : well_formed server ≡ false → refused 9 nothing ≡ reply_checked x server (cookies_in x.used tray)
      reply_ill h = rw (plan.are, eq-eqb (length server) (name_length x.name) (j ∙ i), h)

      module _ (h : well_formed server ≡ true) where
        pub reply_bare : x.used ≡ 0 → refused 15 nothing ≡ reply_checked x server (cookies_in x.used tray)
        reply_bare z =
            let p = plan in
            rw (p.are, eq-eqb (length server) (name_length x.name) (j ∙ i), h, eq-eqb (length p.bodies) 0 (omega (arith, p.sum)))

        pub reply_judged : (x.used ≡ 0 → ⊥) → bytes n ≡ reply_checked x server (cookies_in x.used tray)
        reply_judged z =
            let p = plan in
            rw (
              p.are,
              eq-eqb (length server) (name_length x.name) (j ∙ i),
              h,
              ne_eqb (length p.bodies) 0 (λ y. z (none_used p.bodies p.sum y)),
            ) (ap bytes p.long)
          where
            none_used : (l : List (List ℕ)) → x.used ≡ 3 * length l + bytes_in l → length l ≡ 0 → x.used ≡ 0
            none_used [] s y = s
            none_used (b ∷ l) s y = absurd (omega arith)

-- ---- a request

module _ (protocols algorithms tray : List ℕ) (used : ℕ) where
  pub request_broken : none ≡ counted (fields_in 2 used tray) → refused 9 nothing ≡ request_checked protocols algorithms (names_in used tray)
  request_broken e = rw (names_broken used tray e)

  module _ (n m : ℕ) (e : whole n m ≡ counted (fields_in 2 used tray)) where
    names : Names used tray n m
    names = names_of used tray n m e

    module _ (r : Bool) (u : (tag : ℕ) (l : List (List ℕ)) → fields_in tag used tray ≡ fields l → r ≡ all_utf8 l) where
      utf8 : all_utf8 names.bodies ≡ r
      utf8 = sym (u 2 names.bodies names.walked)

      pub request_ill : r ≡ false → refused 9 nothing ≡ request_checked protocols algorithms (names_in used tray)
      request_ill f = rw (names.are, utf8 ∙ f)

      module _ (t : r ≡ true) where
        pub request_long : too_long (2 * length protocols) ≡ true → refused 8 nothing ≡ request_checked protocols algorithms (names_in used tray)
        request_long h = rw (names.are, utf8 ∙ t, h)

        module _ (p : too_long (2 * length protocols) ≡ false) where
          pub request_long_2 : too_long (2 * length algorithms) ≡ true → refused 8 nothing ≡ request_checked protocols algorithms (names_in used tray)
          request_long_2 h = rw (names.are, utf8 ∙ t, p, h)

          pub request_judged : too_long (2 * length algorithms) ≡ false → (k : ℕ) → k ≡ (4 + 2 * length protocols) + (4 + 2 * length algorithms) + (4 * n + m) + 4
              → bytes k ≡ request_checked protocols algorithms (names_in used tray)
          unfolding request_length
          request_judged h k s =
              let b = names in
              rw (b.are, utf8 ∙ t, p, h) (ap bytes (let y : k ≡ request_length protocols algorithms b.bodies = omega (arith, b.count, b.size) in y))
