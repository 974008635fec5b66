-- What the count of a tray's fields tells of them: how many there are, where they end, and how long the reply is.
-- Assumes nothing.
use mathlib.Core.Path.{◌≡◌, refl, sym, ap, ◌∙◌}
use mathlib.Core.Bool.{Bool, true, false, cond}
use mathlib.Core.List.{List}
use Prim.Native.Nat.{ℕ, ◌+◌, ◌*◌, ◌<◌, ◌≤◌}
use native.Mathlib.Omega.{arith}
use borrow.Author.Tests.{lt-ltb, le-ltb, ltb-false}
use lib.Dec.{ltb}
use lib.ListN.{length}
use Rattle.nts.specs.Refusal.{nothing}
use Rattle.layout.specs.Write.{bytes, refused}
use Rattle.plan.specs.Tray.{Fields, broken, fields, fields_in, cookies_in, at_most, bytes_in}
use Rattle.plan.specs.Code.{none, whole, counted}
use Rattle.plan.specs.Plan.{name_record, port_record, keep_alive_record, reply_length, length_by, plan_length}
use Rattle.plan.specs.declared.Plan.{Plan}
use Rattle.plan.proofs.Fields.{held, fields_bytes}

-- ---- the fields that were counted

pub record Bodies (f : Fields) (n m : ℕ) : Type 0 where
  pub bodies : List (List ℕ)
  pub are : f ≡ fields bodies
  pub count : n ≡ length bodies
  pub size : m ≡ bytes_in bodies

pub bodies_of : (f : Fields) (n m : ℕ) → whole n m ≡ counted f → Bodies f n m
bodies_of broken n m e = let z : ◌≡◌ {A = ℕ} 0 1 = cc in absurd (omega arith)
bodies_of (fields l) n m e = record { bodies = l; are = refl; count = cc; size = cc }

pub broken_of : (f : Fields) → none ≡ counted f → f ≡ broken
broken_of broken e = refl
broken_of (fields l) e = let z : ◌≡◌ {A = ℕ} 0 1 = cc in absurd (omega arith)

-- ---- a plan's tray

module _ (used : ℕ) (tray : List ℕ) where
  pub cookies_broken : none ≡ counted (fields_in 1 used tray) → none ≡ counted (cookies_in used tray)
  unfolding cookies_in
  cookies_broken e = rw (broken_of (fields_in 1 used tray) e)

  module _ (n m : ℕ) (e : whole n m ≡ counted (fields_in 1 used tray)) where
    pub cookies_many : 8 < n → none ≡ counted (cookies_in used tray)
    unfolding cookies_in
    cookies_many h =
        let b = bodies_of (fields_in 1 used tray) n m e in
        rw (b.are, lt-ltb 8 (length b.bodies) (omega (arith, b.count)))

    pub cookies_few : n ≤ 8 → whole n m ≡ counted (cookies_in used tray)
    unfolding cookies_in
    cookies_few h =
        let b = bodies_of (fields_in 1 used tray) n m e in
        (λ j. whole (b.count j) (b.size j)) ∙ sym (ap (λ (f : Fields). counted (at_most 8 f)) b.are ∙ rw (le-ltb 8 (length b.bodies) (omega (arith, b.count))))

  pub record Cookies (l : List (List ℕ)) : Type 0 where
    pub few : length l ≤ 8
    pub are : fields_in 1 used tray ≡ fields l

  pub cookies_are : (l : List (List ℕ)) → cookies_in used tray ≡ fields l → Cookies l
  unfolding cookies_in
  cookies_are l e = of (fields_in 1 used tray) refl e
    where
      within : (t : Bool) (k : List (List ℕ)) → fields_in 1 used tray ≡ fields k → ltb 8 (length k) ≡ t → cond t broken (fields k) ≡ fields l → Cookies l
      within true k i h y = let z : ◌≡◌ {A = ℕ} 0 1 = cc in absurd (omega arith)
      within false k i h y =
          let z : k ≡ l = cc in
          record { few = rw (← z) (ltb-false 8 (length k) h); are = i ∙ y }

      of : (f : Fields) → fields_in 1 used tray ≡ f → at_most 8 f ≡ fields l → Cookies l
      of broken i y = let z : ◌≡◌ {A = ℕ} 0 1 = cc in absurd (omega arith)
      of (fields k) i y = within (ltb 8 (length k)) k i refl y

  -- what is known of a count of cookies
  pub record Few (n m : ℕ) : Type 0 where
    pub few : n ≤ 8
    pub inside : used ≤ length tray
    pub sum : used ≡ 3 * n + m

  pub few_of : (n m : ℕ) → whole n m ≡ counted (cookies_in used tray) → Few n m
  few_of n m e =
      let b = bodies_of (cookies_in used tray) n m e in
      let k = cookies_are b.bodies b.are in
      record {
        few = omega (arith, b.count, k.few);
        inside = (held 1 used tray b.bodies k.are).inside;
        sum = omega (arith, b.count, b.size, fields_bytes 1 used tray b.bodies k.are);
      }

-- ---- the written length

module _ (x : Plan) (tray : List ℕ) where
  pub length_broken : none ≡ counted (cookies_in x.used tray) → refused 9 nothing ≡ plan_length x tray
  unfolding plan_length
  length_broken e = rw (broken_of (cookies_in x.used tray) e)

  pub length_whole : (n m r : ℕ) → whole n m ≡ counted (cookies_in x.used tray)
      → r ≡ (4 + 2) + (4 + 2) + name_record x.name + port_record x.port + keep_alive_record x.keep_alive + (4 * n + m) + 4
      → bytes r ≡ plan_length x tray
  unfolding plan_length reply_length
  length_whole n m r e s =
      let b = bodies_of (cookies_in x.used tray) n m e in
      ap bytes s
      ∙ (λ j. bytes ((4 + 2) + (4 + 2) + name_record x.name + port_record x.port + keep_alive_record x.keep_alive + (4 * b.count j + b.size j) + 4))
      ∙ sym (ap (length_by x) b.are)
