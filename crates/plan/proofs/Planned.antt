-- What a plan's length tells of its tray, and what a count of names tells of theirs: the bodies, and how many bytes they take there.
-- Assumes nothing.
use mathlib.Core.Path.{◌≡◌, refl}
use mathlib.Core.List.{List}
use Prim.Native.Nat.{ℕ, ◌+◌, ◌*◌, ◌≤◌}
use native.Mathlib.Omega.{arith}
use lib.ListN.{length}
use Rattle.nts.specs.Refusal.{Beside, nothing}
use Rattle.layout.specs.Write.{bytes, refused}
use Rattle.plan.specs.Tray.{Fields, broken, fields, fields_in, cookies_in, names_in, bytes_in}
use Rattle.plan.specs.Code.{none, whole, counted}
use Rattle.plan.specs.Plan.{reply_length, length_by, plan_length}
use Rattle.plan.specs.declared.Plan.{Plan}
use Rattle.plan.proofs.Fields.{held, fields_bytes}
use Rattle.plan.proofs.Counting.{bodies_of, broken_of, cookies_are}

-- ---- a plan that has a length, and one that has none

pub record Planned (x : Plan) (tray : List ℕ) (n : ℕ) : Type 0 where
  pub bodies : List (List ℕ)
  pub are : cookies_in x.used tray ≡ fields bodies
  pub long : n ≡ reply_length x bodies
  pub sum : x.used ≡ 3 * length bodies + bytes_in bodies

pub record Unplanned (x : Plan) (tray : List ℕ) (k : ℕ) (b : Beside) : Type 0 where
  pub are : cookies_in x.used tray ≡ broken
  pub says : refused k b ≡ refused 9 nothing

module _ (x : Plan) (tray : List ℕ) where
  pub planned : (n : ℕ) → bytes n ≡ plan_length x tray → Planned x tray n
  unfolding plan_length
  planned n e = of (cookies_in x.used tray) refl e
    where
      of : (f : Fields) → cookies_in x.used tray ≡ f → bytes n ≡ length_by x f → Planned x tray n
      of broken i y = let z : ◌≡◌ {A = ℕ} 0 1 = cc in absurd (omega arith)
      of (fields l) i y = record { bodies = l; are = i; long = cc; sum = fields_bytes 1 x.used tray l (cookies_are x.used tray l i).are }

  pub unplanned : (k : ℕ) (b : Beside) → refused k b ≡ plan_length x tray → Unplanned x tray k b
  unfolding plan_length
  unplanned k b e = of (cookies_in x.used tray) refl e
    where
      of : (f : Fields) → cookies_in x.used tray ≡ f → refused k b ≡ length_by x f → Unplanned x tray k b
      of broken i y = record { are = i; says = y }
      of (fields l) i y = let z : ◌≡◌ {A = ℕ} 0 1 = cc in absurd (omega arith)

-- ---- names

pub record Names (used : ℕ) (tray : List ℕ) (n m : ℕ) : Type 0 where
  pub bodies : List (List ℕ)
  pub are : names_in used tray ≡ fields bodies
  pub walked : fields_in 2 used tray ≡ fields bodies
  pub count : n ≡ length bodies
  pub size : m ≡ bytes_in bodies
  pub inside : 3 * n + m ≤ length tray

module _ (used : ℕ) (tray : List ℕ) where
  pub names_of : (n m : ℕ) → whole n m ≡ counted (fields_in 2 used tray) → Names used tray n m
  unfolding names_in
  names_of n m e =
      let b = bodies_of (fields_in 2 used tray) n m e in
      record {
        bodies = b.bodies;
        are = b.are;
        walked = b.are;
        count = b.count;
        size = b.size;
        inside = omega (arith, b.count, b.size, fields_bytes 2 used tray b.bodies b.are, (held 2 used tray b.bodies b.are).inside);
      }

  pub names_broken : none ≡ counted (fields_in 2 used tray) → names_in used tray ≡ broken
  unfolding names_in
  names_broken e = broken_of (fields_in 2 used tray) e
