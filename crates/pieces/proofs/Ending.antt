-- After an end record behind which nothing may follow: what the code asks of the bytes stored, and that it is what the definition asks of the bytes joined.
-- Assumes nothing.
use mathlib.Core.Path.{◌≡◌, refl, sym, ap, ◌∙◌}
use mathlib.Core.List.{List}
use mathlib.Core.Bool.{Bool, true, false, cond, ◌&&◌, and-false, true≢false}
use Prim.Native.Nat.{ℕ, ◌+◌, ◌-◌, ◌≤◌}
use native.Mathlib.Omega.{arith}
use native.Mathlib.Nat.{sub-zero}
use lib.ListN.{length, take, drop, length-append, length-drop}
use lib.Seq.{length-take-le}
use Rattle.wire.specs.Over.{over}
use Rattle.walk.specs.Walk.{Reader}
use Rattle.walk.specs.Rules.{Rules, reader_of}
use Rattle.walk.specs.Met.{ends}
use Rattle.pieces.specs.Pieces as pieces
use Rattle.pieces.specs.Pieces.{followed, waiting, decided, Line, Brought, broken, joined, inside, fitting, gathers, is_decided, how_after, after_end, comes, told_connection}
use Rattle.pieces.specs.Code.{told_came, smaller_of, Gathers, Comes}
use Rattle.pieces.specs.declared.Connection.{Connection}
use Rattle.pieces.specs.declared.Came.{Came}
use Rattle.pieces.proofs.Inside.{gathers_inside, after_gathered, fitting_inside, front_over}
use Rattle.pieces.proofs.Taking.{smaller_min, unbroken, inside_long}

module _ (rules : Rules) (c : Connection) (p : List ℕ) (closed : Bool) (b : List ℕ) (u : broken (told_connection c) b ≡ false) where
  abbrev R : Reader
  R = reader_of rules

  abbrev l : Line
  l = told_connection c

  abbrev h : Brought
  h = record { piece = p; closed = closed }

  -- how many bytes have come inside the limit
  long_is : (k long : ℕ) → k ≡ smaller_of (length p) (c.limit - c.gathered) → long ≡ c.gathered + k → long ≡ length (inside l b h)
  long_is k long e f =
      omega (arith, f, e, smaller_min (length p) (c.limit - c.gathered), inside_long l b h u, (unbroken l b u).1)

  module _ (x : Came) (b' : List ℕ) (g : Gathers rules c p closed b x b') where
    counted : x.gathered ≡ (gathers R l b h).gathered
    counted = ap (λ (y : pieces.Came). y.gathered) g.says

    within : x.gathered ≤ length (joined l b h)
    within = omega (arith, counted, gathers_inside R l b h u, (fitting_inside l b h).1)

    -- the bytes stored are those joined
    pub gathered_room : x.gathered ≤ length b'
    unfolding over
    gathered_room =
        let i = fitting_inside l b h in
        let e = length-take-le x.gathered (joined l b h) within in
        rw g.left (simp (length-append, length-drop, e) (omega (arith, counted, gathers_inside R l b h u, i.0)))

    stored : take (x.gathered - 0) (drop 0 b') ≡ take x.gathered (joined l b h)
    stored =
        ap (λ (k : ℕ). take k b') (sub-zero x.gathered) ∙ ap (take x.gathered) g.left ∙ front_over x.gathered (joined l b h) b within

    pub come_by : (k long : ℕ) → k ≡ smaller_of (length p) (c.limit - c.gathered) → long ≡ c.gathered + k → (r : Came)
        → told_came r ≡ after_end R c.limit long closed (take (x.gathered - 0) (drop 0 b')) (told_came x) → Comes rules c p closed b r b'
    unfolding comes
    come_by k long e f r q =
        let n : r.gathered ≡ x.gathered = ap (λ (y : pieces.Came). y.gathered) q ∙ after_gathered R c.limit long closed (take (x.gathered - 0) (drop 0 b')) (told_came x) in
        record {
          says =
              q
              ∙ ap (λ (i : ℕ). after_end R c.limit i closed (take (x.gathered - 0) (drop 0 b')) (told_came x)) (long_is k long e f)
              ∙ ap (λ (s : List ℕ). after_end R c.limit (length (inside l b h)) closed s (told_came x)) stored
              ∙ ap (λ (y : pieces.Came). after_end R c.limit (length (inside l b h)) closed (take y.gathered (joined l b h)) y) g.says;
          left = g.left ∙ ap (λ (i : ℕ). over (take i (joined l b h)) b) (sym n);
        }

-- ---- by the code's tests

module _ (R : Reader) (n long : ℕ) (closed : Bool) (s : List ℕ) (x : pieces.Came) where
  pub after_any : R.final ≡ false → x ≡ after_end R n long closed s x
  unfolding after_end
  after_any e = rw e

  pub after_undecided : is_decided x.how ≡ false → x ≡ after_end R n long closed s x
  unfolding after_end
  after_undecided e = rw (e, and-false)

  pub after_other : ends R (drop x.begins s) ≡ false → x ≡ after_end R n long closed s x
  unfolding after_end
  after_other e = rw e (go R.final (is_decided x.how))
    where
      go : (a b : Bool) → x ≡ cond (a && b && false) (record { gathered = x.gathered; begins = x.begins; met = x.met; how = how_after n long closed x.gathered }) x
      go true true = refl
      go true false = refl
      go false b = refl

  pub after_ended : R.final ≡ true → is_decided x.how ≡ true → ends R (drop x.begins s) ≡ true
      → record { gathered = x.gathered; begins = x.begins; met = x.met; how = how_after n long closed x.gathered } ≡ after_end R n long closed s x
  unfolding after_end
  after_ended e f g = sym (go R.final (is_decided x.how) (ends R (drop x.begins s)) e f g)
    where
      go : (a b c : Bool) → a ≡ true → b ≡ true → c ≡ true
          → cond (a && b && c) (record { gathered = x.gathered; begins = x.begins; met = x.met; how = how_after n long closed x.gathered }) x
          ≡ record { gathered = x.gathered; begins = x.begins; met = x.met; how = how_after n long closed x.gathered }
      go true true true p q r = refl
      go false b c p q r = absurd (true≢false (sym p))
      go true false c p q r = absurd (true≢false (sym q))
      go true true false p q r = absurd (true≢false (sym r))
