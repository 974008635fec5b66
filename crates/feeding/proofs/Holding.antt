-- The connection that a host's cells hold: what the tests of its cells say, and that it is put again as the same cells.
-- Assumes nothing.
use mathlib.Core.Path.{◌≡◌, refl, sym, ap, subst, ◌∙◌}
use mathlib.Core.Bool.{Bool, true, false, cond, ◌&&◌, ◌||◌}
use mathlib.Core.List.{List, [], ◌∷◌, ◌++◌}
use Prim.Native.Nat.{ℕ, ◌≤◌, ◌<◌}
use native.Mathlib.Omega.{arith}
use borrow.Author.Tests.{ltb-true, leb-true, eqb-true}
use lib.Dec.{leb, ltb, eqb}
use lib.ListN.{length}
use Rattle.utf8.proofs.Tests.{never, upto, and_left, and_right}
use Rattle.nts.specs.Refusal.{beside_number, Refused, told_refusal, error_in}
use Rattle.cells.specs.Cells.{marked, cell}
use Rattle.pieces.specs.Pieces.{Line, Standing, pending, accepted, refused}
use Rattle.feeding.specs.Fed.{standing_cells, profile_cell, line_cells, has_beside, no_protocol, no_algorithm, is_mark, is_standing, is_connection, number_in, beside_in, standing_in, profile_in, line_in}
use Rattle.feeding.specs.Code.{no_line, line, kept_in}

-- ---- a refusal's number, with what was not offered

-- what holds of each of the nineteen holds of every one
pub of_each : (P : ℕ → Type 0) → P 1 → P 2 → P 3 → P 4 → P 5 → P 6 → P 7 → P 8 → P 9 → P 10 → P 11 → P 12 → P 13 → P 14 → P 15 → P 16
    → P 18 → P no_protocol → P no_algorithm → (n : ℕ) → is_mark n ≡ true → P n
unfolding is_mark
of_each P p1 p2 p3 p4 p5 p6 p7 p8 p9 p10 p11 p12 p13 p14 p15 p16 p18 p273 p529 n m =
    go (leb 1 n) (leb n 16) (eqb n 18) (eqb n no_protocol) (eqb n no_algorithm) (leb-true 1 n) (leb-true n 16) (eqb-true n 18) (eqb-true n no_protocol) (eqb-true n no_algorithm) m
  where
    is : (k : ℕ) → P k → k ≤ n → n ≤ k → P n
    is k p l g = let e : k ≡ n = omega arith in subst P e p

    or : (k : ℕ) → P k → k ≤ n → (k < n → P n) → P n
    or k p l f = upto k n (λ g. is k p l g) f

    few : 1 ≤ n → n ≤ 16 → P n
    few low high =
        or 1 p1 low (λ l. or 2 p2 (omega arith) (λ l. or 3 p3 (omega arith) (λ l. or 4 p4 (omega arith) (λ l. or 5 p5 (omega arith) (λ l. or 6 p6 (omega arith)
        (λ l. or 7 p7 (omega arith) (λ l. or 8 p8 (omega arith) (λ l. or 9 p9 (omega arith) (λ l. or 10 p10 (omega arith) (λ l. or 11 p11 (omega arith)
        (λ l. or 12 p12 (omega arith) (λ l. or 13 p13 (omega arith) (λ l. or 14 p14 (omega arith) (λ l. or 15 p15 (omega arith) (λ l. is 16 p16 (omega arith) high)))))))))))))))

    go : (a b e c d : Bool) → (a ≡ true → 1 ≤ n) → (b ≡ true → n ≤ 16) → (e ≡ true → n ≡ 18) → (c ≡ true → n ≡ no_protocol) → (d ≡ true → n ≡ no_algorithm)
        → ((a && b) || e || c || d) ≡ true → P n
    go a b e c true fa fb fe fc fd q = subst P (sym (fd refl)) p529
    go a b e true false fa fb fe fc fd q = subst P (sym (fc refl)) p273
    go a b true false false fa fb fe fc fd q = subst P (sym (fe refl)) p18
    go true true false false false fa fb fe fc fd q = few (fa refl) (fb refl)
    go true false false false false fa fb fe fc fd q = never q
    go false b false false false fa fb fe fc fd q = never q

mark_few : (n : ℕ) → is_mark n ≡ true → n ≤ no_algorithm
mark_few = of_each (λ k. k ≤ no_algorithm) (omega arith) (omega arith) (omega arith) (omega arith) (omega arith) (omega arith) (omega arith) (omega arith) (omega arith) (omega arith) (omega arith) (omega arith) (omega arith) (omega arith) (omega arith) (omega arith) (omega arith) (omega arith) (omega arith)

pub mark_numbered : (n : ℕ) → is_mark n ≡ true → (1 ≤ number_in n) × (number_in n ≤ 18)
mark_numbered = of_each (λ k. (1 ≤ number_in k) × (number_in k ≤ 18)) (omega arith) (omega arith) (omega arith) (omega arith) (omega arith) (omega arith) (omega arith) (omega arith) (omega arith) (omega arith) (omega arith) (omega arith) (omega arith) (omega arith) (omega arith) (omega arith) (omega arith) (omega arith) (omega arith)

-- the refusal that has such a number tells it, with what is beside it
error_told : (n x p : ℕ) → is_mark n ≡ true → told_refusal (record { error = error_in (number_in n) (beside_in n x); place = p }) ≡ record { number = number_in n; beside = beside_in n x; place = p }
unfolding error_in has_beside
error_told n x p =
    of_each (λ k. told_refusal (record { error = error_in (number_in k) (beside_in k x); place = p }) ≡ record { number = number_in k; beside = beside_in k x; place = p })
    refl refl refl refl refl refl refl refl refl refl refl refl refl refl refl refl refl refl refl n

-- and both are put again as they were
mark_back : (n x : ℕ) → is_mark n ≡ true → marked (number_in n) (beside_in n x) ≡ n
unfolding has_beside
mark_back n x = of_each (λ k. marked (number_in k) (beside_in k x) ≡ k) refl refl refl refl refl refl refl refl refl refl refl refl refl refl refl refl refl refl refl n

-- .. a number beside it only where it has one
abbrev pub Besides : ℕ → ℕ → Type 0
Besides n x = (eqb x 0 || has_beside n || leb no_protocol n) ≡ true

beside_back : (n x : ℕ) → is_mark n ≡ true → Besides n x → beside_number (beside_in n x) ≡ x
unfolding has_beside
beside_back n x = of_each (λ k. Besides k x → beside_number (beside_in k x) ≡ x) none none none none some none none none none none some some none none none none none some some n
  where
    go : (t : Bool) → eqb x 0 ≡ t → (t || false || false) ≡ true → 0 ≡ x
    go true e q = sym (eqb-true x 0 e)
    go false e q = never q

    none : (eqb x 0 || false || false) ≡ true → 0 ≡ x
    none q = go (eqb x 0) refl q

    some : {t : Bool} → t ≡ true → x ≡ x
    some q = refl

-- ---- the four cells of an answer

-- what the tests say where they hold: there is no refusal, or there is one
pub data Sound (s n x p : ℕ) : Type 0 where
  unrefused : s < 2 → n ≡ 0 → x ≡ 0 → p ≡ 0 → Sound s n x p
  refusing : s ≡ 2 → is_mark n ≡ true → x ≤ 65535 → Besides n x → p ≤ 4294967295 → Sound s n x p

pub standing_sound : (s n x p : ℕ) → is_standing s n x p ≡ true → Sound s n x p
unfolding is_standing
standing_sound s n x p e = go (ltb s 2) refl e
  where
    none : (a b c : Bool) → (a ≡ true → n ≡ 0) → (b ≡ true → x ≡ 0) → (c ≡ true → p ≡ 0) → s < 2 → (a && b && c) ≡ true → Sound s n x p
    none a b c f g h l q = let i = and_left (a && b) c q in unrefused l (f (and_left a b i)) (g (and_right a b i)) (h (and_right (a && b) c q))

    one : (a b c d f : Bool) → (a ≡ true → s ≡ 2) → (b ≡ true → is_mark n ≡ true) → (c ≡ true → x ≤ 65535) → (d ≡ true → Besides n x) → (f ≡ true → p ≤ 4294967295)
        → (a && b && c && d && f) ≡ true → Sound s n x p
    one a b c d f fa fb fc fd ff q =
        let i3 = and_left (a && b && c && d) f q in
        let i2 = and_left (a && b && c) d i3 in
        let i1 = and_left (a && b) c i2 in
        refusing (fa (and_left a b i1)) (fb (and_right a b i1)) (fc (and_right (a && b) c i2)) (fd (and_right (a && b && c) d i3)) (ff (and_right (a && b && c && d) f q))

    go : (t : Bool) → ltb s 2 ≡ t
        → cond t (eqb n 0 && eqb x 0 && eqb p 0) (eqb s 2 && is_mark n && leb x 65535 && (eqb x 0 || has_beside n || leb no_protocol n) && leb p 4294967295) ≡ true → Sound s n x p
    go true t q = none (eqb n 0) (eqb x 0) (eqb p 0) (eqb-true n 0) (eqb-true x 0) (eqb-true p 0) (ltb-true s 2 t) q
    go false t q =
        one (eqb s 2) (is_mark n) (leb x 65535) (eqb x 0 || has_beside n || leb no_protocol n) (leb p 4294967295)
        (eqb-true s 2) (λ z. z) (leb-true x 65535) (λ z. z) (leb-true p 4294967295) q

standing_back : (s n x p : ℕ) → Sound s n x p → standing_cells (standing_in s n x p) ≡ s ∷ n ∷ x ∷ p ∷ []
standing_back s n x p (unrefused l a b c) = upto 0 s (λ g. let e : s ≡ 0 = omega arith in rw (e, a, b, c)) (λ g. let e : s ≡ 1 = omega arith in rw (e, a, b, c))
standing_back s n x p (refusing e m w b o) = rw e (λ j. 2 ∷ mark_back n x m j ∷ beside_back n x m b j ∷ p ∷ [])

-- where there is neither no answer nor an accepted one, there is a refusal, which has a number
pub record Refusing (s n : ℕ) : Type 0 where
  pub is : s ≡ 2
  pub mark : is_mark n ≡ true

pub standing_refusing : (s n x p : ℕ) → (s ≡ 0 → ⊥) → (s ≡ 1 → ⊥) → Sound s n x p → Refusing s n
standing_refusing s n x p a b (unrefused l u v w) = absurd (upto 0 s (λ g. a (omega arith)) (λ g. b (omega arith)))
standing_refusing s n x p a b (refusing e m w v o) = record { is = e; mark = m }

-- .. the one that is found for it
pub standing_refusal : (s n x p : ℕ) → Refusing s n → refused (told_refusal (record { error = error_in (number_in n) (beside_in n x); place = p })) ≡ standing_in s n x p
standing_refusal s n x p r = rw r.is (ap refused (error_told n x p r.mark))

-- the refusal that they hold
pub standing_held : (s n x p : ℕ) (r : Refused) → standing_in s n x p ≡ refused r → record { number = number_in n; beside = beside_in n x; place = p } ≡ r
standing_held s n x p r e = go (eqb s 0) (eqb s 1) e
  where
    go : (a b : Bool) → cond a pending (cond b accepted (refused (record { number = number_in n; beside = beside_in n x; place = p }))) ≡ refused r
        → record { number = number_in n; beside = beside_in n x; place = p } ≡ r
    go true b q = let z : ◌≡◌ {A = ℕ} 0 1 = cc in absurd (omega arith)
    go false true q = let z : ◌≡◌ {A = ℕ} 0 1 = cc in absurd (omega arith)
    go false false q = cc

-- .. has a number
pub standing_numbered : (s n x p : ℕ) (r : Refused) → Sound s n x p → standing_in s n x p ≡ refused r → Refusing s n
standing_numbered s n x p r t e =
    standing_refusing s n x p (λ i. unheld pending (subst (λ k. standing_in k n x p ≡ refused r) i e) (λ q. let z : ◌≡◌ {A = ℕ} 0 1 = cc in absurd (omega arith)))
    (λ i. unheld accepted (subst (λ k. standing_in k n x p ≡ refused r) i e) (λ q. let z : ◌≡◌ {A = ℕ} 0 1 = cc in absurd (omega arith))) t
  where
    unheld : (a : Standing) → a ≡ refused r → (a ≡ refused r → ⊥) → ⊥
    unheld a q f = f q

-- ---- the nine cells

pub record SoundLine (c : List ℕ) : Type 0 where
  pub limit : cell c 0 ≤ 65535
  pub met : cell c 3 ≤ 65535
  pub standing : is_standing (cell c 4) (cell c 5) (cell c 6) (cell c 7) ≡ true
  pub number : cell c 5 ≤ no_algorithm
  pub beside : cell c 6 ≤ 65535
  pub place : cell c 7 ≤ 4294967295
  pub profile : cell c 8 ≤ 1

pub line_sound : (c : List ℕ) → is_connection c ≡ true → SoundLine c
unfolding is_connection
line_sound c e =
    of (leb (cell c 0) 65535) (leb (cell c 3) 65535) (is_standing (cell c 4) (cell c 5) (cell c 6) (cell c 7)) (leb (cell c 8) 1)
    (leb-true (cell c 0) 65535) (leb-true (cell c 3) 65535) (λ z. z) (leb-true (cell c 8) 1) e
  where
    with_standing : cell c 0 ≤ 65535 → cell c 3 ≤ 65535 → is_standing (cell c 4) (cell c 5) (cell c 6) (cell c 7) ≡ true → cell c 8 ≤ 1 → Sound (cell c 4) (cell c 5) (cell c 6) (cell c 7) → SoundLine c
    with_standing l m t p (unrefused g a b o) = record { limit = l; met = m; standing = t; number = omega arith; beside = omega arith; place = omega arith; profile = p }
    with_standing l m t p (refusing g k w b o) = record { limit = l; met = m; standing = t; number = mark_few (cell c 5) k; beside = w; place = o; profile = p }

    of : (a b t d : Bool) → (a ≡ true → cell c 0 ≤ 65535) → (b ≡ true → cell c 3 ≤ 65535) → (t ≡ true → is_standing (cell c 4) (cell c 5) (cell c 6) (cell c 7) ≡ true) → (d ≡ true → cell c 8 ≤ 1)
        → (a && b && t && d) ≡ true → SoundLine c
    of a b t d f g h k q =
        let j = and_left (a && b && t) d q in
        let i = and_left (a && b) t j in
        let z = h (and_right (a && b) t j) in
        with_standing (f (and_left a b i)) (g (and_right a b i)) z (k (and_right (a && b && t) d q)) (standing_sound (cell c 4) (cell c 5) (cell c 6) (cell c 7) z)

profile_back : (p : ℕ) → p ≤ 1 → profile_cell (profile_in p) ≡ p
profile_back p l = upto 0 p (λ g. let e : p ≡ 0 = omega arith in rw e) (λ g. let e : p ≡ 1 = omega arith in rw e)

nine : (c : List ℕ) → length c ≡ 9 → cell c 0 ∷ cell c 1 ∷ cell c 2 ∷ cell c 3 ∷ cell c 4 ∷ cell c 5 ∷ cell c 6 ∷ cell c 7 ∷ cell c 8 ∷ [] ≡ c
nine [] e = absurd (omega arith)
nine (c0 ∷ []) e = absurd (omega arith)
nine (c0 ∷ c1 ∷ []) e = absurd (omega arith)
nine (c0 ∷ c1 ∷ c2 ∷ []) e = absurd (omega arith)
nine (c0 ∷ c1 ∷ c2 ∷ c3 ∷ []) e = absurd (omega arith)
nine (c0 ∷ c1 ∷ c2 ∷ c3 ∷ c4 ∷ []) e = absurd (omega arith)
nine (c0 ∷ c1 ∷ c2 ∷ c3 ∷ c4 ∷ c5 ∷ []) e = absurd (omega arith)
nine (c0 ∷ c1 ∷ c2 ∷ c3 ∷ c4 ∷ c5 ∷ c6 ∷ []) e = absurd (omega arith)
nine (c0 ∷ c1 ∷ c2 ∷ c3 ∷ c4 ∷ c5 ∷ c6 ∷ c7 ∷ []) e = absurd (omega arith)
nine (c0 ∷ c1 ∷ c2 ∷ c3 ∷ c4 ∷ c5 ∷ c6 ∷ c7 ∷ c8 ∷ []) e = refl
nine (c0 ∷ c1 ∷ c2 ∷ c3 ∷ c4 ∷ c5 ∷ c6 ∷ c7 ∷ c8 ∷ c9 ∷ c) e = absurd (omega arith)

-- a connection that was not changed is put again as the cells that held it
pub line_back : (c : List ℕ) → length c ≡ 9 → is_connection c ≡ true → line_cells (line_in c) ≡ c
line_back c l e =
    let k = line_sound c e in
    (λ j. cell c 0 ∷ cell c 1 ∷ cell c 2 ∷ cell c 3
    ∷ standing_back (cell c 4) (cell c 5) (cell c 6) (cell c 7) (standing_sound (cell c 4) (cell c 5) (cell c 6) (cell c 7) k.standing) j
    ++ (profile_back (cell c 8) k.profile j ∷ []))
    ∙ nine c l

-- ---- whether they hold one

pub kept_line : (c : List ℕ) (x : Line) → line x ≡ kept_in c → (is_connection c ≡ true) × (x ≡ line_in c)
unfolding kept_in
kept_line c x e = go (is_connection c) refl e
  where
    go : (t : Bool) → is_connection c ≡ t → line x ≡ cond t (line (line_in c)) no_line → (is_connection c ≡ true) × (x ≡ line_in c)
    go true h q = (h, cc)
    go false h q = let z : ◌≡◌ {A = ℕ} 0 1 = cc in absurd (omega arith)

pub kept_none : (c : List ℕ) → no_line ≡ kept_in c → is_connection c ≡ false
unfolding kept_in
kept_none c e = go (is_connection c) refl e
  where
    go : (t : Bool) → is_connection c ≡ t → no_line ≡ cond t (line (line_in c)) no_line → is_connection c ≡ false
    go true h q = let z : ◌≡◌ {A = ℕ} 0 1 = cc in absurd (omega arith)
    go false h q = h
