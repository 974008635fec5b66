-- Laws of the calls that answer a word and into lent cells.
-- Assumes nothing.
use mathlib.Core.Path.{◌≡◌, refl, sym, ap, subst, ◌∙◌}
use mathlib.Core.List.{List, [], ◌∷◌}
use Prim.Native.Nat.{ℕ, ◌+◌, ◌*◌, ◌/◌, ◌%◌, ◌<◌, ◌≤◌}
use native.Mathlib.Omega.{arith}
use Rattle.wire.specs.Over.{over}
use Rattle.nts.specs.Refusal.{Beside, nothing, code, protocol, algorithm, beside_number, Refused}
use Rattle.layout.specs.Write.{Count, bytes, refused, fitted, told_count, left_by, Wrote}
use Rattle.layout.specs.declared.ByteCount.{ByteCount}
use Rattle.cells.specs.Cells.{sort_of, marked, word, unplaced, Given, cells, refuses, Gives, counted, Writes}

-- a word is the sum of what was found for it
pub adds_up : {n m : ℕ} (k : ℕ) (b : Beside) (place : ℕ) → n ≡ marked k b → m ≡ beside_number b → n + 65536 * m + 4294967296 * place ≡ word (record { number = k; beside = b; place = place })
unfolding word
adds_up k b place p q = rw (p, q)

-- the word and the cells are those of what a callee told, whatever its contract calls that
pub given : {T : Type 0} (f : T → Given) {t u : T} {lent after : List ℕ} {r : ℕ} → t ≡ u → Gives (f t) lent r after → Gives (f u) lent r after
given f {lent = lent} {after = after} {r = r} e p = subst (λ x. Gives (f x) lent r after) e p

-- a refusal stays one, whatever the room
pub fitted_no : {a : Count} (room n : ℕ) (b : Beside) → refused n b ≡ a → refused n b ≡ fitted room a
unfolding fitted
fitted_no room n b e = rw (← e)

-- a writer's answer and output, and the word and cell that were given for it
pub wrote : {a : Count} {b o o' lent after : List ℕ} {x : ByteCount} {r : ℕ} → Wrote a b o x o' → Gives (counted (told_count x)) lent r after
    → Writes a b o lent r o' after
wrote w p = record { gives = given counted w.says p; wrote = w.left }

-- what a contract says in this way, it says of one word and one list of cells, and of one output
pub gives_same : {g : Given} {lent after after' : List ℕ} {r r' : ℕ} → Gives g lent r after → Gives g lent r' after' → (r ≡ r') × (after ≡ after')
gives_same p q = (p.says ∙ sym q.says, p.left ∙ sym q.left)

pub writes_same : {a : Count} {b o lent o' o'' after after' : List ℕ} {r r' : ℕ} → Writes a b o lent r o' after → Writes a b o lent r' o'' after'
    → (r ≡ r') × (o' ≡ o'') × (after ≡ after')
writes_same p q = (p.gives.says ∙ sym q.gives.says, p.wrote ∙ sym q.wrote, p.gives.left ∙ sym q.gives.left)

-- ---- a word that is not 0

-- it is a refusal's, and so bears its number ..
pub gives_refused : {g : Given} {lent after : List ℕ} {r : ℕ} → Gives g lent r after → (r ≡ 0 → ⊥) → (y : Refused) × (g ≡ refuses y) × (r ≡ word y)
gives_refused {g = cells c} p h = absurd (h p.says)
gives_refused {g = refuses y} p h = (y, refl, p.says)

-- .. and no cell changes, and no output
pub gives_kept : {g : Given} {lent after : List ℕ} {r : ℕ} → Gives g lent r after → (r ≡ 0 → ⊥) → after ≡ lent
gives_kept {g = cells c} p h = absurd (h p.says)
gives_kept {g = refuses y} p h = p.left

pub writes_kept : {a : Count} {b o lent o' after : List ℕ} {r : ℕ} → Writes a b o lent r o' after → (r ≡ 0 → ⊥) → (o' ≡ o) × (after ≡ lent)
unfolding left_by
writes_kept {a = bytes n} p h = absurd (h p.gives.says)
writes_kept {a = refused k b} p h = (p.wrote, p.gives.left)

sort_small : (b : Beside) → sort_of b ≤ 2
sort_small nothing = omega arith
sort_small (code n) = omega arith
sort_small (protocol p) = omega arith
sort_small (algorithm a) = omega arith

-- it tells the number ..
pub number_in_lem : (y : Refused) → y.number < 256 → word y % 256 ≡ y.number
unfolding word
number_in_lem y n = omega arith

-- .. with what was not offered ..
pub mark_in : (y : Refused) → y.number < 256 → word y % 65536 ≡ marked y.number y.beside
unfolding word
mark_in y n = let l = sort_small y.beside in omega arith

-- .. and, where the number beside it has sixteen bits, what was not offered, that and the place
pub apart : (y : Refused) → y.number < 256 → beside_number y.beside < 65536
    → (word y % 256 ≡ y.number) × (word y / 256 % 256 ≡ sort_of y.beside) × (word y / 65536 % 65536 ≡ beside_number y.beside) × (word y / 4294967296 ≡ y.place)
unfolding word
apart y n b = let l = sort_small y.beside in (number_in_lem y n, omega arith, omega arith, omega arith)

-- ---- a word that is 0

-- it is no refusal's, since no refusal's number is 0
pub word_some : (y : Refused) → 1 ≤ y.number → word y ≡ 0 → ⊥
unfolding word
word_some y h e = omega arith

abbrev pub Sure : Given → Type 0
Sure (cells c) = Unit {0}
Sure (refuses y) = 1 ≤ y.number

-- so something is given, and that is what the cells hold ..
pub gives_granted : {g : Given} {lent after : List ℕ} {r : ℕ} → Gives g lent r after → Sure g → r ≡ 0 → g ≡ cells after
gives_granted {g = cells c} p s z = ap cells (sym p.left)
gives_granted {g = refuses y} p s z = absurd (word_some y s (sym p.says ∙ z))

pub counted_granted : {a : Count} {lent after : List ℕ} {r : ℕ} → Gives (counted a) lent r after → Sure (counted a) → r ≡ 0 → (n : ℕ) × (a ≡ bytes n) × (after ≡ n ∷ [])
counted_granted {a = bytes n} p s z = (n, refl, p.left)
counted_granted {a = refused k b} p s z = absurd (word_some (unplaced k b) s (sym p.says ∙ z))

-- .. and something is written
pub writes_granted : {a : Count} {b o lent o' after : List ℕ} {r : ℕ} → Writes a b o lent r o' after → Sure (counted a) → r ≡ 0
    → (n : ℕ) × (a ≡ bytes n) × (o' ≡ over b o) × (after ≡ n ∷ [])
unfolding left_by
writes_granted {a = bytes n} p s z = (n, refl, p.wrote, p.gives.left)
writes_granted {a = refused k b} p s z = absurd (word_some (unplaced k b) s (sym p.gives.says ∙ z))
