-- What is told of a writer's answer tells any two answers apart, and a writer's contract has one answer and leaves one output.
-- Assumes nothing.
use mathlib.Core.Path.{◌≡◌, sym, ap, ◌∙◌}
use mathlib.Core.List.{List}
use Prim.Native.Nat.{ℕ}
use native.Mathlib.Omega.{arith}
use Rattle.nts.proofs.Apart.{error_apart}
use Rattle.nts.specs.Refusal.{number_of, beside_of}
use Rattle.layout.specs.Write.{Count, told_count, Wrote}
use Rattle.layout.specs.declared.ByteCount.{ByteCount}
use Rattle.layout.specs.declared.ByteCount.TheVariants as count

pub count_apart : (x y : ByteCount) → told_count x ≡ told_count y → x ≡ y
count_apart (count.Bytes m) (count.Bytes n) e = let t : m ≡ n = cc in ap count.Bytes t
count_apart (count.Bytes m) (count.Refused y) e = let z : ◌≡◌ {A = ℕ} 0 1 = cc in absurd (omega arith)
count_apart (count.Refused x) (count.Bytes n) e = let z : ◌≡◌ {A = ℕ} 0 1 = cc in absurd (omega arith)
count_apart (count.Refused x) (count.Refused y) e =
    let t : number_of x ≡ number_of y = cc in
    let u : beside_of x ≡ beside_of y = cc in
    ap count.Refused (error_apart x y t u)

pub wrote_same : {a : Count} {b o o' o'' : List ℕ} {r q : ByteCount} → Wrote a b o r o' → Wrote a b o q o'' → (r ≡ q) × (o' ≡ o'')
wrote_same {a} {b} {o} {o'} {o''} {r} {q} x y = (count_apart r q (x.says ∙ sym y.says), x.left ∙ sym y.left)
