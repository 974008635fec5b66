-- The text of every message fits the output, so the listing's writer has room for it and refuses nothing.
-- Assumes nothing.
use mathlib.Core.Path.{◌≡◌, refl, ap, ◌∙◌}
use mathlib.Core.List.{List}
use Prim.Native.Nat.{ℕ, ◌≤◌}
use native.Mathlib.Omega.{arith}
use borrow.Author.Tests.{le-ltb}
use lib.ListN.{length}
use Rattle.wire.specs.Over.{over, Put}
use Rattle.wire.proofs.Over.{length_over}
use Rattle.layout.specs.Write.{bytes, fitted, left_by, told_count, Wrote}
use Rattle.layout.specs.declared.ByteCount.{ByteCount}
use Rattle.layout.specs.declared.ByteCount.TheVariants as count
use Rattle.listing.specs.Listing.{listing}
use Rattle.listing.proofs.Longest.{listing_longest}
use Rattle.kelist.specs.Kelist.{kelist_text}

pub text_fits : (m : List ℕ) → length (kelist_text m) ≤ 262272
unfolding kelist_text
text_fits m = listing_longest m 65535 1024 (omega arith)

-- what a writer of the text t that had room answered and left: its count and t at the front, and never a refusal
abbrev pub Made : List ℕ → List ℕ → ByteCount → List ℕ → Type 0
Made t o (count.Bytes n) o' = Put (length t) t o n o'
Made t o (count.Refused x) o' = ⊥

made : (t o o' : List ℕ) (r : ByteCount) → told_count r ≡ bytes (length t) → o' ≡ over t o → Made t o r o'
made t o o' (count.Bytes n) e l = record { count = cc; size = refl; left = l }
made t o o' (count.Refused x) e l = let z : ◌≡◌ {A = ℕ} 0 1 = cc in omega arith

pub text_made : (m : List ℕ) {o o' : List ℕ} {r : ByteCount} → 262272 ≤ length o → Wrote (fitted (length o) (bytes (length (listing m 65535 1024)))) (listing m 65535 1024) o r o' → Made (kelist_text m) o r o'
unfolding kelist_text fitted left_by
text_made m {o} {o'} {r} h w = let v = rw (le-ltb (length o) (length (listing m 65535 1024)) (omega (arith, text_fits m))) at w in made _ o o' r v.says v.left

pub text_inside : (m : List ℕ) {o o' : List ℕ} {r : ℕ} → 262272 ≤ length o → Put (length (kelist_text m)) (kelist_text m) o r o' → r ≤ length o'
text_inside m {o} {o'} {r} h p = let l : length o' ≡ length o = ap length p.left ∙ length_over (kelist_text m) o (omega (arith, text_fits m)) in omega (arith, p.count, text_fits m)
