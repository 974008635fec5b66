-- Any two results that meet a public function's contract are the same, and so are the tables they leave: one theorem a function, over the
-- contract itself.
-- Assumes nothing.
use mathlib.Core.Path.{◌≡◌, sym, ap, ◌∙◌}
use Prim.Native.Nat.{ℕ}
use native.Mathlib.Omega.{arith}
use Rattle.wire.proofs.Bytes.{part_of_same}
use Rattle.nts.specs.Refusal.{told_refusal}
use Rattle.nts.proofs.Apart.{refusal_apart}
use Rattle.places.specs.Places.{told_filled}
use Rattle.places.specs.declared.Filled.{Filled}
use Rattle.places.specs.declared.Filled.TheVariants as filled
use Rattle.places.proofs.entry.Reads as entry
use Rattle.places.proofs.fill.Reads as fill

filled_apart : (x y : Filled) → told_filled x ≡ told_filled y → x ≡ y
filled_apart (filled.Stored n) (filled.Stored k) e = let same : n ≡ k = cc in ap filled.Stored same
filled_apart (filled.Stored n) (filled.Refused q) e = let z : ◌≡◌ {A = ℕ} 0 1 = cc in absurd (omega arith)
filled_apart (filled.Stored n) (filled.First k) e = let z : ◌≡◌ {A = ℕ} 0 1 = cc in absurd (omega arith)
filled_apart (filled.First n) (filled.Stored k) e = let z : ◌≡◌ {A = ℕ} 0 1 = cc in absurd (omega arith)
filled_apart (filled.First n) (filled.First k) e = let same : n ≡ k = cc in ap filled.First same
filled_apart (filled.First n) (filled.Refused q) e = let z : ◌≡◌ {A = ℕ} 0 1 = cc in absurd (omega arith)
filled_apart (filled.Refused p) (filled.First k) e = let z : ◌≡◌ {A = ℕ} 0 1 = cc in absurd (omega arith)
filled_apart (filled.Refused p) (filled.Stored k) e = let z : ◌≡◌ {A = ℕ} 0 1 = cc in absurd (omega arith)
filled_apart (filled.Refused p) (filled.Refused q) e = let same : told_refusal p ≡ told_refusal q = cc in ap filled.Refused (refusal_apart p q same)

pub entry_same : (κs : _) (a : _) (r r' : _) (e e' : _) → entry.Learnt κs a r e → entry.Learnt κs a r' e' → (r.now ≡ r'.now) × (r.ref_ptr ≡ r'.ref_ptr)
entry_same κs a r r' e e' p q = part_of_same p q

pub fill_same : (κs : _) (a : _) (r r' : _) (e e' : _) → fill.Learnt κs a r e → fill.Learnt κs a r' e' → (r ≡ r') × (e.1.1.1.0.now ≡ e'.1.1.1.0.now)
fill_same κs a r r' e e' p q = (filled_apart r r' (p.says ∙ sym q.says), p.left ∙ sym q.left)
