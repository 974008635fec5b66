-- Any two results that meet a public function's contract are the same, and so are the cells they leave: one theorem a function, over the
-- contract itself.
-- Assumes nothing.
use mathlib.Core.Path.{◌≡◌, refl, sym, ap, ◌∙◌}
use Prim.Native.Nat.{ℕ}
use native.Mathlib.Omega.{arith}
use Rattle.nts.specs.Refusal.{Refused, number_of, beside_of}
use Rattle.nts.specs.declared.Refusal.{Refusal}
use Rattle.nts.proofs.Apart.{refusal_apart}
use Rattle.walk.specs.Found.{way_by}
use Rattle.walk.specs.Finding.{Found, as_finding, told_finding}
use Rattle.walk.specs.Met.{told_passed}
use Rattle.walk.specs.declared.Passed.{Passed}
use Rattle.walk.specs.declared.Passed.TheVariants as passed
use Rattle.walk.specs.declared.Finding.{Finding}
use Rattle.walk.specs.declared.Stop.TheVariants as stop
use Rattle.walk.proofs.cut_at.Reads as cut_at
use Rattle.walk.proofs.walk.Reads as walk
use Rattle.walk.proofs.Finding.is_same.Reads as is_same
use Rattle.walk.proofs.found.Reads as found
use Rattle.walk.proofs.is_there.Reads as is_there
use Rattle.walk.proofs.pass.Reads as pass
use Rattle.walk.proofs.is_end.Reads as is_end
use Rattle.walk.proofs.Seen.body.Reads as body

-- ---- how a walk stopped

-- what a finding says tells any two apart
pub finding_apart : (x y : Finding) → told_finding x ≡ told_finding y → x ≡ y
finding_apart x y e = go x.stop y.stop refl refl (ap (λ (f : Found). f.way) e)
  where
    limits : x.limit ≡ y.limit
    limits = ap (λ (f : Found). f.limit) e

    cells : x.cells ≡ y.cells
    cells = ap (λ (f : Found). f.cells) e

    go : (a b : _) → x.stop ≡ a → y.stop ≡ b → way_by x.place a ≡ way_by y.place b → x ≡ y
    go stop.End stop.End p q w =
        let at : x.place ≡ y.place = cc in
        λ i. record { limit = limits i; cells = cells i; place = at i; stop = (p ∙ sym q) i }
    go stop.End (stop.Refused f) p q w = let z : ◌≡◌ {A = ℕ} 0 1 = cc in absurd (omega arith)
    go (stop.Refused d) stop.End p q w = let z : ◌≡◌ {A = ℕ} 0 1 = cc in absurd (omega arith)
    go (stop.Refused d) (stop.Refused f) p q w =
        let t : ◌≡◌ {A = Refused} (record { number = number_of d; beside = beside_of d; place = x.place }) (record { number = number_of f; beside = beside_of f; place = y.place }) = cc in
        let r = refusal_apart (record { error = d; place = x.place }) (record { error = f; place = y.place }) t in
        let at : x.place ≡ y.place = ap (λ (u : Refusal). u.place) r in
        let same : x.stop ≡ y.stop = p ∙ ap (λ (u : Refusal). stop.Refused u.error) r ∙ sym q in
        λ i. record { limit = limits i; cells = cells i; place = at i; stop = same i }

-- ---- whether it goes on

passed_apart : (x y : Passed) → told_passed x ≡ told_passed y → x ≡ y
passed_apart (passed.On m) (passed.On n) e = let p : m ≡ n = cc in ap passed.On p
passed_apart (passed.On m) passed.Stopped e = let z : ◌≡◌ {A = ℕ} 0 1 = cc in absurd (omega arith)
passed_apart passed.Stopped (passed.On n) e = let z : ◌≡◌ {A = ℕ} 0 1 = cc in absurd (omega arith)
passed_apart passed.Stopped passed.Stopped e = refl

-- ---- the functions

pub cut_at_same : (κs : _) (a : _) (r r' : _) (e e' : _) → cut_at.Learnt κs a r e → cut_at.Learnt κs a r' e' → (r.now ≡ r'.now) × (r.ref_ptr ≡ r'.ref_ptr)
cut_at_same κs a r r' e e' p q = (p.holds ∙ sym q.holds, p.place ∙ sym q.place)

pub walk_same : (κs : _) (a : _) (r r' : _) (e e' : _) → walk.Learnt κs a r e → walk.Learnt κs a r' e' → (r ≡ r') × (e.1.1.1.1.0.now ≡ e'.1.1.1.1.0.now)
walk_same κs a r r' e e' p q =
    let x = finding_apart (as_finding r e.1.1.1.1.0.now) (as_finding r' e'.1.1.1.1.0.now) (p ∙ sym q) in
    ((λ i. record { limit = (x i).limit; place = (x i).place; stop = (x i).stop }), ap (λ (f : Finding). f.cells) x)

pub Finding-is_same_same : (κs : _) (a : _) (r r' : _) (e e' : _) → is_same.Learnt κs a r e → is_same.Learnt κs a r' e' → r ≡ r'
Finding-is_same_same κs a r r' e e' p q = p ∙ sym q

pub found_same : (κs : _) (a : _) (r r' : _) (e e' : _) → found.Learnt κs a r e → found.Learnt κs a r' e' → r ≡ r'
found_same κs a r r' e e' p q = p ∙ sym q

pub is_there_same : (κs : _) (a : _) (r r' : _) (e e' : _) → is_there.Learnt κs a r e → is_there.Learnt κs a r' e' → r ≡ r'
is_there_same κs a r r' e e' p q = p ∙ sym q

pub pass_same : (κs : _) (a : _) (r r' : _) (e e' : _) → pass.Learnt κs a r e → pass.Learnt κs a r' e' → r ≡ r'
pass_same κs a r r' e e' p q = passed_apart r r' (p ∙ sym q)

pub is_end_same : (κs : _) (a : _) (r r' : _) (e e' : _) → is_end.Learnt κs a r e → is_end.Learnt κs a r' e' → r ≡ r'
is_end_same κs a r r' e e' p q = p ∙ sym q

pub Seen-body_same : (κs : _) (a : _) (r r' : _) (e e' : _) → body.Learnt κs a r e → body.Learnt κs a r' e' → r ≡ r'
Seen-body_same κs a r r' e e' p q = p ∙ sym q
