-- Any two results that meet a public function's contract are the same: one theorem a function, over the contract itself.
-- Assumes nothing.
use mathlib.Core.Path.{◌≡◌, sym, ap, ◌∙◌}
use Prim.Native.Nat.{ℕ}
use native.Mathlib.Omega.{arith}
use Rattle.nts.specs.Refusal.{number_of, beside_of}
use Rattle.nts.proofs.Apart.{error_apart}
use Rattle.negotiation.specs.Negotiation.{told_choice, told_protocol}
use Rattle.negotiation.specs.declared.Choice.{Choice}
use Rattle.negotiation.specs.declared.Choice.TheVariants.{Chosen, Refused}
use Rattle.negotiation.specs.declared.ProtocolChoice.{ProtocolChoice}
use Rattle.negotiation.specs.declared.ProtocolChoice.TheVariants as protocol
use Rattle.negotiation.proofs.choose.Reads as choose
use Rattle.negotiation.proofs.choose_protocol.Reads as choose_protocol
use Rattle.negotiation.proofs.has.Reads as has

-- what is told of an answer tells any two answers apart
pub choice_apart : (x y : Choice) → told_choice x ≡ told_choice y → x ≡ y
choice_apart (Chosen x) (Chosen y) e =
    let p : x.protocol.0 ≡ y.protocol.0 = cc in
    let a : x.algorithm.0 ≡ y.algorithm.0 = cc in
    λ j. Chosen (record { protocol = record { 0 = p j }; algorithm = record { 0 = a j } })
choice_apart (Chosen x) (Refused d) e = let o : ◌≡◌ {A = ℕ} 0 1 = cc in absurd (omega arith)
choice_apart (Refused c) (Chosen y) e = let o : ◌≡◌ {A = ℕ} 0 1 = cc in absurd (omega arith)
choice_apart (Refused c) (Refused d) e =
    let n : number_of c ≡ number_of d = cc in
    let b : beside_of c ≡ beside_of d = cc in
    ap Refused (error_apart c d n b)

pub choose_same : (κs : _) (a : _) (r r' : _) (e e' : _) → choose.Learnt κs a r e → choose.Learnt κs a r' e' → r ≡ r'
choose_same κs a r r' e e' p q = choice_apart r r' (p ∙ sym q)

pub protocol_apart : (x y : ProtocolChoice) → told_protocol x ≡ told_protocol y → x ≡ y
protocol_apart (protocol.Chosen x) (protocol.Chosen y) e = let p : x.0 ≡ y.0 = cc in λ j. protocol.Chosen (record { 0 = p j })
protocol_apart (protocol.Chosen x) (protocol.Refused d) e = let o : ◌≡◌ {A = ℕ} 0 1 = cc in absurd (omega arith)
protocol_apart (protocol.Refused c) (protocol.Chosen y) e = let o : ◌≡◌ {A = ℕ} 0 1 = cc in absurd (omega arith)
protocol_apart (protocol.Refused c) (protocol.Refused d) e =
    let n : number_of c ≡ number_of d = cc in
    let b : beside_of c ≡ beside_of d = cc in
    ap protocol.Refused (error_apart c d n b)

pub choose_protocol_same : (κs : _) (a : _) (r r' : _) (e e' : _) → choose_protocol.Learnt κs a r e → choose_protocol.Learnt κs a r' e' → r ≡ r'
choose_protocol_same κs a r r' e e' p q = protocol_apart r r' (p ∙ sym q)

pub has_same : (κs : _) (a : _) (r r' : _) (e e' : _) → has.Learnt κs a r e → has.Learnt κs a r' e' → r ≡ r'
has_same κs a r r' e e' p q = p ∙ sym q
