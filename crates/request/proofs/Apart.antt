-- What is told of an answer tells any two answers apart: it can be turned back into the answer.
-- Assumes nothing.
use mathlib.Core.Path.{◌≡◌, refl, sym, ap}
use mathlib.Core.List.{List}
use Prim.Native.Nat.{ℕ}
use native.Mathlib.Omega.{arith}
use Rattle.nts.proofs.Apart.{apart, refusal_apart}
use Rattle.nts.specs.Refusal as nts
use Rattle.nts.specs.Refusal.{told_refusal}
use Rattle.walk.specs.Judge as judge
use Rattle.request.specs.Request.{Form, key_exchange, fixed_key, support, told_by, Told, key_exchange_is, fixed_key_is, support_is, refused_with, told_request, told_answer}
use Rattle.request.specs.declared.Request.{Request}
use Rattle.request.specs.declared.Request.TheVariants.{KeyExchange, FixedKey, Support}
use Rattle.request.specs.declared.Answer.{Answer}
use Rattle.request.specs.declared.Answer.TheVariants.{Accepted, Refused}

request_from : Told → Request
request_from (key_exchange_is p a d) = KeyExchange p a d
request_from (fixed_key_is u c s a p k) = FixedKey u c s (record { 0 = a }) (record { 0 = p }) k
request_from (support_is u p a k) = Support u p a k
request_from (refused_with r) = KeyExchange (record { start = 0; len = 0 }) (record { start = 0; len = 0 }) 0

request_back : (q : Request) → request_from (told_request q) ≡ q
unfolding request_from
request_back (KeyExchange p a d) = refl
request_back (FixedKey u c s a p k) = refl
request_back (Support u p a k) = refl

pub request_apart : (x y : Request) → told_request x ≡ told_request y → x ≡ y
request_apart = apart told_request request_from request_back

-- an accepted request is told as no refusal
no_refusal : (q : Request) {r : _} → told_request q ≡ refused_with r → ⊥
no_refusal (KeyExchange p a d) e = let o : ◌≡◌ {A = ℕ} 0 1 = cc in omega arith
no_refusal (FixedKey u c s a p k) e = let o : ◌≡◌ {A = ℕ} 0 1 = cc in omega arith
no_refusal (Support u p a k) e = let o : ◌≡◌ {A = ℕ} 0 1 = cc in omega arith

pub answer_apart : (x y : Answer) → told_answer x ≡ told_answer y → x ≡ y
answer_apart (Accepted q) (Accepted w) e = ap Accepted (request_apart q w e)
answer_apart (Accepted q) (Refused s) e = absurd (no_refusal q e)
answer_apart (Refused r) (Accepted w) e = absurd (no_refusal w (sym e))
answer_apart (Refused r) (Refused s) e =
    let t : told_refusal r ≡ told_refusal s = cc in
    ap Refused (refusal_apart r s t)

-- where a refusal is told, it is what is answered
pub told_refused : (m : List ℕ) (x : judge.Answer Form) (r : nts.Refused) → told_by m x ≡ refused_with r → x ≡ judge.refused r
told_refused m (judge.refused y) r e = let z : y ≡ r = cc in ap judge.refused z
told_refused m (judge.accepted (key_exchange p a d)) r e = let z : ◌≡◌ {A = ℕ} 0 1 = cc in absurd (omega arith)
told_refused m (judge.accepted (fixed_key u x a p k)) r e = let z : ◌≡◌ {A = ℕ} 0 1 = cc in absurd (omega arith)
told_refused m (judge.accepted (support u p a k)) r e = let z : ◌≡◌ {A = ℕ} 0 1 = cc in absurd (omega arith)
