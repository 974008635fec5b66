-- What is told of an answer tells any two answers apart: it can be turned back into the answer.
-- Assumes nothing.
use mathlib.Core.Path.{◌≡◌, refl, sym, ap, ◌∙◌}
use Prim.Native.Nat.{ℕ}
use Rattle.nts.specs.Algorithm.{Described, known, unknown, told_description}
use Rattle.nts.specs.Refusal.{number_of, Beside, nothing, code, protocol, algorithm, beside_of, told_code, Refused, told_refusal, error_in}
use Rattle.nts.specs.declared.NtsError.{NtsError}
use Rattle.nts.specs.declared.NtsError.TheVariants.{UnexpectedEof, InvalidData, UnrecognizedCriticalRecord, Invalid, AeadNotSupported, IncorrectSizedKey, TableFull, InvalidInput, InvalidValue, OutputTooShort, Error, UnknownWarning, NoOverlappingProtocol, NoOverlappingAlgorithm, NoCookie, BufferFull, ProtocolNotOffered, AeadNotOffered, NotAllowed}
use Rattle.nts.specs.declared.Code.{Code}
use Rattle.nts.specs.declared.Code.TheVariants.{None, Number, Protocol, Algorithm}
use Rattle.nts.specs.declared.Description.{Description}
use Rattle.nts.specs.declared.Description.TheVariants.{Known, Unknown}
use Rattle.nts.specs.declared.Refusal.{Refusal}

-- two values are the same where what is told of them is, and that can be turned back
pub apart : {A T : Type 0} (told : A → T) (back : T → A) → ((x : A) → back (told x) ≡ x) → (x y : A) → told x ≡ told y → x ≡ y
apart told back same x y e = sym (same x) ∙ ap back e ∙ same y

error_from : Refused → NtsError
error_from r = error_in r.number r.beside

error_back : (e : NtsError) (p : ℕ) → error_from (record { number = number_of e; beside = beside_of e; place = p }) ≡ e
unfolding error_from error_in
error_back UnexpectedEof p = refl
error_back InvalidData p = refl
error_back UnrecognizedCriticalRecord p = refl
error_back Invalid p = refl
error_back (AeadNotSupported c) p = refl
error_back IncorrectSizedKey p = refl
error_back TableFull p = refl
error_back InvalidInput p = refl
error_back InvalidValue p = refl
error_back OutputTooShort p = refl
error_back (Error c) p = refl
error_back (UnknownWarning c) p = refl
error_back NoOverlappingProtocol p = refl
error_back NoOverlappingAlgorithm p = refl
error_back NoCookie p = refl
error_back BufferFull p = refl
error_back (ProtocolNotOffered c) p = refl
error_back (AeadNotOffered c) p = refl
error_back NotAllowed p = refl

pub error_apart : (x y : NtsError) → number_of x ≡ number_of y → beside_of x ≡ beside_of y → x ≡ y
error_apart x y p q = sym (error_back x 0) ∙ (λ j. error_from (record { number = p j; beside = q j; place = 0 })) ∙ error_back y 0

refusal_from : Refused → Refusal
refusal_from r = record { error = error_from r; place = r.place }

pub refusal_apart : (x y : Refusal) → told_refusal x ≡ told_refusal y → x ≡ y
unfolding refusal_from
refusal_apart = apart told_refusal refusal_from (λ x. ap (λ (e : NtsError). record { error = e; place = x.place }) (error_back x.error x.place))

code_from : Beside → Code
code_from nothing = None
code_from (code n) = Number n
code_from (protocol n) = Protocol (record { 0 = n })
code_from (algorithm n) = Algorithm (record { 0 = n })

code_back : (x : Code) → code_from (told_code x) ≡ x
unfolding code_from
code_back None = refl
code_back (Number n) = refl
code_back (Protocol n) = refl
code_back (Algorithm n) = refl

pub code_apart : (x y : Code) → told_code x ≡ told_code y → x ≡ y
code_apart = apart told_code code_from code_back

description_from : Described → Description
description_from unknown = Unknown
description_from (known n k) = Known (record { id = record { 0 = n }; keysize = k })

description_back : (x : Description) → description_from (told_description x) ≡ x
unfolding description_from
description_back Unknown = refl
description_back (Known d) = refl

pub description_apart : (x y : Description) → told_description x ≡ told_description y → x ≡ y
description_apart = apart told_description description_from description_back
