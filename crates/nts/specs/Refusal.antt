-- 01, "Numbers a call can refuse with", and 02, orders 1 (16), 3 (17) and 5 (18): the number of each refusal, what is returned beside it, and the place of a reading refusal.
use Rattle.std.specs.Prelude.{ℕ, cond, eqb}
use Rattle.nts.specs.declared.NtsError.{NtsError}
use Rattle.nts.specs.declared.NtsError.TheVariants.{UnexpectedEof, InvalidData, UnrecognizedCriticalRecord, Invalid, AeadNotSupported, IncorrectSizedKey, TableFull, InvalidInput, InvalidValue, OutputTooShort, Error, UnknownWarning, NoOverlappingProtocol, NoOverlappingAlgorithm, NoCookie, BufferFull, ProtocolNotOffered, AeadNotOffered, NotAllowed}
use Rattle.nts.specs.declared.Code.{Code}
use Rattle.nts.specs.declared.Code.TheVariants.{None, Number, Protocol, Algorithm}
use Rattle.nts.specs.declared.Refusal.{Refusal}

-- the column "No."
abbrev pub number_of : NtsError → ℕ
number_of UnexpectedEof = 1
number_of InvalidData = 2
number_of UnrecognizedCriticalRecord = 3
number_of Invalid = 4
number_of (AeadNotSupported a) = 5
number_of IncorrectSizedKey = 6
number_of TableFull = 7
number_of InvalidInput = 8
number_of InvalidValue = 9
number_of OutputTooShort = 10
number_of (Error c) = 11
number_of (UnknownWarning c) = 12
number_of NoOverlappingProtocol = 13
number_of NoOverlappingAlgorithm = 14
number_of NoCookie = 15
number_of BufferFull = 16
number_of (ProtocolNotOffered p) = 17
number_of (AeadNotOffered a) = 17
number_of NotAllowed = 18

-- what is returned beside a number: a number or code whose sort the refusal's own number tells, or a protocol or an algorithm
pub data Beside : Type 0 where
  nothing : Beside
  code : ℕ → Beside
  protocol : ℕ → Beside
  algorithm : ℕ → Beside

-- "number returned" with 5, "code returned" with 11 and 12; and with 17 "the number, for a protocol and then for an algorithm not offered"
abbrev pub beside_of : NtsError → Beside
beside_of UnexpectedEof = nothing
beside_of InvalidData = nothing
beside_of UnrecognizedCriticalRecord = nothing
beside_of Invalid = nothing
beside_of (AeadNotSupported a) = code a.0
beside_of IncorrectSizedKey = nothing
beside_of TableFull = nothing
beside_of InvalidInput = nothing
beside_of InvalidValue = nothing
beside_of OutputTooShort = nothing
beside_of (Error c) = code c.0
beside_of (UnknownWarning c) = code c.0
beside_of NoOverlappingProtocol = nothing
beside_of NoOverlappingAlgorithm = nothing
beside_of NoCookie = nothing
beside_of BufferFull = nothing
beside_of (ProtocolNotOffered p) = protocol p.0
beside_of (AeadNotOffered a) = algorithm a.0
beside_of NotAllowed = nothing

-- the number that stands there, 0 for none
abbrev pub beside_number : Beside → ℕ
beside_number nothing = 0
beside_number (code n) = n
beside_number (protocol p) = p
beside_number (algorithm a) = a

-- back from both: the refusal that has a number, with what is beside it
abbrev pub not_offered : Beside → NtsError
not_offered nothing = AeadNotOffered (record { 0 = 0 })
not_offered (code n) = AeadNotOffered (record { 0 = n })
not_offered (protocol p) = ProtocolNotOffered (record { 0 = p })
not_offered (algorithm a) = AeadNotOffered (record { 0 = a })

unfoldable pub error_in : ℕ → Beside → NtsError
error_in n b =
    cond (eqb n 1) UnexpectedEof
    (cond (eqb n 2) InvalidData
    (cond (eqb n 3) UnrecognizedCriticalRecord
    (cond (eqb n 4) Invalid
    (cond (eqb n 5) (AeadNotSupported (record { 0 = beside_number b }))
    (cond (eqb n 6) IncorrectSizedKey
    (cond (eqb n 7) TableFull
    (cond (eqb n 8) InvalidInput
    (cond (eqb n 9) InvalidValue
    (cond (eqb n 10) OutputTooShort
    (cond (eqb n 11) (Error (record { 0 = beside_number b }))
    (cond (eqb n 12) (UnknownWarning (record { 0 = beside_number b }))
    (cond (eqb n 13) NoOverlappingProtocol
    (cond (eqb n 14) NoOverlappingAlgorithm
    (cond (eqb n 15) NoCookie
    (cond (eqb n 16) BufferFull
    (cond (eqb n 18) NotAllowed
    (not_offered b)))))))))))))))))

-- what each case of the answer says
abbrev pub told_code : Code → Beside
told_code None = nothing
told_code (Number n) = code n
told_code (Protocol p) = protocol p.0
told_code (Algorithm a) = algorithm a.0

-- a reading refusal as this paper tells it
pub record Refused : Type 0 where
  pub number : ℕ
  pub beside : Beside
  pub place : ℕ

abbrev pub told_refusal : Refusal → Refused
told_refusal r = record { number = number_of r.error; beside = beside_of r.error; place = r.place }
