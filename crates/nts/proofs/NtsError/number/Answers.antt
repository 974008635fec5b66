-- `nts::NtsError::number` meets its contract: each arm knows the case, and the definition computes at it.
use Rattle.nts.proofs.NtsError.number.Goals as goal

pub returns-in-UnexpectedEof : goal.returns-in-UnexpectedEof
returns-in-UnexpectedEof c = rw c.in-UnexpectedEof.is

pub returns-in-InvalidData : goal.returns-in-InvalidData
returns-in-InvalidData c = rw c.in-InvalidData.is

pub returns-in-UnrecognizedCriticalRecord : goal.returns-in-UnrecognizedCriticalRecord
returns-in-UnrecognizedCriticalRecord c = rw c.in-UnrecognizedCriticalRecord.is

pub returns-in-Invalid : goal.returns-in-Invalid
returns-in-Invalid c = rw c.in-Invalid.is

pub returns-in-AeadNotSupported : goal.returns-in-AeadNotSupported
returns-in-AeadNotSupported c = rw c.in-AeadNotSupported.is

pub returns-in-IncorrectSizedKey : goal.returns-in-IncorrectSizedKey
returns-in-IncorrectSizedKey c = rw c.in-IncorrectSizedKey.is

pub returns-in-TableFull : goal.returns-in-TableFull
returns-in-TableFull c = rw c.in-TableFull.is

pub returns-in-InvalidInput : goal.returns-in-InvalidInput
returns-in-InvalidInput c = rw c.in-InvalidInput.is

pub returns-in-InvalidValue : goal.returns-in-InvalidValue
returns-in-InvalidValue c = rw c.in-InvalidValue.is

pub returns-in-OutputTooShort : goal.returns-in-OutputTooShort
returns-in-OutputTooShort c = rw c.in-OutputTooShort.is

pub returns-in-Error : goal.returns-in-Error
returns-in-Error c = rw c.in-Error.is

pub returns-in-UnknownWarning : goal.returns-in-UnknownWarning
returns-in-UnknownWarning c = rw c.in-UnknownWarning.is

pub returns-in-NoOverlappingProtocol : goal.returns-in-NoOverlappingProtocol
returns-in-NoOverlappingProtocol c = rw c.in-NoOverlappingProtocol.is

pub returns-in-NoOverlappingAlgorithm : goal.returns-in-NoOverlappingAlgorithm
returns-in-NoOverlappingAlgorithm c = rw c.in-NoOverlappingAlgorithm.is

pub returns-in-NoCookie : goal.returns-in-NoCookie
returns-in-NoCookie c = rw c.in-NoCookie.is

pub returns-in-BufferFull : goal.returns-in-BufferFull
returns-in-BufferFull c = rw c.in-BufferFull.is

pub returns-in-ProtocolNotOffered : goal.returns-in-ProtocolNotOffered
returns-in-ProtocolNotOffered c = rw c.in-ProtocolNotOffered.is

pub returns-in-AeadNotOffered : goal.returns-in-AeadNotOffered
returns-in-AeadNotOffered c = rw c.in-AeadNotOffered.is

pub returns-in-NotAllowed : goal.returns-in-NotAllowed
returns-in-NotAllowed c = rw c.in-NotAllowed.is
