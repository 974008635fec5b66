-- `reading::record_cells` meets its contract: each arm knows which record it is.
use Rattle.reading.proofs.record_cells.Goals as goal

pub returns-in-EndOfMessage : goal.returns-in-EndOfMessage
returns-in-EndOfMessage c = rw c.in-EndOfMessage.is c.skipped.ensures

pub returns-in-NextProtocol : goal.returns-in-NextProtocol
returns-in-NextProtocol c = rw c.in-NextProtocol.is c.parted.ensures

pub returns-in-Error : goal.returns-in-Error
returns-in-Error c = rw c.in-Error.is c.numbered.ensures

pub returns-in-Warning : goal.returns-in-Warning
returns-in-Warning c = rw c.in-Warning.is c.numbered-in-Warning.ensures

pub returns-in-AeadAlgorithm : goal.returns-in-AeadAlgorithm
returns-in-AeadAlgorithm c = rw c.in-AeadAlgorithm.is c.parted-in-AeadAlgorithm.ensures

pub returns-in-NewCookie : goal.returns-in-NewCookie
returns-in-NewCookie c = rw c.in-NewCookie.is c.parted-in-NewCookie.ensures

pub returns-in-Server : goal.returns-in-Server
returns-in-Server c = rw c.in-Server.is c.parted-in-Server.ensures

pub returns-in-Port : goal.returns-in-Port
returns-in-Port c = rw c.in-Port.is c.numbered-in-Port.ensures

pub returns-in-KeepAlive : goal.returns-in-KeepAlive
returns-in-KeepAlive c = rw c.in-KeepAlive.is c.skipped-in-KeepAlive.ensures

pub returns-in-SupportedNextProtocolList : goal.returns-in-SupportedNextProtocolList
returns-in-SupportedNextProtocolList c = rw c.in-SupportedNextProtocolList.is c.parted-in-SupportedNextProtocolList.ensures

pub returns-in-SupportedAlgorithmList : goal.returns-in-SupportedAlgorithmList
returns-in-SupportedAlgorithmList c = rw c.in-SupportedAlgorithmList.is c.parted-in-SupportedAlgorithmList.ensures

pub returns-in-FixedKeyRequest : goal.returns-in-FixedKeyRequest
returns-in-FixedKeyRequest c = rw c.in-FixedKeyRequest.is

pub returns-in-NtpServerDeny : goal.returns-in-NtpServerDeny
returns-in-NtpServerDeny c = rw c.in-NtpServerDeny.is c.parted-in-NtpServerDeny.ensures

pub returns-in-Authentication : goal.returns-in-Authentication
returns-in-Authentication c = rw c.in-Authentication.is c.parted-in-Authentication.ensures

pub returns-in-Unknown : goal.returns-in-Unknown
returns-in-Unknown c = rw c.in-Unknown.is c.parted-in-Unknown.ensures
