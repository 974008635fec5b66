-- `record::write::layout_of` meets its contract: each arm knows the case, whose kind and value the layout is made of.
use Rattle.record.proofs.write.layout_of.Goals as goal

pub returns-in-EndOfMessage : goal.returns-in-EndOfMessage
returns-in-EndOfMessage c = rw c.in-EndOfMessage.is c.with_parts.ensures

pub returns-in-NextProtocol : goal.returns-in-NextProtocol
returns-in-NextProtocol c = rw c.in-NextProtocol.is c.with_parts-in-NextProtocol.ensures

pub returns-in-Error : goal.returns-in-Error
returns-in-Error c = rw c.in-Error.is c.with_number.ensures

pub returns-in-Warning : goal.returns-in-Warning
returns-in-Warning c = rw c.in-Warning.is c.with_number-in-Warning.ensures

pub returns-in-AeadAlgorithm : goal.returns-in-AeadAlgorithm
returns-in-AeadAlgorithm c = rw c.in-AeadAlgorithm.is c.with_parts-in-AeadAlgorithm.ensures

pub returns-in-NewCookie : goal.returns-in-NewCookie
returns-in-NewCookie c = rw c.in-NewCookie.is c.with_parts-in-NewCookie.ensures

pub returns-in-Server : goal.returns-in-Server
returns-in-Server c = rw c.in-Server.is c.with_parts-in-Server.ensures

pub returns-in-Port : goal.returns-in-Port
returns-in-Port c = rw c.in-Port.is c.with_number-in-Port.ensures

pub returns-in-KeepAlive : goal.returns-in-KeepAlive
returns-in-KeepAlive c = rw c.in-KeepAlive.is c.with_parts-in-KeepAlive.ensures

pub returns-in-SupportedNextProtocolList : goal.returns-in-SupportedNextProtocolList
returns-in-SupportedNextProtocolList c = rw c.in-SupportedNextProtocolList.is c.with_parts-in-SupportedNextProtocolList.ensures

pub returns-in-SupportedAlgorithmList : goal.returns-in-SupportedAlgorithmList
returns-in-SupportedAlgorithmList c = rw c.in-SupportedAlgorithmList.is c.with_parts-in-SupportedAlgorithmList.ensures

pub returns-in-FixedKeyRequest : goal.returns-in-FixedKeyRequest
returns-in-FixedKeyRequest c = rw c.in-FixedKeyRequest.is c.with_parts-in-FixedKeyRequest.ensures

pub returns-in-NtpServerDeny : goal.returns-in-NtpServerDeny
returns-in-NtpServerDeny c = rw c.in-NtpServerDeny.is c.with_parts-in-NtpServerDeny.ensures

pub returns-in-Authentication : goal.returns-in-Authentication
returns-in-Authentication c = rw c.in-Authentication.is c.with_parts-in-Authentication.ensures

pub returns-in-Unknown : goal.returns-in-Unknown
returns-in-Unknown c = rw c.in-Unknown.is
