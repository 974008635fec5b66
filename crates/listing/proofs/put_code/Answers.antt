-- `listing::put_code` meets its contract: nothing, or the code behind its text.
use Rattle.listing.proofs.Texts.{put_none}
use Rattle.listing.proofs.put_code.Goals as goal

pub returns-in-None : goal.returns-in-None
returns-in-None c = rw c.in-None.is put_none

pub returns-in-Number : goal.returns-in-Number
returns-in-Number c = rw c.in-Number.is c.put_field.ensures

pub returns-in-Protocol : goal.returns-in-Protocol
returns-in-Protocol c = rw c.in-Protocol.is c.put_field-in-Protocol.ensures

pub returns-in-Algorithm : goal.returns-in-Algorithm
returns-in-Algorithm c = rw c.in-Algorithm.is c.put_field-in-Algorithm.ensures
