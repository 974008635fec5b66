-- `record::protocol_at` meets its contract: what was found in the list is handed on under its type.
use Rattle.record.proofs.Entry.{handed_on}
use Rattle.record.proofs.protocol_at.Goals as goal

pub returns-in-Number : goal.returns-in-Number
returns-in-Number c = handed_on _ _ _ _ _ c.in-Number.is c.number_in-entry.ensures c.of.ensures.holds

pub returns-in-Nothing : goal.returns-in-Nothing
returns-in-Nothing c = handed_on _ _ _ _ _ c.in-Nothing.is c.number_in-entry.ensures c.of.ensures.holds
