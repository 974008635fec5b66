-- `plan::put_header` meets its contract: the number is put into what the tag leaves of the output.
use Rattle.wire.proofs.Over.{try_then}
use Rattle.plan.proofs.put_header.Goals as goal

pub returns : goal.returns
returns c = try_then c.put_tag-at.ensures c.put_number.ensures c.requires
