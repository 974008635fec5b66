-- `plan::put_field` meets its contract: the body is put into what the header leaves of the output.
use Rattle.wire.proofs.Over.{try_then}
use Rattle.plan.specs.Tray.{field_bytes}
use Rattle.plan.proofs.put_field.Goals as goal

pub returns : goal.returns
unfolding field_bytes
returns c = try_then c.put_header-at.ensures c.put_bytes.ensures c.requires.1
