-- `probe::text::put_bytes` ends: each turn leaves fewer bytes.
use Rattle.std.proofs.Common.{◌-◌, length}
use Rattle.probe.proofs.text.put_bytes.Given as goal

abbrev pub decreases-loop-i : goal.decreases-loop-i
decreases-loop-i l = length l.bytes - l.i
