-- `probe::lent::is_same` ends: each turn leaves fewer bytes.
use Rattle.std.proofs.Common.{◌-◌}
use Rattle.probe.proofs.lent.is_same.Given as goal

abbrev pub decreases-loop-i : goal.decreases-loop-i
decreases-loop-i l = l.to - l.i
