-- `probe::lent::copy` ends: each turn leaves fewer bytes.
use Rattle.std.proofs.Common.{◌-◌, length}
use Rattle.probe.proofs.lent.copy.Given as goal

abbrev pub decreases-loop-i : goal.decreases-loop-i
decreases-loop-i l = length l.dst - l.i
