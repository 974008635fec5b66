-- `probe::lent::put_bodies` ends: each turn leaves fewer bodies.
use Rattle.std.proofs.Common.{◌-◌}
use Rattle.probe.proofs.lent.put_bodies.Given as goal

abbrev pub decreases-loop-i : goal.decreases-loop-i
decreases-loop-i l = l.count - l.i
