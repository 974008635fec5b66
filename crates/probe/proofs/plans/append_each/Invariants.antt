-- `probe::plans::append_each` ends: each turn leaves fewer cookies.
use Rattle.std.proofs.Common.{◌-◌}
use Rattle.probe.proofs.plans.append_each.Given as goal

abbrev pub decreases-loop-i : goal.decreases-loop-i
decreases-loop-i l = l.count - l.i
