-- `probe::feeding::feed_each` ends: each turn leaves fewer calls.
use Rattle.std.proofs.Common.{◌-◌}
use Rattle.probe.proofs.feeding.feed_each.Given as goal

abbrev pub decreases-loop-i : goal.decreases-loop-i
decreases-loop-i l = l.calls - l.i
