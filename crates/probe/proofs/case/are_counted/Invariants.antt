-- `probe::case::are_counted` ends: each turn leaves fewer counts.
use Rattle.std.proofs.Common.{◌-◌}
use Rattle.probe.proofs.case.are_counted.Given as goal

abbrev pub decreases-loop-i : goal.decreases-loop-i
decreases-loop-i l = l.count - l.i
