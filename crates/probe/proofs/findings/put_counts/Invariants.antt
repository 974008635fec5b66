-- `probe::findings::put_counts` ends: each turn leaves fewer counts.
use Rattle.std.proofs.Common.{◌-◌}
use Rattle.probe.proofs.findings.put_counts.Given as goal

abbrev pub decreases-loop-i : goal.decreases-loop-i
decreases-loop-i l = 15 - l.i
