-- `probe::feeding::are_same` ends: each turn leaves fewer cells.
use Rattle.std.proofs.Common.{◌-◌}
use Rattle.probe.proofs.feeding.are_same.Given as goal

abbrev pub decreases-loop-i : goal.decreases-loop-i
decreases-loop-i l = 10 - l.i
