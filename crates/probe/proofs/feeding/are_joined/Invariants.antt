-- `probe::feeding::are_joined` ends: each turn leaves fewer pieces.
use Rattle.std.proofs.Common.{◌-◌}
use Rattle.probe.proofs.feeding.are_joined.Given as goal

abbrev pub decreases-loop-i : goal.decreases-loop-i
decreases-loop-i l = l.pieces - l.i
