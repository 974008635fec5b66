-- `probe::records::put_list` ends: each turn leaves fewer entries.
use Rattle.std.proofs.Common.{◌-◌}
use Rattle.probe.proofs.records.put_list.Given as goal

abbrev pub decreases-loop-i : goal.decreases-loop-i
decreases-loop-i l = l.n - l.i
