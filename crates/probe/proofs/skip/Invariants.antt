-- `probe::skip` ends: each turn leaves fewer bytes to pass over.
use Rattle.probe.proofs.skip.Given as goal

abbrev pub decreases-loop-buf : goal.decreases-loop-buf
decreases-loop-buf g l = l.left
