-- `pieces::scan` meets its contract. The loop's invariant: the walk from the place on, with the kinds seen before it, is the whole walk.
use Prim.Native.Nat.{◌-◌}
use lib.ListN.{length}
use Rattle.walk.specs.Rules.{reader_of}
use Rattle.pieces.proofs.Scanning.{Scanning}
use Rattle.pieces.proofs.scan.Given as goal

abbrev pub invariant-loop-profile : goal.invariant-loop-profile
invariant-loop-profile l = Scanning (reader_of (record { profile = l.profile; entries = l.rules })) l.met l.bytes l.at l.seen

abbrev pub decreases-loop-profile : goal.decreases-loop-profile
decreases-loop-profile l = length l.bytes - l.at
