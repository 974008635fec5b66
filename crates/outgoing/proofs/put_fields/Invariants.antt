-- `outgoing::put_fields` meets its contract: the loop's invariant is that the records of the fields passed stand in the output.
use Prim.Native.Nat.{◌-◌}
use Rattle.outgoing.proofs.Laying.{Laying}
use Rattle.outgoing.proofs.put_fields.Given as goal

abbrev pub invariant-loop-at : goal.invariant-loop-at
invariant-loop-at l = Laying l.word l.tray l.used l.initial.out l.out l.at l.to

abbrev pub decreases-loop-at : goal.decreases-loop-at
decreases-loop-at l = l.used - l.at
