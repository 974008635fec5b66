-- `walk::walk` meets its contract: it is the walk over the bytes that the limit leaves, and what it found; and what follows the end record.
use mathlib.Core.Path.{ap, subst, ◌∙◌}
use native.Mathlib.Omega.{arith}
use mathlib.Core.List.{List}
use Prim.Native.Nat.{ℕ}
use lib.ListN.{length, length-take}
use Rattle.walk.specs.Found.{Walks}
use Rattle.walk.specs.Code.{ended_in}
use Rattle.walk.proofs.Telling.{refused_found, ended_found}
use Rattle.walk.proofs.walk.Goals as goal

pub walk_cut-halted-requires : goal.walk_cut-halted-requires
walk_cut-halted-requires c = omega (arith, ap length c.cut_at-cut.ensures.holds, length-take c.args.limit c.args.message.now)

pub returns-in-End : goal.returns-in-End
returns-in-End c =
    let a = c.args in
    let w = c.walk_cut-halted in
    let cut = c.cut_at-cut.ensures.holds in
    ended_found (record { profile = a.profile; entries = a.rules.now }) a.message.now a.limit w.result _
    (subst (λ (s : List ℕ). Walks (record { profile = a.profile; entries = a.rules.now }) s w.result w.new.cells) cut w.ensures)
    c.in-End.is c.ended.result
    (c.ended.ensures ∙ ap (λ (s : List ℕ). ended_in a.profile a.limit w.result.place w.result.next (length s)) cut)

pub returns-in-Refused : goal.returns-in-Refused
returns-in-Refused c =
    let a = c.args in
    let w = c.walk_cut-halted in
    let cut = c.cut_at-cut.ensures.holds in
    refused_found (record { profile = a.profile; entries = a.rules.now }) a.message.now a.limit w.result _
    (subst (λ (s : List ℕ). Walks (record { profile = a.profile; entries = a.rules.now }) s w.result w.new.cells) cut w.ensures)
    _ c.in-Refused.is
