-- What the code's own cases say.
use Rattle.std.specs.Prelude.{true, false}
use Rattle.plan.specs.Plan as plans
use Rattle.plan.specs.declared.Plan.{Plan}
use Rattle.plan.specs.declared.Port.TheVariants as port
use Rattle.plan.specs.declared.NameLength.TheVariants as name
use Rattle.planning.specs.Planned as planned
use Rattle.planning.specs.declared.Held.{Held}
use Rattle.planning.specs.declared.Held.TheVariants as plan
use Rattle.planning.specs.declared.Change.{Change}
use Rattle.planning.specs.declared.Change.TheVariants as change

abbrev pub told_held : Held → planned.Held
told_held (plan.Plan x) = planned.held x
told_held plan.None = planned.no_plan

-- what a change makes of a plan
abbrev pub changed_by : Change → Plan → Plan
changed_by (change.SetPort n) x = plans.with_port x (port.Number n)
changed_by change.ClearPort x = plans.with_port x port.None
changed_by (change.SetNameLength n) x = plans.with_name x (name.Bytes n)
changed_by change.ClearNameLength x = plans.with_name x name.None
changed_by change.SetKeepAlive x = plans.with_keep_alive x true
changed_by change.ClearKeepAlive x = plans.with_keep_alive x false
