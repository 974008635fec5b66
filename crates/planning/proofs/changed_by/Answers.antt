-- `planning::changed_by` meets its contract: each arm asks the plan for its change.
use Rattle.planning.proofs.changed_by.Goals as goal

pub returns-in-SetPort : goal.returns-in-SetPort
returns-in-SetPort c = rw c.in-SetPort.is c.set_port.ensures

pub returns-in-ClearPort : goal.returns-in-ClearPort
returns-in-ClearPort c = rw c.in-ClearPort.is c.clear_port.ensures

pub returns-in-SetNameLength : goal.returns-in-SetNameLength
returns-in-SetNameLength c = rw c.in-SetNameLength.is c.set_name_length.ensures

pub returns-in-ClearNameLength : goal.returns-in-ClearNameLength
returns-in-ClearNameLength c = rw c.in-ClearNameLength.is c.clear_name_length.ensures

pub returns-in-SetKeepAlive : goal.returns-in-SetKeepAlive
returns-in-SetKeepAlive c = rw c.in-SetKeepAlive.is c.set_keep_alive.ensures

pub returns-in-ClearKeepAlive : goal.returns-in-ClearKeepAlive
returns-in-ClearKeepAlive c = rw c.in-ClearKeepAlive.is c.clear_keep_alive.ensures
