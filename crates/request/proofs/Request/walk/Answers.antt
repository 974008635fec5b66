-- `request::Request::walk` meets its contract: what the walk found, as one.
use Rattle.request.proofs.Request.walk.Goals as goal

pub returns : goal.returns
returns c = c.walk_into-walked.ensures
