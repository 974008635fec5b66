-- `request::denied_in` meets its contract: by cases, as the definition goes.
use Rattle.request.proofs.denied_in.Goals as goal

pub returns-in-KeyExchange : goal.returns-in-KeyExchange
returns-in-KeyExchange c = rw (c.in-Accepted.is, c.in-KeyExchange.is)
