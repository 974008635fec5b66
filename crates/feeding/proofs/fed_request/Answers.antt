-- `feeding::fed_request` meets its contract: the connection that the cells hold is handed on, and what comes of it is put; a refusal's place has thirty-two bits.
use mathlib.Core.Path.{refl, sym, ap, ◌∙◌}
use Rattle.request.specs.Request.{refused_with}
use Rattle.pieces.specs.Reads.{request_read, told_request}
use Rattle.reading.specs.Read.{request_given}
use Rattle.feeding.specs.Code.{told_kept}
use Rattle.feeding.proofs.Refusing.{request_tells}
use Rattle.feeding.proofs.Feeding.{unheld, fed, fed_accepted, fed_place}
use Rattle.feeding.proofs.fed_request.Goals as goal

pub returns-in_default : goal.returns-in_default
returns-in_default c = unheld request_read request_given _ _ _ _ _ _ (ap told_kept (sym c.in_default.is) ∙ c.connection_in-kept.ensures) c.refused.ensures

pub refused-requires-in-Refused : goal.refused-requires-in-Refused
refused-requires-in-Refused c =
    fed_place request_read refused_with request_tells _ _
    (ap told_kept (sym c.in-Connection.is) ∙ c.connection_in-kept.ensures)
    c.feed_request-fed.ensures (ap told_request c.in-Refused.is)

pub returns-in-Waiting : goal.returns-in-Waiting
returns-in-Waiting c =
    fed request_read request_given _ _ _ _ _ _
    (ap told_kept (sym c.in-Connection.is) ∙ c.connection_in-kept.ensures)
    c.feed_request-fed.ensures (ap told_request c.in-Waiting.is) refl c.connection_cells.ensures refl

pub returns-in-Accepted : goal.returns-in-Accepted
returns-in-Accepted c =
    fed_accepted request_read request_given _ _ _ _ _ _
    (ap told_kept (sym c.in-Connection.is) ∙ c.connection_in-kept.ensures)
    c.feed_request-fed.ensures (ap told_request c.in-Accepted.is) c.request_cells.ensures c.connection_cells.ensures

pub returns-in-Refused : goal.returns-in-Refused
returns-in-Refused c =
    fed request_read request_given _ _ _ _ _ _
    (ap told_kept (sym c.in-Connection.is) ∙ c.connection_in-kept.ensures)
    c.feed_request-fed.ensures (ap told_request c.in-Refused.is) c.refused-in-Refused.ensures c.connection_cells.ensures refl
