-- `feeding::fed_reply` meets its contract: the connection that the cells hold is handed on, and what comes of it is put; a refusal's place has thirty-two bits.
use mathlib.Core.Path.{refl, sym, ap, ◌∙◌}
use Rattle.reply.specs.Reply.{refused_with}
use Rattle.pieces.specs.Reads.{reply_read, told_reply}
use Rattle.reading.specs.Read.{reply_given}
use Rattle.feeding.specs.Code.{told_kept}
use Rattle.feeding.proofs.Refusing.{reply_tells}
use Rattle.feeding.proofs.Feeding.{unheld, fed, fed_accepted, fed_place}
use Rattle.feeding.proofs.fed_reply.Goals as goal

pub returns-in_default : goal.returns-in_default
returns-in_default c = unheld reply_read reply_given _ _ _ _ _ _ (ap told_kept (sym c.in_default.is) ∙ c.connection_in-kept.ensures) c.refused.ensures

pub refused-requires-in-Refused : goal.refused-requires-in-Refused
refused-requires-in-Refused c =
    fed_place reply_read refused_with reply_tells _ _
    (ap told_kept (sym c.in-Connection.is) ∙ c.connection_in-kept.ensures)
    c.feed_reply-replied.ensures (ap told_reply c.in-Refused.is)

pub returns-in-Waiting : goal.returns-in-Waiting
returns-in-Waiting c =
    fed reply_read reply_given _ _ _ _ _ _
    (ap told_kept (sym c.in-Connection.is) ∙ c.connection_in-kept.ensures)
    c.feed_reply-replied.ensures (ap told_reply c.in-Waiting.is) refl c.connection_cells.ensures refl

pub returns-in-Accepted : goal.returns-in-Accepted
returns-in-Accepted c =
    fed_accepted reply_read reply_given _ _ _ _ _ _
    (ap told_kept (sym c.in-Connection.is) ∙ c.connection_in-kept.ensures)
    c.feed_reply-replied.ensures (ap told_reply c.in-Accepted.is) c.reply_cells.ensures c.connection_cells.ensures

pub returns-in-Refused : goal.returns-in-Refused
returns-in-Refused c =
    fed reply_read reply_given _ _ _ _ _ _
    (ap told_kept (sym c.in-Connection.is) ∙ c.connection_in-kept.ensures)
    c.feed_reply-replied.ensures (ap told_reply c.in-Refused.is) c.refused-in-Refused.ensures c.connection_cells.ensures refl
