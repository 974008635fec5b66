-- `listing::put_last` meets its contract: a newline behind the answer's text.
use Rattle.listing.proofs.Texts.{most, most_rest, most_then}
use Rattle.listing.proofs.put_last.Goals as goal

pub returns : goal.returns
returns c = most_then c.put_answer-a.ensures (most (most_rest c.put_answer-a.ensures c.requires) c.put_bytes.ensures) c.requires
