-- `listing::put_line` meets its contract: the line is made in an array and copied.
use Rattle.listing.proofs.Texts.{copied}
use Rattle.listing.proofs.put_line.Goals as goal

pub returns : goal.returns
returns c = copied c.make_line-n.ensures c.put_bytes.ensures
