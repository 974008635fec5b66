-- `listing::put_size` meets its contract: the size behind the mark of the bit.
use Rattle.listing.proofs.put_size.Goals as goal

pub returns-then-critical : goal.returns-then-critical
returns-then-critical c = rw c.if-critical.true c.put_field.ensures

pub returns : goal.returns
returns c = rw c.if-critical.false c.put_field-2.ensures
