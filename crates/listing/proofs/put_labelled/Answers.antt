-- `listing::put_labelled` meets its contract: the label and the digits, one after the other.
-- Assumes nothing.
use Rattle.text.proofs.Laws.{laid_then}
use Rattle.listing.proofs.put_labelled.Goals as goal

pub returns : goal.returns
returns c = laid_then c.put-next.ensures c.put_decimal.ensures
