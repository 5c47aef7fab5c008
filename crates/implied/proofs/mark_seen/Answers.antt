-- `implied::mark_seen` meets its contract: the record is marked, and all else is kept.
-- Assumes nothing.
use Rattle.implied.proofs.mark_seen.Goals as goal

pub returns : goal.returns
returns c = rw c.mark.ensures
