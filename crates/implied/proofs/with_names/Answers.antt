-- `implied::with_names` meets its contract: which arm was taken says whether there was a record.
-- Assumes nothing.
use Rattle.implied.proofs.with_names.Goals as goal

pub returns-in-NoRecord : goal.returns-in-NoRecord
returns-in-NoRecord c = rw (c.in-NoRecord.is, c.implied_names.ensures)
