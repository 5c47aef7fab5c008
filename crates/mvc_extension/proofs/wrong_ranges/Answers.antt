-- `wrong_ranges` meets its contract: its three tests.
-- Assumes nothing.
use Rattle.mvc_extension.proofs.wrong_ranges.Goals as goal

pub returns : goal.returns
returns c = rw (c.reversed.ensures, c.reversed-2.ensures, c.meet.ensures)
