-- `descriptors::nothing_seen` meets its contract: its array is the blank one.
-- Assumes nothing.
use Rattle.descriptors.proofs.looking.nothing_seen.Goals as goal

pub returns : goal.returns
returns c = rw c.no_layers.ensures
