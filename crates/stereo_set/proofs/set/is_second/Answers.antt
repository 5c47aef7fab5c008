-- `is_second` meets its contract.
-- Assumes nothing.
use Rattle.stereo_set.proofs.set.is_second.Goals as goal

pub returns : goal.returns
returns c = rw c.layer_index-index.ensures
