-- `is_base` meets its contract.
-- Assumes nothing.
use Rattle.stereo_set.proofs.set.is_base.Goals as goal

pub returns : goal.returns
returns c = rw c.layer_index-index.ensures
