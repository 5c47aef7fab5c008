-- `entry::is_part` meets its contract.
-- Assumes nothing.
use Rattle.stereo_writer.proofs.entry.is_part.Goals as goal

pub returns : goal.returns
returns c = rw (c.is_layer.ensures, c.is_base.ensures, c.is_second.ensures)
