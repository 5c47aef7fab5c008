-- `refused` meets its contract: two blank entries and two blank descriptors.
-- Assumes nothing.
use Rattle.stereo_set.proofs.set.refused.Goals as goal

pub returns : goal.returns
returns c = rw (c.blank_entry.ensures, c.blank_entry-2.ensures, c.no_extension.ensures, c.no_extension-2.ensures)
