-- `lay_payloads` meets its contract.
-- Assumes nothing.
use Rattle.buffers.proofs.Laws.{laid_over_lem}
use Rattle.thoquenry_points.proofs.reading.lay_payloads.Goals as goal

pub returns : goal.returns
returns c = (laid_over_lem c.lay_descriptors.ensures c.requires.1, laid_over_lem c.lay_profiles.ensures c.requires.2)
