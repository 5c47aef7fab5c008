-- `lay_points` meets its contract.
-- Assumes nothing.
use Rattle.buffers.proofs.Laws.{laid_over_lem}
use Rattle.thoquenry_points.proofs.reading.lay_points.Goals as goal

pub returns : goal.returns
returns c = (laid_over_lem c.lay_points.ensures c.requires.1, laid_over_lem c.lay_references.ensures c.requires.2, laid_over_lem c.lay_flags.ensures c.requires.3, laid_over_lem c.lay_streams.ensures c.requires.4)
