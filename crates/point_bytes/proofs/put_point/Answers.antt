-- `put_point` meets its contract: one half after the other.
-- Assumes nothing.
use Rattle.buffers.proofs.Laws.{laid_as, laid_then}
use Rattle.point_bytes.proofs.Lists.{two_halves}
use Rattle.point_bytes.proofs.put_point.Goals as goal

pub returns : goal.returns
returns c = laid_as (two_halves c.args.row.now c.args.references.now c.args.layers.now) (laid_then c.put_lists-place.ensures c.put_rates.ensures)
