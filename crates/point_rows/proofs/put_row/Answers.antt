-- `put_row` meets its contract.
-- Assumes nothing.
use Rattle.buffers.proofs.Laws.{laid_as}
use Rattle.point_rows.proofs.put_row.Goals as goal

pub returns : goal.returns
returns c = laid_as c.row_at-row.ensures c.put_numbers.ensures
