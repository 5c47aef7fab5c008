-- `row_heads::fieldless_head` meets its contract: the numbers in the order of the names.
-- Assumes nothing.
use Rattle.entry_rows.specs.Rows.{fieldless_head}
use Rattle.row_heads.proofs.fieldless_head.Goals as goal

pub returns : goal.returns
unfolding fieldless_head
returns c = cc
