-- `row_bytes::fieldless_bytes` meets its contract: the head of the entry, with nothing behind it.
-- Assumes nothing.
use mathlib.Core.Path.{◌∙◌}
use native.Mathlib.Omega.{arith}
use Rattle.entry_rows.proofs.Judged.{type_bound, pid_bound}
use Rattle.row_bytes.proofs.Rows.{fieldless_row}
use Rattle.row_bytes.proofs.fieldless_bytes.Goals as goal

pub overflow_cast-row : goal.overflow_cast-row
overflow_cast-row c = record { fits = type_bound _ c.requires.1 }

pub entry_head-requires : goal.entry_head-requires
entry_head-requires c = (pid_bound _ c.requires.1, omega arith)

pub returns : goal.returns
returns c = let start = c.before.before.before.before in c.entry_head.ensures ∙ fieldless_row start.args.row.now start.requires.1 start.requires.2 start.requires.3
