-- `entry_rows::hierarchy_too_wide` meets its contract: each value of the table is tested.
-- Assumes nothing.
use mathlib.Core.Bool.{and-true, and_assoc}
use Rattle.entry_rows.proofs.hierarchy_too_wide.Goals as goal

pub returns : goal.returns
returns c = simp (and-true, and_assoc)
