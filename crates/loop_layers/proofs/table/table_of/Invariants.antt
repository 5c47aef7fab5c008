-- `loop_layers::table_of` meets its contract. The invariant: the table so far, continued over the entries left of those that count, is that of all.
-- Assumes nothing.
use mathlib.Core.Path.{◌≡◌}
use lib.ListN.{drop}
use Rattle.loop_layers.specs.Layers.{table_of}
use Rattle.loop_layers.proofs.Walked.{table_with}
use Rattle.loop_layers.proofs.table.table_of.Given as goal

abbrev pub invariant-loop-entry : goal.invariant-loop-entry
invariant-loop-entry l = table_with l.table (drop l.entry-index l.entry-items) ≡ table_of l.entry-items
