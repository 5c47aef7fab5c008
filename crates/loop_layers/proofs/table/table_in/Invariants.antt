-- `loop_layers::table_in` meets its contract. The invariant: where the walk stands, and that the table so far, continued over the entries left, is that
-- of all.
-- Assumes nothing.
use Prim.Native.Nat.{◌-◌}
use mathlib.Core.Path.{◌≡◌}
use lib.ListN.{length}
use Rattle.loop_layers.specs.Layers.{table_of}
use Rattle.loop_layers.proofs.Walked.{Standing, left_from, table_with}
use Rattle.loop_layers.proofs.table.table_in.Given as goal

abbrev pub invariant-loop-at : goal.invariant-loop-at
invariant-loop-at l =
    Standing l.reading l.bytes l.at × (table_with l.table (left_from l.reading l.bytes l.at) ≡ table_of (left_from l.reading l.bytes 0))

abbrev pub decreases-loop-at : goal.decreases-loop-at
decreases-loop-at l = length l.bytes - l.at
