-- `row_writer::weigh_rows` meets its contract. The invariant is what is known of the entries weighed.
-- Assumes nothing.
use Prim.Native.Nat.{◌-◌}
use Rattle.loop_writer.proofs.Weights.{Weighing}
use Rattle.entry_rows.specs.Rows.{entries_below}
use Rattle.row_writer.proofs.weigh_rows.Given as goal

abbrev pub invariant-loop-i : goal.invariant-loop-i
invariant-loop-i l = Weighing (entries_below l.numbers l.count) l.pids l.indices l.weighed l.i
