-- `row_writer::pair_in` meets its contract. The invariant is what is known of the entries of the rows passed.
-- Assumes nothing.
use Prim.Native.Nat.{◌-◌}
use Rattle.loop_writer.proofs.Pairs.{Viewed}
use Rattle.entry_rows.specs.Rows.{entries_below}
use Rattle.row_writer.proofs.pair_in.Given as goal

abbrev pub invariant-loop-i : goal.invariant-loop-i
invariant-loop-i l = Viewed (entries_below l.numbers l.count) l.views l.i
