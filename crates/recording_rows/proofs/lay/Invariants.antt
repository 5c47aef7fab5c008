-- `recording_rows::lay` meets its contract. The invariant: the rows of the packets so far stand in the columns. The measure is the number of packets left.
-- Assumes nothing.
use Prim.Native.Nat.{◌-◌}
use lib.ListN.{length}
use Rattle.recording_rows.specs.Columns.{beside}
use Rattle.recording_rows.proofs.Laying.{Laying}
use Rattle.recording_rows.proofs.lay.Given as goal

abbrev pub invariant-loop-i : goal.invariant-loop-i
invariant-loop-i l =
    Laying l.table l.bytes l.first l.starts l.place (beside l.initial.indices l.initial.decodings l.initial.matches l.initial.trefs) l.i (beside l.indices l.decodings l.matches l.trefs)
