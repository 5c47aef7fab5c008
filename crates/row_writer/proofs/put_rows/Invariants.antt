-- `row_writer::put_rows` meets its contract. The invariant: the entries of the rows passed are laid in.
-- Assumes nothing.
use Prim.Native.Nat.{◌-◌, ◌≤◌}
use lib.ListN.{take}
use Rattle.buffers.specs.Buffers.{Laid}
use Rattle.loop_writer.specs.Layout.{loop_bytes}
use Rattle.entry_rows.specs.Rows.{entries_below}
use Rattle.row_writer.proofs.put_rows.Given as goal

abbrev pub invariant-loop-i : goal.invariant-loop-i
invariant-loop-i l = (l.i ≤ l.count) × Laid l.initial.out 0 (loop_bytes (take l.i (entries_below l.numbers l.count))) l.place l.out
